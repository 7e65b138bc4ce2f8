-- A name, or a number: from what the node says.
use mathlib.Core.Path.{ap, ◌∙◌}
use native.Mathlib.Omega.{arith}
use lib.IntN.{ℤ, pos}
use lib.ListN.{length}
use mir.Syntax.{w64}
use mir.Facts.{to_z_pos}
use Rattle.std.specs.Prelude.{Some}
use Rattle.value.proofs.Kit.{back}
use Rattle.tree.specs.Node.{kind_of, token_of}
use Rattle.machine.specs.Evaluate.{valued}
use Rattle.eval.specs.declared.channel.Item.TheVariants.{Name}
use Rattle.eval.specs.Channels.{item_of}
use Rattle.eval.proofs.Channels.{name-is, number-part, number_is}
use Rattle.eval.proofs.channel.item_of.Goals as goal

pub overflow_cast-n : goal.overflow_cast-n
unfolding token_of
overflow_cast-n c = omega (arith, c.token_of-n.ensures)

pub returns-then-kind_of-eq-CHANNEL : goal.returns-then-kind_of-eq-CHANNEL
unfolding token_of
returns-then-kind_of-eq-CHANNEL c =
    let T = c.args.context.now.nodes.now in
    let L = c.args.context.now.locals.now in
    let k = c.args.k in
    let is = c.kind_of.ensures ∙ ap kind_of c.cell_at-cell.ensures in
    let e = to_z_pos w64 {n = c.token_of-n.result} (omega (arith, c.token_of-n.ensures)) ∙ ap pos (c.token_of-n.ensures ∙ ap token_of c.cell_at-cell.ensures) in
    λ x h. ap (λ (z : ℤ). Some (Name z)) e ∙ name-is T k c.kind_of.result is L c.if-kind_of-eq-CHANNEL.true x h

pub eval_node_lent-requires : goal.eval_node_lent-requires
eval_node_lent-requires c =
    let T = c.args.context.now.nodes.now in
    let L = c.args.context.now.locals.now in
    let k = c.args.k in
    let is = c.kind_of.ensures ∙ ap kind_of c.cell_at-cell.ensures in
    number-part T k c.kind_of.result is c.if-kind_of-eq-CHANNEL.false c.requires.0 (length L) c.requires.1

pub returns : goal.returns
unfolding valued item_of
returns c =
    let T = c.args.context.now.nodes.now in
    let L = c.args.context.now.locals.now in
    let k = c.args.k in
    let is = c.kind_of.ensures ∙ ap kind_of c.cell_at-cell.ensures in
    let d = back c.in_ok-value.value (omega arith) in
    λ y h. simp d (rw c.in_ok-value.was at (number_is T k c.kind_of.result is c.if-kind_of-eq-CHANNEL.false L c.eval_node_lent.result c.eval_node_lent.ensures y h))

pub returns-in_err-value : goal.returns-in_err-value
unfolding valued item_of
returns-in_err-value c =
    let T = c.args.context.now.nodes.now in
    let L = c.args.context.now.locals.now in
    let k = c.args.k in
    let is = c.kind_of.ensures ∙ ap kind_of c.cell_at-cell.ensures in
    rw c.from_residual.ensures (λ y h. rw c.in_err-value.was at (number_is T k c.kind_of.result is c.if-kind_of-eq-CHANNEL.false L c.eval_node_lent.result c.eval_node_lent.ensures y h))
