-- `eval::scale_of` meets its contract: a number, or a local in ten-thousandths. From what the node says.
use mathlib.Core.Path.{ap, ◌∙◌}
use Rattle.tree.specs.Node.{kind_of}
use lib.IntN.{ℤ, pos, ◌*ℤ◌}
use lib.ListN.{get_or}
use Prim.Native.Nat.{ℕ}
use Rattle.value.proofs.Kit.{back}
use Rattle.word.specs.Number.{unit}
use Rattle.tree.specs.Node.{token_of}
use Rattle.tables.specs.Settled.{number_of}
use Rattle.machine.specs.Evaluate.{in_rate}
use Rattle.eval.specs.Rates.{rate_of}
use Rattle.eval.proofs.Rates.{fixed-is, local-is}
use Rattle.eval.proofs.scale_of.Goals as goal

pub returns-then-kind_of-eq-NUMBER : goal.returns-then-kind_of-eq-NUMBER
returns-then-kind_of-eq-NUMBER c x h =
    let s = c in
    let T = s.args.context.now.nodes.now in
    let L = s.args.context.now.locals.now in
    let k = s.args.k in
    let is = c.kind_of.ensures ∙ ap kind_of c.cell_at-cell.ensures in
    (simp (back c.number_of.result c.number_of.type_inv) at c.rate_in.ensures) ∙ ap (λ (z : ℤ). rate_of (in_rate z)) (c.number_of.ensures ∙ ap number_of c.cell_at-cell.ensures) ∙ fixed-is T k c.kind_of.result is L c.if-kind_of-eq-NUMBER.true x h

pub returns : goal.returns
returns c x h =
    let s = c in
    let T = s.args.context.now.nodes.now in
    let L = s.args.context.now.locals.now in
    let k = s.args.k in
    let is = c.kind_of.ensures ∙ ap kind_of c.cell_at-cell.ensures in
    let i = c.token_of.ensures ∙ ap token_of c.cell_at-cell.ensures in
    (simp (back c.local_at.result c.local_at.type_inv) at c.scaled.ensures) ∙ ap (λ (z : ℤ). rate_of (in_rate (pos unit *ℤ z))) (c.local_at.ensures ∙ ap (λ (j : ℕ). get_or L j (pos 0)) i) ∙ local-is T k c.kind_of.result is L c.if-kind_of-eq-NUMBER.false x h
