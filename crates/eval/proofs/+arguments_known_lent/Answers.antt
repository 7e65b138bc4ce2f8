use mathlib.Core.Path.{ap, sym, ◌∙◌}
use native.Mathlib.Omega.{arith}
use lib.ListN.{length}
use Rattle.tree.specs.Node.{kind_of, left_of}
use Rattle.eval.proofs.Exprs.{known}
use Rattle.eval.proofs.Arguments.{last-part, last-known, more_parts, more-known, first-unknown}
use Rattle.eval.proofs.+arguments_known_lent.Goals as goal

pub eval_node_lent-requires : goal.eval_node_lent-requires
eval_node_lent-requires t c =
    let s = c in
    let T = s.args.context.now.nodes.now in
    let L = s.args.context.now.locals.now in
    let k = s.args.k in
    let is = c.kind_of.ensures ∙ ap kind_of c.cell_at-cell.ensures in
    last-part T k c.kind_of.result is c.if-kind_of-ne-ARGUMENT.true (length L) s.requires

pub returns-then-kind_of-ne-ARGUMENT : goal.returns-then-kind_of-ne-ARGUMENT
returns-then-kind_of-ne-ARGUMENT t c x h =
    let s = c in
    let T = s.args.context.now.nodes.now in
    let L = s.args.context.now.locals.now in
    let k = s.args.k in
    let is = c.kind_of.ensures ∙ ap kind_of c.cell_at-cell.ensures in
    c.is_some.ensures ∙ known _ ∙ last-known T k c.kind_of.result is c.if-kind_of-ne-ARGUMENT.true L c.eval_node_lent.result c.eval_node_lent.ensures x h

pub eval_node_lent-requires-2 : goal.eval_node_lent-requires-2
eval_node_lent-requires-2 t c =
    let s = c in
    let T = s.args.context.now.nodes.now in
    let L = s.args.context.now.locals.now in
    let k = s.args.k in
    let is = c.kind_of.ensures ∙ ap kind_of c.cell_at-cell.ensures in
    let f = more_parts T k c.kind_of.result is c.if-kind_of-ne-ARGUMENT.false (length L) s.requires in
    let e = c.left_of.ensures ∙ ap left_of c.cell_at-cell.ensures in
    rw e f.1

pub overflow_sub-k : goal.overflow_sub-k
overflow_sub-k t c =
    let s = c in
    let T = s.args.context.now.nodes.now in
    let L = s.args.context.now.locals.now in
    let k = s.args.k in
    let is = c.kind_of.ensures ∙ ap kind_of c.cell_at-cell.ensures in
    let f = more_parts T k c.kind_of.result is c.if-kind_of-ne-ARGUMENT.false (length L) s.requires in
    f.0

pub arguments_known_lent-requires : goal.arguments_known_lent-requires
arguments_known_lent-requires t c =
    let s = c in
    let T = s.args.context.now.nodes.now in
    let L = s.args.context.now.locals.now in
    let k = s.args.k in
    let is = c.kind_of.ensures ∙ ap kind_of c.cell_at-cell.ensures in
    let f = more_parts T k c.kind_of.result is c.if-kind_of-ne-ARGUMENT.false (length L) s.requires in
    (omega (arith, s.decreases, f.0), f.2)

pub returns-then-is_some : goal.returns-then-is_some
returns-then-is_some t c =
    let s = c in
    let T = s.args.context.now.nodes.now in
    let L = s.args.context.now.locals.now in
    let k = s.args.k in
    let is = c.kind_of.ensures ∙ ap kind_of c.cell_at-cell.ensures in
    let e = c.left_of.ensures ∙ ap left_of c.cell_at-cell.ensures in
    more-known T k c.kind_of.result is c.if-kind_of-ne-ARGUMENT.false L c.eval_node_lent-2.result c.arguments_known_lent.result (rw e at c.eval_node_lent-2.ensures) (sym (c.is_some-2.ensures ∙ known _) ∙ c.if-is_some.true) c.arguments_known_lent.ensures

pub returns-else-is_some : goal.returns-else-is_some
returns-else-is_some t c x h =
    let s = c in
    let T = s.args.context.now.nodes.now in
    let L = s.args.context.now.locals.now in
    let k = s.args.k in
    let is = c.kind_of.ensures ∙ ap kind_of c.cell_at-cell.ensures in
    let e = c.left_of.ensures ∙ ap left_of c.cell_at-cell.ensures in
    c.if-is_some.false ∙ first-unknown T k c.kind_of.result is c.if-kind_of-ne-ARGUMENT.false L c.eval_node_lent-2.result (rw e at c.eval_node_lent-2.ensures) (sym (c.is_some-2.ensures ∙ known _) ∙ c.if-is_some.false) x h
