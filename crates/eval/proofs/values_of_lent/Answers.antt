-- `eval::values_of_lent` meets its contract: one expression, or two. From what the node says.
use mathlib.Core.Path.{ap, ◌∙◌}
use native.Mathlib.Omega.{arith}
use Rattle.value.proofs.Kit.{back}
use Rattle.machine.specs.Evaluate.{valued, given, eval_all}
use Rattle.eval.specs.Lists.{values_of, values_given}
use lib.ListN.{length}
use Rattle.tree.specs.Node.{kind_of, left_of}
use Rattle.tables.specs.Settled.{Expr}
use Rattle.model.specs.Good.{GoodExpr}
use Rattle.eval.proofs.Lists.{one-part, two-parts, expr-low, one-value-is, two-values-are, two-values-lack}
use Rattle.eval.proofs.values_of_lent.Goals as goal

pub eval_node_lent-requires : goal.eval_node_lent-requires
eval_node_lent-requires c =
    let s = c in
    let T = s.args.context.now.nodes.now in
    let L = s.args.context.now.locals.now in
    let k = s.args.k in
    let is = c.kind_of.ensures ∙ ap kind_of c.cell_at-cell.ensures in
    one-part T k c.kind_of.result is (Expr T) (GoodExpr (length L)) c.if-kind_of-ne-PAIR.true s.requires

pub returns-in_err-x : goal.returns-in_err-x
unfolding values_given values_of eval_all valued given
returns-in_err-x c x h =
    let T = c.args.context.now.nodes.now in
    let L = c.args.context.now.locals.now in
    let k = c.args.k in
    let is = c.kind_of.ensures ∙ ap kind_of c.cell_at-cell.ensures in
    c.from_residual.ensures ∙ (rw c.in_err-x.was at (one-value-is T k c.kind_of.result is L c.eval_node_lent.result c.if-kind_of-ne-PAIR.true c.eval_node_lent.ensures x h))

pub returns-then-kind_of-ne-PAIR : goal.returns-then-kind_of-ne-PAIR
unfolding values_given values_of eval_all valued given
returns-then-kind_of-ne-PAIR c x h =
    let T = c.args.context.now.nodes.now in
    let L = c.args.context.now.locals.now in
    let k = c.args.k in
    let is = c.kind_of.ensures ∙ ap kind_of c.cell_at-cell.ensures in
    let d = back c.in_ok-x.x (omega arith) in
    rw d (rw c.in_ok-x.was at (one-value-is T k c.kind_of.result is L c.eval_node_lent.result c.if-kind_of-ne-PAIR.true c.eval_node_lent.ensures x h))

pub eval_node_lent-requires-2 : goal.eval_node_lent-requires-2
eval_node_lent-requires-2 c =
    let T = c.args.context.now.nodes.now in
    let L = c.args.context.now.locals.now in
    let k = c.args.k in
    let is = c.kind_of.ensures ∙ ap kind_of c.cell_at-cell.ensures in
    let f = two-parts T k c.kind_of.result is (Expr T) (GoodExpr (length L)) (expr-low T k c.kind_of.result is) c.if-kind_of-ne-PAIR.false c.requires in
    let e = c.left_of.ensures ∙ ap left_of c.cell_at-cell.ensures in
    rw e f.1

pub returns-in_err-x-2 : goal.returns-in_err-x-2
returns-in_err-x-2 c x h =
    let T = c.args.context.now.nodes.now in
    let L = c.args.context.now.locals.now in
    let k = c.args.k in
    let is = c.kind_of.ensures ∙ ap kind_of c.cell_at-cell.ensures in
    let e = c.left_of.ensures ∙ ap left_of c.cell_at-cell.ensures in
    c.from_residual-in_err-x-2.ensures ∙ two-values-lack T k c.kind_of.result is L c.if-kind_of-ne-PAIR.false (rw (e, c.in_err-x-2.was) at c.eval_node_lent-2.ensures) x h

pub overflow_sub-k : goal.overflow_sub-k
overflow_sub-k c =
    let T = c.args.context.now.nodes.now in
    let L = c.args.context.now.locals.now in
    let k = c.args.k in
    let is = c.kind_of.ensures ∙ ap kind_of c.cell_at-cell.ensures in
    let f = two-parts T k c.kind_of.result is (Expr T) (GoodExpr (length L)) (expr-low T k c.kind_of.result is) c.if-kind_of-ne-PAIR.false c.requires in
    f.0

pub eval_node_lent-requires-3 : goal.eval_node_lent-requires-3
eval_node_lent-requires-3 c =
    let T = c.args.context.now.nodes.now in
    let L = c.args.context.now.locals.now in
    let k = c.args.k in
    let is = c.kind_of.ensures ∙ ap kind_of c.cell_at-cell.ensures in
    let f = two-parts T k c.kind_of.result is (Expr T) (GoodExpr (length L)) (expr-low T k c.kind_of.result is) c.if-kind_of-ne-PAIR.false c.requires in
    f.2

pub returns-in_err-y : goal.returns-in_err-y
unfolding values_given values_of eval_all valued given
returns-in_err-y c x h =
    let T = c.args.context.now.nodes.now in
    let L = c.args.context.now.locals.now in
    let k = c.args.k in
    let is = c.kind_of.ensures ∙ ap kind_of c.cell_at-cell.ensures in
    let e = c.left_of.ensures ∙ ap left_of c.cell_at-cell.ensures in
    c.from_residual-in_err-y.ensures ∙ (rw (c.in_ok-x-2.was, c.in_err-y.was) at (two-values-are T k c.kind_of.result is L c.eval_node_lent-2.result c.eval_node_lent-3.result c.if-kind_of-ne-PAIR.false (rw e at c.eval_node_lent-2.ensures) c.eval_node_lent-3.ensures x h))

pub returns : goal.returns
unfolding values_given values_of eval_all valued given
returns c x h =
    let T = c.args.context.now.nodes.now in
    let L = c.args.context.now.locals.now in
    let k = c.args.k in
    let is = c.kind_of.ensures ∙ ap kind_of c.cell_at-cell.ensures in
    let e = c.left_of.ensures ∙ ap left_of c.cell_at-cell.ensures in
    let d = back c.in_ok-x-2.x (omega arith) in
    let g = back c.in_ok-y.y (omega arith) in
    rw (d, g) (rw (c.in_ok-x-2.was, c.in_ok-y.was) at (two-values-are T k c.kind_of.result is L c.eval_node_lent-2.result c.eval_node_lent-3.result c.if-kind_of-ne-PAIR.false (rw e at c.eval_node_lent-2.ensures) c.eval_node_lent-3.ensures x h))
