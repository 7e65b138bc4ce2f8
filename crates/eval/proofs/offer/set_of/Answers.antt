-- `eval::offer::set_of` meets its contract: the ends of a lone range, or the root. From what the node says.
use mathlib.Core.Path.{ap, ◌∙◌}
use Prim.Native.Nat.{◌-◌}
use native.Mathlib.Omega.{arith}
use lib.ListN.{length}
use Rattle.value.proofs.Kit.{back}
use Rattle.tree.specs.Node.{kind_of, left_of}
use Rattle.eval.proofs.Exprs.{worth-sound}
use Rattle.eval.proofs.Sets.{single-part, range-parts}
use Rattle.eval.proofs.Ends.{range_ends, single-shown, range-shown, range-lacks, root-tried}
use Rattle.eval.proofs.offer.set_of.Goals as goal

pub eval_node_lent-requires : goal.eval_node_lent-requires
eval_node_lent-requires c =
    let T = c.args.context.now.nodes.now in
    let L = c.args.context.now.locals.now in
    let k = c.args.k in
    let is = c.kind_of-kind.ensures ∙ ap kind_of c.cell_at-cell.ensures in
    single-part T k c.kind_of-kind.result is (length L) c.if-kind-lt-RANGE.true c.requires

pub returns-in_err-x : goal.returns-in_err-x
unfolding range_ends
returns-in_err-x c s h =
    let T = c.args.context.now.nodes.now in
    let L = c.args.context.now.locals.now in
    let k = c.args.k in
    let is = c.kind_of-kind.ensures ∙ ap kind_of c.cell_at-cell.ensures in
    let x = c.eval_node_lent.result in
    let w = c.eval_node_lent.ensures in
    rw c.from_residual.ensures (rw c.in_err-x.was at (single-shown T k c.kind_of-kind.result is L x c.if-kind-lt-RANGE.true w (worth-sound T L (length L) k x c.args.context.now.in_range (single-part T k c.kind_of-kind.result is (length L) c.if-kind-lt-RANGE.true c.requires) w) s h))

pub returns-then-kind-lt-RANGE : goal.returns-then-kind-lt-RANGE
unfolding range_ends
returns-then-kind-lt-RANGE c s h =
    let T = c.args.context.now.nodes.now in
    let L = c.args.context.now.locals.now in
    let k = c.args.k in
    let is = c.kind_of-kind.ensures ∙ ap kind_of c.cell_at-cell.ensures in
    let x = c.eval_node_lent.result in
    let w = c.eval_node_lent.ensures in
    let d = back c.in_ok-x.x (omega arith) in
    rw d (rw c.in_ok-x.was at (single-shown T k c.kind_of-kind.result is L x c.if-kind-lt-RANGE.true w (worth-sound T L (length L) k x c.args.context.now.in_range (single-part T k c.kind_of-kind.result is (length L) c.if-kind-lt-RANGE.true c.requires) w) s h))

pub eval_node_lent-requires-then-kind-eq-RANGE : goal.eval_node_lent-requires-then-kind-eq-RANGE
eval_node_lent-requires-then-kind-eq-RANGE c =
    let T = c.args.context.now.nodes.now in
    let L = c.args.context.now.locals.now in
    let k = c.args.k in
    let is = c.kind_of-kind.ensures ∙ ap kind_of c.cell_at-cell.ensures in
    let e = c.left_of.ensures ∙ ap left_of c.cell_at-cell.ensures in
    let f = range-parts T k c.kind_of-kind.result is (length L) c.if-kind-eq-RANGE.true c.requires in
    rw e f.1

pub returns-in_err-x-2 : goal.returns-in_err-x-2
returns-in_err-x-2 c s h =
    let T = c.args.context.now.nodes.now in
    let L = c.args.context.now.locals.now in
    let k = c.args.k in
    let is = c.kind_of-kind.ensures ∙ ap kind_of c.cell_at-cell.ensures in
    let e = c.left_of.ensures ∙ ap left_of c.cell_at-cell.ensures in
    rw c.from_residual-in_err-x-2.ensures (range-lacks T k c.kind_of-kind.result is L c.if-kind-eq-RANGE.true (rw (e, c.in_err-x-2.was) at c.eval_node_lent-then-kind-eq-RANGE.ensures) s h)

pub overflow_sub-k : goal.overflow_sub-k
overflow_sub-k c =
    let T = c.args.context.now.nodes.now in
    let L = c.args.context.now.locals.now in
    let k = c.args.k in
    let is = c.kind_of-kind.ensures ∙ ap kind_of c.cell_at-cell.ensures in
    let f = range-parts T k c.kind_of-kind.result is (length L) c.if-kind-eq-RANGE.true c.requires in
    f.0

pub eval_node_lent-requires-then-kind-eq-RANGE-2 : goal.eval_node_lent-requires-then-kind-eq-RANGE-2
eval_node_lent-requires-then-kind-eq-RANGE-2 c =
    let T = c.args.context.now.nodes.now in
    let L = c.args.context.now.locals.now in
    let k = c.args.k in
    let is = c.kind_of-kind.ensures ∙ ap kind_of c.cell_at-cell.ensures in
    let f = range-parts T k c.kind_of-kind.result is (length L) c.if-kind-eq-RANGE.true c.requires in
    f.2

pub returns-in_err-y : goal.returns-in_err-y
unfolding range_ends
returns-in_err-y c s h =
    let T = c.args.context.now.nodes.now in
    let L = c.args.context.now.locals.now in
    let k = c.args.k in
    let is = c.kind_of-kind.ensures ∙ ap kind_of c.cell_at-cell.ensures in
    let e = c.left_of.ensures ∙ ap left_of c.cell_at-cell.ensures in
    let f = range-parts T k c.kind_of-kind.result is (length L) c.if-kind-eq-RANGE.true c.requires in
    let y = c.eval_node_lent-then-kind-eq-RANGE-2.result in
    let w = c.eval_node_lent-then-kind-eq-RANGE-2.ensures in
    rw c.from_residual-in_err-y.ensures (rw (c.in_ok-x-2.was, c.in_err-y.was) at (range-shown T k c.kind_of-kind.result is L c.eval_node_lent-then-kind-eq-RANGE.result y c.if-kind-eq-RANGE.true (rw e at c.eval_node_lent-then-kind-eq-RANGE.ensures) w (worth-sound T L (length L) (k - 1) y c.args.context.now.in_range f.2 w) s h))

pub returns-then-kind-eq-RANGE : goal.returns-then-kind-eq-RANGE
unfolding range_ends
returns-then-kind-eq-RANGE c s h =
    let T = c.args.context.now.nodes.now in
    let L = c.args.context.now.locals.now in
    let k = c.args.k in
    let is = c.kind_of-kind.ensures ∙ ap kind_of c.cell_at-cell.ensures in
    let e = c.left_of.ensures ∙ ap left_of c.cell_at-cell.ensures in
    let f = range-parts T k c.kind_of-kind.result is (length L) c.if-kind-eq-RANGE.true c.requires in
    let y = c.eval_node_lent-then-kind-eq-RANGE-2.result in
    let w = c.eval_node_lent-then-kind-eq-RANGE-2.ensures in
    let d = back c.in_ok-x-2.x (omega arith) in
    let g = back c.in_ok-y.y (omega arith) in
    rw (d, g) (rw (c.in_ok-x-2.was, c.in_ok-y.was) at (range-shown T k c.kind_of-kind.result is L c.eval_node_lent-then-kind-eq-RANGE.result y c.if-kind-eq-RANGE.true (rw e at c.eval_node_lent-then-kind-eq-RANGE.ensures) w (worth-sound T L (length L) (k - 1) y c.args.context.now.in_range f.2 w) s h))

pub returns : goal.returns
returns c =
    let T = c.args.context.now.nodes.now in
    let L = c.args.context.now.locals.now in
    let k = c.args.k in
    let is = c.kind_of-kind.ensures ∙ ap kind_of c.cell_at-cell.ensures in
    rw c.then_some.ensures (root-tried T k c.kind_of-kind.result is L c.ends_known_lent.result c.ends_known_lent.ensures c.requires)
