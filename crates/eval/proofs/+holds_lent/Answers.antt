use mathlib.Core.Path.{ap, sym, ◌∙◌}
use mathlib.Core.Bool.{Bool}
use native.Mathlib.Omega.{arith}
use lib.ListN.{length}
use Rattle.std.specs.Prelude.{Some}
use Rattle.value.proofs.Kit.{back}
use Rattle.machine.specs.Evaluate.{valued}
use Rattle.eval.specs.Answers.{truth_of}
use Rattle.tree.specs.Node.{kind_of, left_of}
use Rattle.eval.proofs.Conds.{compare-parts, compare-is, compare-lacks, cond-parts, skipped-is, rest-is}
use Rattle.eval.proofs.+holds_lent.Goals as goal

pub eval_node_lent-requires : goal.eval_node_lent-requires
eval_node_lent-requires t c =
    let T = c.args.context.now.nodes.now in
    let L = c.args.context.now.locals.now in
    let k = c.args.k in
    let is = c.kind_of-kind.ensures ∙ ap kind_of c.cell_at-cell.ensures in
    let f = compare-parts T k c.kind_of-kind.result is (length L) c.if-kind-lt-BOTH.true c.requires in
    let e = c.left_of-i.ensures ∙ ap left_of c.cell_at-cell.ensures in
    rw e f.1

pub returns-in_err-x : goal.returns-in_err-x
returns-in_err-x t c d h =
    let T = c.args.context.now.nodes.now in
    let L = c.args.context.now.locals.now in
    let k = c.args.k in
    let is = c.kind_of-kind.ensures ∙ ap kind_of c.cell_at-cell.ensures in
    let e = c.left_of-i.ensures ∙ ap left_of c.cell_at-cell.ensures in
    c.from_residual.ensures ∙ compare-lacks T k c.kind_of-kind.result is L c.if-kind-lt-BOTH.true (rw (e, c.in_err-x.was) at c.eval_node_lent.ensures) d h

pub overflow_sub-k : goal.overflow_sub-k
overflow_sub-k t c =
    let T = c.args.context.now.nodes.now in
    let L = c.args.context.now.locals.now in
    let k = c.args.k in
    let is = c.kind_of-kind.ensures ∙ ap kind_of c.cell_at-cell.ensures in
    let f = compare-parts T k c.kind_of-kind.result is (length L) c.if-kind-lt-BOTH.true c.requires in
    f.0

pub eval_node_lent-requires-then-kind-lt-BOTH : goal.eval_node_lent-requires-then-kind-lt-BOTH
eval_node_lent-requires-then-kind-lt-BOTH t c =
    let T = c.args.context.now.nodes.now in
    let L = c.args.context.now.locals.now in
    let k = c.args.k in
    let is = c.kind_of-kind.ensures ∙ ap kind_of c.cell_at-cell.ensures in
    let f = compare-parts T k c.kind_of-kind.result is (length L) c.if-kind-lt-BOTH.true c.requires in
    f.2

pub returns-in_err-y : goal.returns-in_err-y
unfolding valued truth_of
returns-in_err-y t c =
    let T = c.args.context.now.nodes.now in
    let L = c.args.context.now.locals.now in
    let k = c.args.k in
    let is = c.kind_of-kind.ensures ∙ ap kind_of c.cell_at-cell.ensures in
    let e = c.left_of-i.ensures ∙ ap left_of c.cell_at-cell.ensures in
    compare-is T k c.kind_of-kind.result is L c.eval_node_lent.result c.eval_node_lent-then-kind-lt-BOTH.result _ c.if-kind-lt-BOTH.true (rw e at c.eval_node_lent.ensures) c.eval_node_lent-then-kind-lt-BOTH.ensures
    (λ turned r h. rw (c.in_ok-x.was, c.in_err-y.was) c.from_residual-in_err-y.ensures)

pub returns-then-kind-lt-BOTH : goal.returns-then-kind-lt-BOTH
unfolding valued truth_of
returns-then-kind-lt-BOTH t c =
    let T = c.args.context.now.nodes.now in
    let L = c.args.context.now.locals.now in
    let k = c.args.k in
    let is = c.kind_of-kind.ensures ∙ ap kind_of c.cell_at-cell.ensures in
    let e = c.left_of-i.ensures ∙ ap left_of c.cell_at-cell.ensures in
    let g = back c.in_ok-x.x (omega arith) in
    let d = back c.in_ok-y.y (omega arith) in
    compare-is T k c.kind_of-kind.result is L c.eval_node_lent.result c.eval_node_lent-then-kind-lt-BOTH.result _ c.if-kind-lt-BOTH.true (rw e at c.eval_node_lent.ensures) c.eval_node_lent-then-kind-lt-BOTH.ensures
    (λ turned r h. rw (c.in_ok-x.was, c.in_ok-y.was) (ap (λ (b : Bool). Some b) (simp (g, d) at (c.tested.ensures turned r h))))

pub holds_lent-p-requires : goal.holds_lent-p-requires
holds_lent-p-requires t c =
    let s = c in
    let T = s.args.context.now.nodes.now in
    let L = s.args.context.now.locals.now in
    let k = s.args.k in
    let is = c.kind_of-kind.ensures ∙ ap kind_of c.cell_at-cell.ensures in
    let f = cond-parts T k c.kind_of-kind.result is c.if-kind-lt-BOTH.false (length L) s.requires in
    let e = c.left_of-i.ensures ∙ ap left_of c.cell_at-cell.ensures in
    (rw (e, ← s.decreases) f.1, rw e f.2)

pub returns-then-decided : goal.returns-then-decided
returns-then-decided t c =
    let s = c in
    let T = s.args.context.now.nodes.now in
    let L = s.args.context.now.locals.now in
    let k = s.args.k in
    let is = c.kind_of-kind.ensures ∙ ap kind_of c.cell_at-cell.ensures in
    let e = c.left_of-i.ensures ∙ ap left_of c.cell_at-cell.ensures in
    skipped-is T k c.kind_of-kind.result is c.if-kind-lt-BOTH.false L c.holds_lent-p.result (rw e at c.holds_lent-p.ensures) (sym c.decided.ensures ∙ c.if-decided.true)

pub overflow_sub-k-2 : goal.overflow_sub-k-2
overflow_sub-k-2 t c =
    let s = c in
    let T = s.args.context.now.nodes.now in
    let L = s.args.context.now.locals.now in
    let k = s.args.k in
    let is = c.kind_of-kind.ensures ∙ ap kind_of c.cell_at-cell.ensures in
    let f = cond-parts T k c.kind_of-kind.result is c.if-kind-lt-BOTH.false (length L) s.requires in
    f.0

pub holds_lent-requires : goal.holds_lent-requires
holds_lent-requires t c =
    let s = c in
    let T = s.args.context.now.nodes.now in
    let L = s.args.context.now.locals.now in
    let k = s.args.k in
    let is = c.kind_of-kind.ensures ∙ ap kind_of c.cell_at-cell.ensures in
    let f = cond-parts T k c.kind_of-kind.result is c.if-kind-lt-BOTH.false (length L) s.requires in
    (omega (arith, s.decreases, f.0), f.3)

pub returns : goal.returns
returns t c =
    let s = c in
    let T = s.args.context.now.nodes.now in
    let L = s.args.context.now.locals.now in
    let k = s.args.k in
    let is = c.kind_of-kind.ensures ∙ ap kind_of c.cell_at-cell.ensures in
    let e = c.left_of-i.ensures ∙ ap left_of c.cell_at-cell.ensures in
    rest-is T k c.kind_of-kind.result is c.if-kind-lt-BOTH.false L c.holds_lent-p.result c.holds_lent.result (rw e at c.holds_lent-p.ensures) (sym c.decided.ensures ∙ c.if-decided.false) c.holds_lent.ensures
