use mathlib.Core.Path.{ap, sym, ◌∙◌}
use native.Mathlib.Omega.{arith}
use lib.ListN.{length}
use Rattle.tree.specs.Node.{kind_of, left_of}
use Rattle.eval.proofs.Exprs.{known}
use Rattle.eval.proofs.Sets.{single-part, single-ends, range-parts, range-ends, range-unknown, joined-parts, joined-ends, joined-unknown}
use Rattle.eval.proofs.+ends_known_lent.Goals as goal

pub eval_node_lent-requires : goal.eval_node_lent-requires
eval_node_lent-requires t c =
    let s = c in
    let T = s.args.context.now.nodes.now in
    let L = s.args.context.now.locals.now in
    let k = s.args.k in
    let is = c.kind_of-kind.ensures ∙ ap kind_of c.cell_at-cell.ensures in
    single-part T k c.kind_of-kind.result is (length L) c.if-kind-lt-RANGE.true s.requires

pub returns-then-kind-lt-RANGE : goal.returns-then-kind-lt-RANGE
returns-then-kind-lt-RANGE t c x h =
    let s = c in
    let T = s.args.context.now.nodes.now in
    let L = s.args.context.now.locals.now in
    let k = s.args.k in
    let is = c.kind_of-kind.ensures ∙ ap kind_of c.cell_at-cell.ensures in
    c.is_some.ensures ∙ known _ ∙ single-ends T k c.kind_of-kind.result is L c.eval_node_lent.result c.if-kind-lt-RANGE.true c.eval_node_lent.ensures x h

pub eval_node_lent-requires-then-kind-eq-RANGE : goal.eval_node_lent-requires-then-kind-eq-RANGE
eval_node_lent-requires-then-kind-eq-RANGE t c =
    let s = c in
    let T = s.args.context.now.nodes.now in
    let L = s.args.context.now.locals.now in
    let k = s.args.k in
    let is = c.kind_of-kind.ensures ∙ ap kind_of c.cell_at-cell.ensures in
    let f = range-parts T k c.kind_of-kind.result is (length L) c.if-kind-eq-RANGE.true s.requires in
    let e = c.left_of-i.ensures ∙ ap left_of c.cell_at-cell.ensures in
    rw e f.1

pub overflow_sub-k : goal.overflow_sub-k
overflow_sub-k t c =
    let s = c in
    let T = s.args.context.now.nodes.now in
    let L = s.args.context.now.locals.now in
    let k = s.args.k in
    let is = c.kind_of-kind.ensures ∙ ap kind_of c.cell_at-cell.ensures in
    let f = range-parts T k c.kind_of-kind.result is (length L) c.if-kind-eq-RANGE.true s.requires in
    f.0

pub eval_node_lent-requires-then-is_some : goal.eval_node_lent-requires-then-is_some
eval_node_lent-requires-then-is_some t c =
    let s = c in
    let T = s.args.context.now.nodes.now in
    let L = s.args.context.now.locals.now in
    let k = s.args.k in
    let is = c.kind_of-kind.ensures ∙ ap kind_of c.cell_at-cell.ensures in
    let f = range-parts T k c.kind_of-kind.result is (length L) c.if-kind-eq-RANGE.true s.requires in
    f.2

pub returns-then-is_some : goal.returns-then-is_some
returns-then-is_some t c x h =
    let s = c in
    let T = s.args.context.now.nodes.now in
    let L = s.args.context.now.locals.now in
    let k = s.args.k in
    let is = c.kind_of-kind.ensures ∙ ap kind_of c.cell_at-cell.ensures in
    let e = c.left_of-i.ensures ∙ ap left_of c.cell_at-cell.ensures in
    c.is_some-then-is_some.ensures ∙ known _ ∙ range-ends T k c.kind_of-kind.result is L c.eval_node_lent-then-kind-eq-RANGE.result c.eval_node_lent-then-is_some.result c.if-kind-eq-RANGE.true (rw e at c.eval_node_lent-then-kind-eq-RANGE.ensures) (sym (c.is_some-then-kind-eq-RANGE.ensures ∙ known _) ∙ c.if-is_some.true) c.eval_node_lent-then-is_some.ensures x h

pub returns-else-is_some : goal.returns-else-is_some
returns-else-is_some t c x h =
    let s = c in
    let T = s.args.context.now.nodes.now in
    let L = s.args.context.now.locals.now in
    let k = s.args.k in
    let is = c.kind_of-kind.ensures ∙ ap kind_of c.cell_at-cell.ensures in
    let e = c.left_of-i.ensures ∙ ap left_of c.cell_at-cell.ensures in
    c.if-is_some.false ∙ range-unknown T k c.kind_of-kind.result is L c.eval_node_lent-then-kind-eq-RANGE.result c.if-kind-eq-RANGE.true (rw e at c.eval_node_lent-then-kind-eq-RANGE.ensures) (sym (c.is_some-then-kind-eq-RANGE.ensures ∙ known _) ∙ c.if-is_some.false) x h

pub ends_known_lent-requires : goal.ends_known_lent-requires
ends_known_lent-requires t c =
    let s = c in
    let T = s.args.context.now.nodes.now in
    let L = s.args.context.now.locals.now in
    let k = s.args.k in
    let is = c.kind_of-kind.ensures ∙ ap kind_of c.cell_at-cell.ensures in
    let f = joined-parts T k c.kind_of-kind.result is c.if-kind-lt-RANGE.false c.if-kind-eq-RANGE.false (length L) s.requires in
    let e = c.left_of-i.ensures ∙ ap left_of c.cell_at-cell.ensures in
    (rw (e, ← s.decreases) f.1, rw e f.2)

pub overflow_sub-k-then-ends_known_lent : goal.overflow_sub-k-then-ends_known_lent
overflow_sub-k-then-ends_known_lent t c =
    let s = c in
    let T = s.args.context.now.nodes.now in
    let L = s.args.context.now.locals.now in
    let k = s.args.k in
    let is = c.kind_of-kind.ensures ∙ ap kind_of c.cell_at-cell.ensures in
    let f = joined-parts T k c.kind_of-kind.result is c.if-kind-lt-RANGE.false c.if-kind-eq-RANGE.false (length L) s.requires in
    f.0

pub ends_known_lent-requires-then-ends_known_lent : goal.ends_known_lent-requires-then-ends_known_lent
ends_known_lent-requires-then-ends_known_lent t c =
    let s = c in
    let T = s.args.context.now.nodes.now in
    let L = s.args.context.now.locals.now in
    let k = s.args.k in
    let is = c.kind_of-kind.ensures ∙ ap kind_of c.cell_at-cell.ensures in
    let f = joined-parts T k c.kind_of-kind.result is c.if-kind-lt-RANGE.false c.if-kind-eq-RANGE.false (length L) s.requires in
    (omega (arith, s.decreases, f.0), f.3)

pub returns-then-ends_known_lent : goal.returns-then-ends_known_lent
returns-then-ends_known_lent t c =
    let s = c in
    let T = s.args.context.now.nodes.now in
    let L = s.args.context.now.locals.now in
    let k = s.args.k in
    let is = c.kind_of-kind.ensures ∙ ap kind_of c.cell_at-cell.ensures in
    let e = c.left_of-i.ensures ∙ ap left_of c.cell_at-cell.ensures in
    joined-ends T k c.kind_of-kind.result is c.if-kind-lt-RANGE.false c.if-kind-eq-RANGE.false L c.ends_known_lent.result c.ends_known_lent-then-ends_known_lent.result (rw e at c.ends_known_lent.ensures) c.if-ends_known_lent.true c.ends_known_lent-then-ends_known_lent.ensures

pub returns-else-ends_known_lent : goal.returns-else-ends_known_lent
returns-else-ends_known_lent t c =
    let s = c in
    let T = s.args.context.now.nodes.now in
    let L = s.args.context.now.locals.now in
    let k = s.args.k in
    let is = c.kind_of-kind.ensures ∙ ap kind_of c.cell_at-cell.ensures in
    let e = c.left_of-i.ensures ∙ ap left_of c.cell_at-cell.ensures in
    joined-unknown T k c.kind_of-kind.result is c.if-kind-lt-RANGE.false c.if-kind-eq-RANGE.false L c.ends_known_lent.result (rw e at c.ends_known_lent.ensures) c.if-ends_known_lent.false
