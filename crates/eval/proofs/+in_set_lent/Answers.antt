use mathlib.Core.Path.{◌≡◌, ap, sym, ◌∙◌}
use native.Mathlib.Omega.{arith}
use lib.ListN.{length}
use Rattle.tree.specs.Node.{kind_of, left_of}
use borrow.Author.Tests.{eq-eqb, ne_eqb}
use mir.Facts.{to_z-of_z}
use mathlib.Core.Bool.{false}
use Rattle.std.specs.Prelude.{Some, None}
use Rattle.value.proofs.Kit.{back, same_bits}
use Rattle.rules.specs.Offers.{within}
use Rattle.eval.proofs.Sets.{single-part, between_is, zip-some, zip-none, lone-within, single-tells, range-parts, range-tells, joined-parts, settled-tells, finished-tells}
use Rattle.eval.proofs.+in_set_lent.Goals as goal

pub eval_node_lent-requires : goal.eval_node_lent-requires
eval_node_lent-requires t c =
    let T = c.args.context.now.nodes.now in
    let L = c.args.context.now.locals.now in
    let k = c.args.k in
    let is = c.kind_of-kind.ensures ∙ ap kind_of c.cell_at-cell.ensures in
    single-part T k c.kind_of-kind.result is (length L) c.if-kind-lt-RANGE.true c.requires

pub returns-in_default : goal.returns-in_default
returns-in_default t c =
    let T = c.args.context.now.nodes.now in
    let L = c.args.context.now.locals.now in
    let k = c.args.k in
    let is = c.kind_of-kind.ensures ∙ ap kind_of c.cell_at-cell.ensures in
    let z = to_z-of_z c.ranges.v in
    single-tells T k c.kind_of-kind.result is L c.args.v c.eval_node_lent.result false c.if-kind-lt-RANGE.true c.eval_node_lent.ensures (λ a b f g. let h : None ≡ Some a = sym c.in_default.is ∙ f in cc)

pub returns-then-kind-lt-RANGE : goal.returns-then-kind-lt-RANGE
returns-then-kind-lt-RANGE t c =
    let T = c.args.context.now.nodes.now in
    let L = c.args.context.now.locals.now in
    let k = c.args.k in
    let is = c.kind_of-kind.ensures ∙ ap kind_of c.cell_at-cell.ensures in
    let z = to_z-of_z c.ranges.v in
    let d = back c.in-Some.x (omega arith) in
    single-tells T k c.kind_of-kind.result is L c.args.v c.eval_node_lent.result _ c.if-kind-lt-RANGE.true c.eval_node_lent.ensures
    (between_is c.eval_node_lent.result c.eval_node_lent.result c.in-Some.x c.in-Some.x c.args.v _ c.in-Some.is c.in-Some.is (same_bits c.args.v c.in-Some.x c.ranges.v (omega arith) ∙ lone-within c.in-Some.x c.args.v))

pub eval_node_lent-x-requires : goal.eval_node_lent-x-requires
eval_node_lent-x-requires t c =
    let T = c.args.context.now.nodes.now in
    let L = c.args.context.now.locals.now in
    let k = c.args.k in
    let is = c.kind_of-kind.ensures ∙ ap kind_of c.cell_at-cell.ensures in
    let f = range-parts T k c.kind_of-kind.result is (length L) c.if-kind-eq-RANGE.true c.requires in
    let e = c.left_of-i.ensures ∙ ap left_of c.cell_at-cell.ensures in
    rw e f.1

pub overflow_sub-k : goal.overflow_sub-k
overflow_sub-k t c =
    let T = c.args.context.now.nodes.now in
    let L = c.args.context.now.locals.now in
    let k = c.args.k in
    let is = c.kind_of-kind.ensures ∙ ap kind_of c.cell_at-cell.ensures in
    let f = range-parts T k c.kind_of-kind.result is (length L) c.if-kind-eq-RANGE.true c.requires in
    f.0

pub eval_node_lent-y-requires : goal.eval_node_lent-y-requires
eval_node_lent-y-requires t c =
    let T = c.args.context.now.nodes.now in
    let L = c.args.context.now.locals.now in
    let k = c.args.k in
    let is = c.kind_of-kind.ensures ∙ ap kind_of c.cell_at-cell.ensures in
    let f = range-parts T k c.kind_of-kind.result is (length L) c.if-kind-eq-RANGE.true c.requires in
    f.2

pub returns-in_default-zip : goal.returns-in_default-zip
returns-in_default-zip t c =
    let T = c.args.context.now.nodes.now in
    let L = c.args.context.now.locals.now in
    let k = c.args.k in
    let is = c.kind_of-kind.ensures ∙ ap kind_of c.cell_at-cell.ensures in
    let e = c.left_of-i.ensures ∙ ap left_of c.cell_at-cell.ensures in
    range-tells T k c.kind_of-kind.result is L c.args.v c.eval_node_lent-x.result c.eval_node_lent-y.result false c.if-kind-eq-RANGE.true (rw e at c.eval_node_lent-x.ensures) c.eval_node_lent-y.ensures
    (λ a b f g. zip-none c.eval_node_lent-x.result c.eval_node_lent-y.result a b (sym c.zip.ensures ∙ c.in_default-zip.is) f g)

pub returns-then-a-v : goal.returns-then-a-v
unfolding within
returns-then-a-v t c =
    let T = c.args.context.now.nodes.now in
    let L = c.args.context.now.locals.now in
    let k = c.args.k in
    let is = c.kind_of-kind.ensures ∙ ap kind_of c.cell_at-cell.ensures in
    let e = c.left_of-i.ensures ∙ ap left_of c.cell_at-cell.ensures in
    let z = to_z-of_z c.ranges.v in
    range-tells T k c.kind_of-kind.result is L c.args.v c.eval_node_lent-x.result c.eval_node_lent-y.result _ c.if-kind-eq-RANGE.true (rw e at c.eval_node_lent-x.ensures) c.eval_node_lent-y.ensures
    (let m = c.in-Some-zip in
    let p = zip-some c.eval_node_lent-x.result c.eval_node_lent-y.result m.a m.b (sym c.zip.ensures ∙ m.is) in
    let d = back m.a (omega arith) in
    let g = back m.b (omega arith) in
    simp (g, z) (between_is c.eval_node_lent-x.result c.eval_node_lent-y.result m.a m.b c.args.v _ p.0 p.1 (rw (simp (d, z) at c.if-a-v.true))))

pub returns-else-a-v : goal.returns-else-a-v
unfolding within
returns-else-a-v t c =
    let T = c.args.context.now.nodes.now in
    let L = c.args.context.now.locals.now in
    let k = c.args.k in
    let is = c.kind_of-kind.ensures ∙ ap kind_of c.cell_at-cell.ensures in
    let e = c.left_of-i.ensures ∙ ap left_of c.cell_at-cell.ensures in
    let z = to_z-of_z c.ranges.v in
    range-tells T k c.kind_of-kind.result is L c.args.v c.eval_node_lent-x.result c.eval_node_lent-y.result _ c.if-kind-eq-RANGE.true (rw e at c.eval_node_lent-x.ensures) c.eval_node_lent-y.ensures
    (let m = c.in-Some-zip in
    let p = zip-some c.eval_node_lent-x.result c.eval_node_lent-y.result m.a m.b (sym c.zip.ensures ∙ m.is) in
    let d = back m.a (omega arith) in
    simp (d, z) (between_is c.eval_node_lent-x.result c.eval_node_lent-y.result m.a m.b c.args.v _ p.0 p.1 (rw (simp (d, z) at c.if-a-v.false))))

pub in_set_lent-p-requires : goal.in_set_lent-p-requires
in_set_lent-p-requires t c =
    let s = c in
    let T = s.args.context.now.nodes.now in
    let L = s.args.context.now.locals.now in
    let k = s.args.k in
    let is = c.kind_of-kind.ensures ∙ ap kind_of c.cell_at-cell.ensures in
    let f = joined-parts T k c.kind_of-kind.result is c.if-kind-lt-RANGE.false c.if-kind-eq-RANGE.false (length L) s.requires in
    let e = c.left_of-i.ensures ∙ ap left_of c.cell_at-cell.ensures in
    (rw (e, ← s.decreases) f.1, rw e f.2)

pub returns-then-settled : goal.returns-then-settled
returns-then-settled t c =
    let s = c in
    let T = s.args.context.now.nodes.now in
    let L = s.args.context.now.locals.now in
    let k = s.args.k in
    let is = c.kind_of-kind.ensures ∙ ap kind_of c.cell_at-cell.ensures in
    let z = to_z-of_z s.ranges.v in
    let e = c.left_of-i.ensures ∙ ap left_of c.cell_at-cell.ensures in
    settled-tells T k c.kind_of-kind.result is c.if-kind-lt-RANGE.false c.if-kind-eq-RANGE.false L s.args.v c.in_set_lent-p.result (simp (z, e) at c.in_set_lent-p.ensures) (sym c.settled.ensures ∙ c.if-settled.true)

pub overflow_sub-k-2 : goal.overflow_sub-k-2
overflow_sub-k-2 t c =
    let s = c in
    let T = s.args.context.now.nodes.now in
    let L = s.args.context.now.locals.now in
    let k = s.args.k in
    let is = c.kind_of-kind.ensures ∙ ap kind_of c.cell_at-cell.ensures in
    let f = joined-parts T k c.kind_of-kind.result is c.if-kind-lt-RANGE.false c.if-kind-eq-RANGE.false (length L) s.requires in
    f.0

pub in_set_lent-q-requires : goal.in_set_lent-q-requires
in_set_lent-q-requires t c =
    let s = c in
    let T = s.args.context.now.nodes.now in
    let L = s.args.context.now.locals.now in
    let k = s.args.k in
    let is = c.kind_of-kind.ensures ∙ ap kind_of c.cell_at-cell.ensures in
    let f = joined-parts T k c.kind_of-kind.result is c.if-kind-lt-RANGE.false c.if-kind-eq-RANGE.false (length L) s.requires in
    (omega (arith, s.decreases, f.0), f.3)

pub returns-then-kind-eq-WITHOUT : goal.returns-then-kind-eq-WITHOUT
returns-then-kind-eq-WITHOUT t c =
    let s = c in
    let T = s.args.context.now.nodes.now in
    let L = s.args.context.now.locals.now in
    let k = s.args.k in
    let is = c.kind_of-kind.ensures ∙ ap kind_of c.cell_at-cell.ensures in
    let z = to_z-of_z s.ranges.v in
    let e = c.left_of-i.ensures ∙ ap left_of c.cell_at-cell.ensures in
    finished-tells T k c.kind_of-kind.result is c.if-kind-lt-RANGE.false c.if-kind-eq-RANGE.false L s.args.v c.in_set_lent-p.result c.in_set_lent-q.result _ (simp (z, e) at c.in_set_lent-p.ensures) (sym c.settled.ensures ∙ c.if-settled.false) (simp z at c.in_set_lent-q.ensures) (simp (eq-eqb _ _ c.if-kind-eq-WITHOUT.true))

pub returns : goal.returns
returns t c =
    let s = c in
    let T = s.args.context.now.nodes.now in
    let L = s.args.context.now.locals.now in
    let k = s.args.k in
    let is = c.kind_of-kind.ensures ∙ ap kind_of c.cell_at-cell.ensures in
    let z = to_z-of_z s.ranges.v in
    let e = c.left_of-i.ensures ∙ ap left_of c.cell_at-cell.ensures in
    finished-tells T k c.kind_of-kind.result is c.if-kind-lt-RANGE.false c.if-kind-eq-RANGE.false L s.args.v c.in_set_lent-p.result c.in_set_lent-q.result _ (simp (z, e) at c.in_set_lent-p.ensures) (sym c.settled.ensures ∙ c.if-settled.false) (simp z at c.in_set_lent-q.ensures) (simp (ne_eqb _ _ c.if-kind-eq-WITHOUT.false))
