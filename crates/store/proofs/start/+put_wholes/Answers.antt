use mathlib.Core.Path.{ap, sym, ◌∙◌}
use native.Mathlib.Omega.{arith}
use lib.ListN.{length-set}
use mir.Syntax.{w64}
use mir.Val.{of_z, to_z}
use Rattle.value.proofs.Kit.{back}
use Rattle.tree.specs.Node.{kind_of, left_of}
use Rattle.store.proofs.Nodes.{wholes-inside, last-whole, more-wholes, last-put, more-put}
use Rattle.store.proofs.start.+put_wholes.Goals as goal

pub whole_at-z-requires : goal.whole_at-z-requires
whole_at-z-requires t c =
    let T = c.args.nodes.now in
    let k = c.args.k in
    let is = c.kind_of.ensures ∙ ap kind_of c.cell_at-cell.ensures in
    last-whole T k _ _ (λ x. c.if-kind_of-ne-WHOLE.true (is ∙ x)) c.requires

pub offset_bounds-values-at : goal.offset_bounds-values-at
offset_bounds-values-at t c =
    let T = c.args.nodes.now in
    let k = c.args.k in
    let h = wholes-inside T k _ _ c.requires in
    omega (arith, h, c.well_formed)

pub bounds-values-at : goal.bounds-values-at
bounds-values-at t c =
    let T = c.args.nodes.now in
    let k = c.args.k in
    wholes-inside T k _ _ c.requires

pub shape_of-values-then-kind_of-ne-WHOLE : goal.shape_of-values-then-kind_of-ne-WHOLE
shape_of-values-then-kind_of-ne-WHOLE t c =
    simp length-set

pub returns-then-kind_of-ne-WHOLE : goal.returns-then-kind_of-ne-WHOLE
returns-then-kind_of-ne-WHOLE t c =
    let T = c.args.nodes.now in
    let k = c.args.k in
    let is = c.kind_of.ensures ∙ ap kind_of c.cell_at-cell.ensures in
    let v = c.args.values.now in
    rw (back c.whole_at-z.result c.whole_at-z.type_inv) (last-put T k v v c.args.at c.whole_at-z.result (λ x. c.if-kind_of-ne-WHOLE.true (is ∙ x)) c.whole_at-z.ensures)

pub whole_at-z-requires-2 : goal.whole_at-z-requires-2
whole_at-z-requires-2 t c =
    let T = c.args.nodes.now in
    let k = c.args.k in
    let is = c.kind_of.ensures ∙ ap kind_of c.cell_at-cell.ensures in
    let e = c.left_of.ensures ∙ ap left_of c.cell_at-cell.ensures in
    let f = more-wholes T k _ _ (sym is ∙ c.if-kind_of-ne-WHOLE.false) c.requires in
    rw e f.0

pub offset_bounds-values-at-2 : goal.offset_bounds-values-at-2
offset_bounds-values-at-2 t c =
    let T = c.args.nodes.now in
    let k = c.args.k in
    let h = wholes-inside T k _ _ c.requires in
    omega (arith, h, c.well_formed)

pub bounds-values-at-2 : goal.bounds-values-at-2
bounds-values-at-2 t c =
    let T = c.args.nodes.now in
    let k = c.args.k in
    wholes-inside T k _ _ c.requires

pub overflow_sub-k : goal.overflow_sub-k
overflow_sub-k t c =
    let T = c.args.nodes.now in
    let k = c.args.k in
    let is = c.kind_of.ensures ∙ ap kind_of c.cell_at-cell.ensures in
    let f = more-wholes T k _ _ (sym is ∙ c.if-kind_of-ne-WHOLE.false) c.requires in
    f.1

pub overflow_add-at : goal.overflow_add-at
overflow_add-at t c =
    let T = c.args.nodes.now in
    let k = c.args.k in
    let h = wholes-inside T k _ _ c.requires in
    omega (arith, h, c.well_formed)

pub put_wholes-requires : goal.put_wholes-requires
put_wholes-requires t c =
    let T = c.args.nodes.now in
    let k = c.args.k in
    let is = c.kind_of.ensures ∙ ap kind_of c.cell_at-cell.ensures in
    let f = more-wholes T k _ _ (sym is ∙ c.if-kind_of-ne-WHOLE.false) c.requires in
    (omega (arith, c.decreases, f.1), rw length-set f.2)

pub shape_of-values : goal.shape_of-values
shape_of-values t c =
    omega (arith, length-set c.args.values.now c.args.at (to_z w64 (of_z w64 c.whole_at-z-2.result)))

pub returns : goal.returns
returns t c =
    let T = c.args.nodes.now in
    let k = c.args.k in
    let is = c.kind_of.ensures ∙ ap kind_of c.cell_at-cell.ensures in
    let e = c.left_of.ensures ∙ ap left_of c.cell_at-cell.ensures in
    let v = c.args.values.now in
    let d = back c.whole_at-z-2.result c.whole_at-z-2.type_inv in
    more-put T k v _ c.args.at c.whole_at-z-2.result (sym is ∙ c.if-kind_of-ne-WHOLE.false) (rw e at c.whole_at-z-2.ensures) (rw d at c.put_wholes.ensures)
