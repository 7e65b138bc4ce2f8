-- `store::start::put_item` meets its contract: the definition's sums, with the item's values, as often as it counts.
use mathlib.Core.Path.{ap, ◌∙◌}
use Prim.Native.Nat.{ℕ, ◌-◌}
use native.Mathlib.Omega.{arith}
use lib.ListN.{get_or}
use Rattle.tree.specs.Node.{token_of, left_of, third_of}
use Rattle.store.proofs.Nodes.{item-third, few-values, body-above, item-copies, item-puts, item-good}
use Rattle.store.proofs.start.put_item.Goals as goal

pub body_of-body-requires : goal.body_of-body-requires
body_of-body-requires c =
    let T = c.args.tables.nodes.now in
    let S = c.args.tables.scopes.now in
    let R = c.args.tables.root in
    let N = c.args.tables.variables in
    let k = c.args.k in
    let o = c.token_of.ensures ∙ ap token_of c.cell_at-cell.ensures in
    rw o (body-above T R N k S c.requires.model c.requires.start c.requires.holds c.requires.items.defines (item-good c.requires))

pub put_values-requires : goal.put_values-requires
put_values-requires c =
    let T = c.args.tables.nodes.now in
    let S = c.args.tables.scopes.now in
    let R = c.args.tables.root in
    let N = c.args.tables.variables in
    let k = c.args.k in
    let l = few-values T R N k S c.requires.model c.requires.start c.requires.holds c.requires.items.good (item-good c.requires) in
    (c.requires.start, c.requires.holds, (item-good c.requires).values, l)

pub slice_bounds-values-end : goal.slice_bounds-values-end
slice_bounds-values-end c =
    let T = c.args.tables.nodes.now in
    let S = c.args.tables.scopes.now in
    let R = c.args.tables.root in
    let N = c.args.tables.variables in
    let k = c.args.k in
    let h = c.third_of-count.ensures ∙ ap third_of c.cell_at-cell.ensures in
    let l = few-values T R N k S c.requires.model c.requires.start c.requires.holds c.requires.items.good (item-good c.requires) in
    omega (arith, h, l, item-third T k c.requires.start c.requires.holds)

pub put_copies-requires : goal.put_copies-requires
put_copies-requires c =
    let T = c.args.tables.nodes.now in
    let S = c.args.tables.scopes.now in
    let R = c.args.tables.root in
    let N = c.args.tables.variables in
    let k = c.args.k in
    let o = c.token_of.ensures ∙ ap token_of c.cell_at-cell.ensures in
    let b = c.body_of-body.ensures ∙ ap (λ (x : ℕ). left_of (get_or T (R - N - x) 0) - 1) o in
    let h = c.third_of-count.ensures ∙ ap third_of c.cell_at-cell.ensures in
    let e = c.left_of.ensures ∙ ap left_of c.cell_at-cell.ensures in
    rw (b, h, e) (item-copies T R N k S _ _ _ c.put_values.ensures c.requires)

pub returns-clause-written : goal.returns-clause-written
returns-clause-written c =
    let T = c.args.tables.nodes.now in
    let S = c.args.tables.scopes.now in
    let R = c.args.tables.root in
    let N = c.args.tables.variables in
    let k = c.args.k in
    let o = c.token_of.ensures ∙ ap token_of c.cell_at-cell.ensures in
    let b = c.body_of-body.ensures ∙ ap (λ (x : ℕ). left_of (get_or T (R - N - x) 0) - 1) o in
    let h = c.third_of-count.ensures ∙ ap third_of c.cell_at-cell.ensures in
    let e = c.left_of.ensures ∙ ap left_of c.cell_at-cell.ensures in
    item-puts T R N k S _ _ _ _ _ c.put_values.ensures (rw (b, h, e) at c.put_copies.ensures.written)
