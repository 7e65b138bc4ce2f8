use mathlib.Core.Path.{ap, sym, ◌∙◌}
use native.Mathlib.Omega.{arith}
use Rattle.tree.specs.Node.{kind_of, left_of}
use Rattle.store.proofs.Nodes.{last-item, last-items, first-item, rest-items, more-items}
use Rattle.store.proofs.start.+put_items.Goals as goal

pub put_item-requires : goal.put_item-requires
put_item-requires t c =
    let T = c.args.tables.nodes.now in
    let S = c.args.tables.scopes.now in
    let R = c.args.tables.root in
    let N = c.args.tables.variables in
    let k = c.args.k in
    let is = c.kind_of.ensures ∙ ap kind_of c.cell_at-cell.ensures in
    last-item T R N k S (λ x. c.if-kind_of-ne-SYSTEM.true (is ∙ x)) _ _ c.requires

pub returns-then-kind_of-ne-SYSTEM-clause-written : goal.returns-then-kind_of-ne-SYSTEM-clause-written
returns-then-kind_of-ne-SYSTEM-clause-written t c =
    let T = c.args.tables.nodes.now in
    let S = c.args.tables.scopes.now in
    let R = c.args.tables.root in
    let N = c.args.tables.variables in
    let k = c.args.k in
    let is = c.kind_of.ensures ∙ ap kind_of c.cell_at-cell.ensures in
    last-items T R N k S (λ x. c.if-kind_of-ne-SYSTEM.true (is ∙ x)) _ _ _ _ c.put_item.ensures.written

pub put_item-requires-2 : goal.put_item-requires-2
put_item-requires-2 t c =
    let T = c.args.tables.nodes.now in
    let S = c.args.tables.scopes.now in
    let R = c.args.tables.root in
    let N = c.args.tables.variables in
    let k = c.args.k in
    let is = c.kind_of.ensures ∙ ap kind_of c.cell_at-cell.ensures in
    let e = c.left_of.ensures ∙ ap left_of c.cell_at-cell.ensures in
    rw e (first-item T R N k S (sym is ∙ c.if-kind_of-ne-SYSTEM.false) _ _ c.requires)

pub overflow_sub-k : goal.overflow_sub-k
overflow_sub-k t c =
    let T = c.args.tables.nodes.now in
    let S = c.args.tables.scopes.now in
    let R = c.args.tables.root in
    let N = c.args.tables.variables in
    let k = c.args.k in
    let is = c.kind_of.ensures ∙ ap kind_of c.cell_at-cell.ensures in
    let e = c.left_of.ensures ∙ ap left_of c.cell_at-cell.ensures in
    (rest-items T R N k S (sym is ∙ c.if-kind_of-ne-SYSTEM.false) c.args.rows.now.fresh.now _ _ _ (rw e at c.put_item-2.ensures.written) c.requires).0

pub put_items-requires : goal.put_items-requires
put_items-requires t c =
    let T = c.args.tables.nodes.now in
    let S = c.args.tables.scopes.now in
    let R = c.args.tables.root in
    let N = c.args.tables.variables in
    let k = c.args.k in
    let is = c.kind_of.ensures ∙ ap kind_of c.cell_at-cell.ensures in
    let e = c.left_of.ensures ∙ ap left_of c.cell_at-cell.ensures in
    let f = rest-items T R N k S (sym is ∙ c.if-kind_of-ne-SYSTEM.false) c.args.rows.now.fresh.now _ _ _ (rw e at c.put_item-2.ensures.written) c.requires in
    (omega (arith, c.decreases, f.0), f.1)

pub returns-clause-written : goal.returns-clause-written
returns-clause-written t c =
    let T = c.args.tables.nodes.now in
    let S = c.args.tables.scopes.now in
    let R = c.args.tables.root in
    let N = c.args.tables.variables in
    let k = c.args.k in
    let is = c.kind_of.ensures ∙ ap kind_of c.cell_at-cell.ensures in
    let e = c.left_of.ensures ∙ ap left_of c.cell_at-cell.ensures in
    more-items T R N k S (sym is ∙ c.if-kind_of-ne-SYSTEM.false) c.args.rows.now.fresh.now _ _ _ (rw e at c.put_item-2.ensures.written) _ _ c.put_items.ensures.written
