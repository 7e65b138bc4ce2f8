use mathlib.Core.Path.{ap, sym, ◌∙◌}
use native.Mathlib.Omega.{arith}
use lib.ListN.{length, length-set}
use mir.Syntax.{w64}
use mir.Val.{of_z, to_z}
use Rattle.value.proofs.Kit.{back}
use Rattle.tree.specs.Node.{kind_of, left_of}
use Rattle.eval.proofs.Exprs.{zeroed}
use Rattle.eval.proofs.Arguments.{last-part, more_parts}
use Rattle.eval.proofs.Rows.{room-some, room-inside, room-more, last-put, more-put}
use Rattle.eval.proofs.next.+put_arguments.Goals as goal

pub eval_node_lent-requires : goal.eval_node_lent-requires
eval_node_lent-requires t c =
    let s = c in
    let T = s.args.context.now.nodes.now in
    let L = s.args.context.now.locals.now in
    let k = s.args.k in
    let is = c.kind_of.ensures ∙ ap kind_of c.cell_at-cell.ensures in
    last-part T k c.kind_of.result is c.if-kind_of-ne-ARGUMENT.true (length L) (room-some T (length L) k _ _ s.requires)

pub offset_bounds-values-at : goal.offset_bounds-values-at
offset_bounds-values-at t c =
    let s = c in
    let T = s.args.context.now.nodes.now in
    let L = s.args.context.now.locals.now in
    let k = s.args.k in
    let h = room-inside T (length L) k _ _ s.requires in
    omega (arith, h, s.well_formed)

pub bounds-values-at : goal.bounds-values-at
bounds-values-at t c =
    let s = c in
    let T = s.args.context.now.nodes.now in
    let L = s.args.context.now.locals.now in
    let k = s.args.k in
    room-inside T (length L) k _ _ s.requires

pub shape_of-values-then-kind_of-ne-ARGUMENT : goal.shape_of-values-then-kind_of-ne-ARGUMENT
shape_of-values-then-kind_of-ne-ARGUMENT t c =
    simp length-set

pub returns-then-kind_of-ne-ARGUMENT : goal.returns-then-kind_of-ne-ARGUMENT
returns-then-kind_of-ne-ARGUMENT t c =
    let s = c in
    let T = s.args.context.now.nodes.now in
    let L = s.args.context.now.locals.now in
    let k = s.args.k in
    let is = c.kind_of.ensures ∙ ap kind_of c.cell_at-cell.ensures in
    let v = s.args.values.now in
    let x = c.eval_node_lent.result in
    rw (back c.unwrap_or-z.result c.unwrap_or-z.type_inv, c.unwrap_or-z.ensures ∙ zeroed c.eval_node_lent.result) (last-put T L k v v s.args.at x (λ e. c.if-kind_of-ne-ARGUMENT.true (is ∙ e)) c.eval_node_lent.ensures)

pub eval_node_lent-requires-2 : goal.eval_node_lent-requires-2
eval_node_lent-requires-2 t c =
    let s = c in
    let T = s.args.context.now.nodes.now in
    let L = s.args.context.now.locals.now in
    let k = s.args.k in
    let is = c.kind_of.ensures ∙ ap kind_of c.cell_at-cell.ensures in
    let e = c.left_of.ensures ∙ ap left_of c.cell_at-cell.ensures in
    let f = more_parts T k c.kind_of.result is c.if-kind_of-ne-ARGUMENT.false (length L) (room-some T (length L) k _ _ s.requires) in
    rw e f.1

pub offset_bounds-values-at-2 : goal.offset_bounds-values-at-2
offset_bounds-values-at-2 t c =
    let s = c in
    let T = s.args.context.now.nodes.now in
    let L = s.args.context.now.locals.now in
    let k = s.args.k in
    let h = room-inside T (length L) k _ _ s.requires in
    omega (arith, h, s.well_formed)

pub bounds-values-at-2 : goal.bounds-values-at-2
bounds-values-at-2 t c =
    let s = c in
    let T = s.args.context.now.nodes.now in
    let L = s.args.context.now.locals.now in
    let k = s.args.k in
    room-inside T (length L) k _ _ s.requires

pub overflow_sub-k : goal.overflow_sub-k
overflow_sub-k t c =
    let s = c in
    let T = s.args.context.now.nodes.now in
    let L = s.args.context.now.locals.now in
    let k = s.args.k in
    let is = c.kind_of.ensures ∙ ap kind_of c.cell_at-cell.ensures in
    (more_parts T k c.kind_of.result is c.if-kind_of-ne-ARGUMENT.false (length L) (room-some T (length L) k _ _ s.requires)).0

pub overflow_add-at : goal.overflow_add-at
overflow_add-at t c =
    let s = c in
    let T = s.args.context.now.nodes.now in
    let L = s.args.context.now.locals.now in
    let k = s.args.k in
    let h = room-inside T (length L) k _ _ s.requires in
    omega (arith, h, s.well_formed)

pub put_arguments-requires : goal.put_arguments-requires
put_arguments-requires t c =
    let s = c in
    let T = s.args.context.now.nodes.now in
    let L = s.args.context.now.locals.now in
    let k = s.args.k in
    let is = c.kind_of.ensures ∙ ap kind_of c.cell_at-cell.ensures in
    let f = more_parts T k c.kind_of.result is c.if-kind_of-ne-ARGUMENT.false (length L) (room-some T (length L) k _ _ s.requires) in
    (omega (arith, s.decreases, f.0), rw length-set (room-more T (length L) k _ _ s.requires (sym is ∙ c.if-kind_of-ne-ARGUMENT.false)))

pub shape_of-values : goal.shape_of-values
shape_of-values t c =
    let s = c in
    omega (arith, length-set s.args.values.now s.args.at (to_z w64 (of_z w64 c.unwrap_or-z-2.result)))

pub returns : goal.returns
returns t c =
    let s = c in
    let T = s.args.context.now.nodes.now in
    let L = s.args.context.now.locals.now in
    let k = s.args.k in
    let is = c.kind_of.ensures ∙ ap kind_of c.cell_at-cell.ensures in
    let e = c.left_of.ensures ∙ ap left_of c.cell_at-cell.ensures in
    let v = s.args.values.now in
    let d = back c.unwrap_or-z-2.result c.unwrap_or-z-2.type_inv ∙ c.unwrap_or-z-2.ensures ∙ zeroed _ in
    more-put T L k v _ s.args.at c.eval_node_lent-2.result (sym is ∙ c.if-kind_of-ne-ARGUMENT.false) (rw e at c.eval_node_lent-2.ensures) (rw d at c.put_arguments.ensures)
