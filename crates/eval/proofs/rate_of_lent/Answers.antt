-- `eval::rate_of_lent` meets its contract: a scale, or a scale times an atom. From what the node says.
use mathlib.Core.Path.{sym, ap, ◌∙◌}
use native.Mathlib.Omega.{arith}
use Rattle.value.proofs.Kit.{back}
use Rattle.machine.specs.Evaluate.{given, valued}
use Rattle.eval.specs.Rates.{rate_of}
use lib.ListN.{length}
use Rattle.tree.specs.Node.{kind_of, left_of}
use Rattle.eval.proofs.Rates.{rate-some, plain-rate, atom-part, scaled-rate, scale-lacks}
use Rattle.eval.proofs.rate_of_lent.Goals as goal

pub returns-then-kind_of-ne-SCALED : goal.returns-then-kind_of-ne-SCALED
returns-then-kind_of-ne-SCALED c =
    let s = c in
    let T = s.args.context.now.nodes.now in
    let L = s.args.context.now.locals.now in
    let k = s.args.k in
    let is = c.kind_of.ensures ∙ ap kind_of c.cell_at-cell.ensures in
    plain-rate T k c.kind_of.result is L c.scale_of.result c.if-kind_of-ne-SCALED.true c.scale_of.ensures

pub returns-in_err-scale : goal.returns-in_err-scale
returns-in_err-scale c r h =
    let T = c.args.context.now.nodes.now in
    let L = c.args.context.now.locals.now in
    let k = c.args.k in
    let is = c.kind_of.ensures ∙ ap kind_of c.cell_at-cell.ensures in
    let e = c.left_of.ensures ∙ ap left_of c.cell_at-cell.ensures in
    c.from_residual.ensures ∙ scale-lacks T k c.kind_of.result is c.if-kind_of-ne-SCALED.false L (rw (e, c.in_err-scale.was) at c.scale_of-2.ensures) r h

pub overflow_sub-k : goal.overflow_sub-k
overflow_sub-k c =
    let s = c in
    let T = s.args.context.now.nodes.now in
    let L = s.args.context.now.locals.now in
    let k = s.args.k in
    let is = c.kind_of.ensures ∙ ap kind_of c.cell_at-cell.ensures in
    (atom-part T k c.kind_of.result is c.if-kind_of-ne-SCALED.false (length L) s.requires).0

pub eval_node_lent-requires : goal.eval_node_lent-requires
eval_node_lent-requires c =
    let T = c.args.context.now.nodes.now in
    let L = c.args.context.now.locals.now in
    let k = c.args.k in
    let is = c.kind_of.ensures ∙ ap kind_of c.cell_at-cell.ensures in
    (atom-part T k c.kind_of.result is c.if-kind_of-ne-SCALED.false (length L) c.requires).1

pub returns-in_err-x : goal.returns-in_err-x
unfolding given valued rate_of
returns-in_err-x c =
    let T = c.args.context.now.nodes.now in
    let L = c.args.context.now.locals.now in
    let k = c.args.k in
    let is = c.kind_of.ensures ∙ ap kind_of c.cell_at-cell.ensures in
    let e = c.left_of.ensures ∙ ap left_of c.cell_at-cell.ensures in
    scaled-rate T k c.kind_of.result is c.if-kind_of-ne-SCALED.false L c.scale_of-2.result c.eval_node_lent.result _ (rw e at c.scale_of-2.ensures) c.eval_node_lent.ensures
    (λ o h. rw (rate-some o c.in_ok-scale.scale (sym c.in_ok-scale.was ∙ h), c.in_err-x.was) c.from_residual-in_err-x.ensures)

pub returns : goal.returns
unfolding given valued
returns c =
    let T = c.args.context.now.nodes.now in
    let L = c.args.context.now.locals.now in
    let k = c.args.k in
    let is = c.kind_of.ensures ∙ ap kind_of c.cell_at-cell.ensures in
    let e = c.left_of.ensures ∙ ap left_of c.cell_at-cell.ensures in
    let d = back c.in_ok-x.x (omega arith) in
    scaled-rate T k c.kind_of.result is c.if-kind_of-ne-SCALED.false L c.scale_of-2.result c.eval_node_lent.result _ (rw e at c.scale_of-2.ensures) c.eval_node_lent.ensures
    (λ o h. rw (rate-some o c.in_ok-scale.scale (sym c.in_ok-scale.was ∙ h), c.in_ok-x.was) (simp d at c.scaled.ensures))
