use mathlib.Core.Path.{ap, subst, ◌∙◌}
use Prim.Native.Nat.{◌-◌}
use native.Mathlib.Omega.{arith}
use lib.IntN.{pos}
use lib.ListN.{length, get_or}
use mir.Facts.{to_z-of_z}
use Rattle.value.proofs.Bounds.{in-fits}
use Rattle.machine.specs.Evaluate.{with_value}
use Rattle.eval.specs.Held.{Sound}
use Rattle.value.proofs.Kit.{back}
use Rattle.tree.specs.Node.{kind_of, token_of, left_of}
use Rattle.tables.specs.Settled.{number_of}
use Rattle.eval.proofs.Exprs.{worth-sound, literal-is, named-is, absolute-part, absolute-is, binary-parts, binary-is, binary-lacks}
use Prim.Native.Nat.{ℕ}
use Rattle.std.specs.Prelude.{Some}
use Rattle.eval.proofs.+eval_node_lent.Goals as goal

pub returns-then-kind-eq-LITERAL : goal.returns-then-kind-eq-LITERAL
returns-then-kind-eq-LITERAL t c e h =
    let s = c in
    let T = s.args.context.now.nodes.now in
    let L = s.args.context.now.locals.now in
    let k = s.args.k in
    let is = c.kind_of-kind.ensures ∙ ap kind_of c.cell_at-cell.ensures in
    rw (back c.number_of.result c.number_of.type_inv) (ap Some (c.number_of.ensures ∙ ap number_of c.cell_at-cell.ensures) ∙ literal-is T k c.kind_of-kind.result is L c.if-kind-eq-LITERAL.true e h)

pub returns-then-kind-eq-NAMED : goal.returns-then-kind-eq-NAMED
returns-then-kind-eq-NAMED t c e h =
    let s = c in
    let T = s.args.context.now.nodes.now in
    let L = s.args.context.now.locals.now in
    let k = s.args.k in
    let is = c.kind_of-kind.ensures ∙ ap kind_of c.cell_at-cell.ensures in
    let i = c.token_of.ensures ∙ ap token_of c.cell_at-cell.ensures in
    rw (back c.local_at.result c.local_at.type_inv) (ap Some (c.local_at.ensures ∙ ap (λ (j : ℕ). get_or L j (pos 0)) i) ∙ named-is T k c.kind_of-kind.result is L c.if-kind-eq-NAMED.true e h)

pub overflow_sub-k : goal.overflow_sub-k
overflow_sub-k t c =
    let s = c in
    let T = s.args.context.now.nodes.now in
    let L = s.args.context.now.locals.now in
    let k = s.args.k in
    let is = c.kind_of-kind.ensures ∙ ap kind_of c.cell_at-cell.ensures in
    let f = absolute-part T k c.kind_of-kind.result is (length L) c.if-kind-eq-ABSOLUTE.true s.requires in
    f.0

pub eval_node_lent-requires : goal.eval_node_lent-requires
eval_node_lent-requires t c =
    let s = c in
    let T = s.args.context.now.nodes.now in
    let L = s.args.context.now.locals.now in
    let k = s.args.k in
    let is = c.kind_of-kind.ensures ∙ ap kind_of c.cell_at-cell.ensures in
    let f = absolute-part T k c.kind_of-kind.result is (length L) c.if-kind-eq-ABSOLUTE.true s.requires in
    (omega (arith, s.decreases, f.0), f.1)

pub abs_value-requires : goal.abs_value-requires
abs_value-requires t c =
    let T = c.args.context.now.nodes.now in
    let L = c.args.context.now.locals.now in
    let k = c.args.k in
    let is = c.kind_of-kind.ensures ∙ ap kind_of c.cell_at-cell.ensures in
    let f = absolute-part T k c.kind_of-kind.result is (length L) c.if-kind-eq-ABSOLUTE.true c.requires in
    let g = subst Sound c.in_ok-x.was (worth-sound T L (length L) (k - 1) c.eval_node_lent.result c.args.context.now.in_range f.1 c.eval_node_lent.ensures) in
    simp (to_z-of_z (in-fits c.in_ok-x.x g)) g

pub returns-then-kind-eq-ABSOLUTE : goal.returns-then-kind-eq-ABSOLUTE
unfolding with_value
returns-then-kind-eq-ABSOLUTE t c e h =
    let T = c.args.context.now.nodes.now in
    let L = c.args.context.now.locals.now in
    let k = c.args.k in
    let is = c.kind_of-kind.ensures ∙ ap kind_of c.cell_at-cell.ensures in
    let f = absolute-part T k c.kind_of-kind.result is (length L) c.if-kind-eq-ABSOLUTE.true c.requires in
    let g = subst Sound c.in_ok-x.was (worth-sound T L (length L) (k - 1) c.eval_node_lent.result c.args.context.now.in_range f.1 c.eval_node_lent.ensures) in
    (simp (to_z-of_z (in-fits c.in_ok-x.x g)) at c.abs_value.ensures)
    ∙ (rw c.in_ok-x.was at (absolute-is T k c.kind_of-kind.result is L c.eval_node_lent.result c.if-kind-eq-ABSOLUTE.true c.eval_node_lent.ensures e h))

pub returns-in_err-x : goal.returns-in_err-x
unfolding with_value
returns-in_err-x t c e h =
    let T = c.args.context.now.nodes.now in
    let L = c.args.context.now.locals.now in
    let k = c.args.k in
    let is = c.kind_of-kind.ensures ∙ ap kind_of c.cell_at-cell.ensures in
    c.from_residual.ensures ∙ (rw c.in_err-x.was at (absolute-is T k c.kind_of-kind.result is L c.eval_node_lent.result c.if-kind-eq-ABSOLUTE.true c.eval_node_lent.ensures e h))

pub eval_node_lent-requires-2 : goal.eval_node_lent-requires-2
eval_node_lent-requires-2 t c =
    let T = c.args.context.now.nodes.now in
    let L = c.args.context.now.locals.now in
    let k = c.args.k in
    let is = c.kind_of-kind.ensures ∙ ap kind_of c.cell_at-cell.ensures in
    let f = binary-parts T k c.kind_of-kind.result is c.if-kind-eq-LITERAL.false c.if-kind-eq-NAMED.false c.if-kind-eq-ABSOLUTE.false (length L) c.requires in
    let e = c.left_of.ensures ∙ ap left_of c.cell_at-cell.ensures in
    (rw (e, ← c.decreases) f.1, rw e f.2)

pub returns-in_err-x-2 : goal.returns-in_err-x-2
returns-in_err-x-2 t c o h =
    let T = c.args.context.now.nodes.now in
    let L = c.args.context.now.locals.now in
    let k = c.args.k in
    let is = c.kind_of-kind.ensures ∙ ap kind_of c.cell_at-cell.ensures in
    let e = c.left_of.ensures ∙ ap left_of c.cell_at-cell.ensures in
    c.from_residual-in_err-x-2.ensures ∙ binary-lacks T k c.kind_of-kind.result is c.if-kind-eq-LITERAL.false c.if-kind-eq-NAMED.false c.if-kind-eq-ABSOLUTE.false L (rw (e, c.in_err-x-2.was) at c.eval_node_lent-2.ensures) o h

pub overflow_sub-k-2 : goal.overflow_sub-k-2
overflow_sub-k-2 t c =
    let T = c.args.context.now.nodes.now in
    let L = c.args.context.now.locals.now in
    let k = c.args.k in
    let is = c.kind_of-kind.ensures ∙ ap kind_of c.cell_at-cell.ensures in
    let f = binary-parts T k c.kind_of-kind.result is c.if-kind-eq-LITERAL.false c.if-kind-eq-NAMED.false c.if-kind-eq-ABSOLUTE.false (length L) c.requires in
    f.0

pub eval_node_lent-requires-3 : goal.eval_node_lent-requires-3
eval_node_lent-requires-3 t c =
    let T = c.args.context.now.nodes.now in
    let L = c.args.context.now.locals.now in
    let k = c.args.k in
    let is = c.kind_of-kind.ensures ∙ ap kind_of c.cell_at-cell.ensures in
    let f = binary-parts T k c.kind_of-kind.result is c.if-kind-eq-LITERAL.false c.if-kind-eq-NAMED.false c.if-kind-eq-ABSOLUTE.false (length L) c.requires in
    (omega (arith, c.decreases, f.0), f.3)

pub apply-requires : goal.apply-requires
apply-requires t c =
    let T = c.args.context.now.nodes.now in
    let L = c.args.context.now.locals.now in
    let k = c.args.k in
    let is = c.kind_of-kind.ensures ∙ ap kind_of c.cell_at-cell.ensures in
    let f = binary-parts T k c.kind_of-kind.result is c.if-kind-eq-LITERAL.false c.if-kind-eq-NAMED.false c.if-kind-eq-ABSOLUTE.false (length L) c.requires in
    let e = c.left_of.ensures ∙ ap left_of c.cell_at-cell.ensures in
    let g = subst Sound c.in_ok-x-2.was (worth-sound T L (length L) c.left_of.result c.eval_node_lent-2.result c.args.context.now.in_range (rw e f.2) c.eval_node_lent-2.ensures) in
    let h = subst Sound c.in_ok-y.was (worth-sound T L (length L) (k - 1) c.eval_node_lent-3.result c.args.context.now.in_range f.3 c.eval_node_lent-3.ensures) in
    simp (to_z-of_z (in-fits c.in_ok-x-2.x g), to_z-of_z (in-fits c.in_ok-y.y h)) (g, h)

pub returns-in_err-y : goal.returns-in_err-y
unfolding with_value
returns-in_err-y t c =
    let T = c.args.context.now.nodes.now in
    let L = c.args.context.now.locals.now in
    let k = c.args.k in
    let is = c.kind_of-kind.ensures ∙ ap kind_of c.cell_at-cell.ensures in
    let e = c.left_of.ensures ∙ ap left_of c.cell_at-cell.ensures in
    binary-is T k c.kind_of-kind.result is c.if-kind-eq-LITERAL.false c.if-kind-eq-NAMED.false c.if-kind-eq-ABSOLUTE.false L c.eval_node_lent-2.result c.eval_node_lent-3.result _ (rw e at c.eval_node_lent-2.ensures) c.eval_node_lent-3.ensures
    (λ o q. rw (c.in_ok-x-2.was, c.in_err-y.was) c.from_residual-in_err-y.ensures)

pub returns : goal.returns
unfolding with_value
returns t c =
    let T = c.args.context.now.nodes.now in
    let L = c.args.context.now.locals.now in
    let k = c.args.k in
    let is = c.kind_of-kind.ensures ∙ ap kind_of c.cell_at-cell.ensures in
    let f = binary-parts T k c.kind_of-kind.result is c.if-kind-eq-LITERAL.false c.if-kind-eq-NAMED.false c.if-kind-eq-ABSOLUTE.false (length L) c.requires in
    let e = c.left_of.ensures ∙ ap left_of c.cell_at-cell.ensures in
    let g = subst Sound c.in_ok-x-2.was (worth-sound T L (length L) c.left_of.result c.eval_node_lent-2.result c.args.context.now.in_range (rw e f.2) c.eval_node_lent-2.ensures) in
    let h = subst Sound c.in_ok-y.was (worth-sound T L (length L) (k - 1) c.eval_node_lent-3.result c.args.context.now.in_range f.3 c.eval_node_lent-3.ensures) in
    binary-is T k c.kind_of-kind.result is c.if-kind-eq-LITERAL.false c.if-kind-eq-NAMED.false c.if-kind-eq-ABSOLUTE.false L c.eval_node_lent-2.result c.eval_node_lent-3.result c.apply.result (rw e at c.eval_node_lent-2.ensures) c.eval_node_lent-3.ensures
    (λ o q. rw (c.in_ok-x-2.was, c.in_ok-y.was) (simp (to_z-of_z (in-fits c.in_ok-x-2.x g), to_z-of_z (in-fits c.in_ok-y.y h)) at (c.apply.ensures o q)))
