-- 15, 16, and the entry that the draw chooses.
use mathlib.Core.Path.{◌≡◌}
use Rattle.std.proofs.lemmas.Result.{err_from_is_err_and}
use Rattle.running.specs.declared.Refusal.TheVariants.{Draw}
use Rattle.engine.specs.declared.Refusal.TheVariants.{Step}
use Rattle.step.proofs.Rows.{can-choose, row_of}
use Rattle.engine.proofs.Drawn.{left-15, left-16, left-taken}
use Rattle.engine.proofs.steps.take_drawn.Goals as goal

pub returns-then-listed-eq0 : goal.returns-then-listed-eq0
returns-then-listed-eq0 c =
    λ m s es h. left-15 h c.args.draw c.if-listed-eq0.true

pub choose-requires : goal.choose-requires
choose-requires c =
    can-choose c.requires.3

pub returns-in_err-c : goal.returns-in_err-c
returns-in_err-c c =
    let p = err_from_is_err_and c.from_residual.result c.from_residual.ensures.1 in
    let o = rw c.in_err-c.was at c.ok_or.ensures.ok_part in
    let v = rw (c.in_err-c.was, o) at c.ok_or.ensures.value in
    let d : c.in_err-c.field-0.0 ≡ Step Draw c.args.listed = cc v in
    λ m s es h. rw (p.1, p.2, d) (left-16 h c.args.draw c.choose.result c.if-listed-eq0.false c.choose.ensures o)

pub take_row-taken-requires : goal.take_row-taken-requires
take_row-taken-requires c =
    let h = c.requires.3 in
    let e = row_of h c.choose.result c.args.draw c.choose.ensures _ (rw c.in_ok-c.was at c.ok_or.ensures.ok_part) in
    (c.requires.0, c.requires.1, c.requires.2, e.0, e.1)

pub returns-in-Ok : goal.returns-in-Ok
returns-in-Ok c =
    let o = rw c.in_ok-c.was at c.ok_or.ensures.ok_part in
    λ m s es h.
    let e = row_of h c.choose.result c.args.draw c.choose.ensures _ o in
    rw c.in-Ok.is at (left-taken h c.args.draw _ e.0 c.choose.result _ _ c.if-listed-eq0.false c.choose.ensures o e.1 (c.take_row-taken.ensures m s es e.0 e.1))

pub returns-in-Err : goal.returns-in-Err
returns-in-Err c =
    let o = rw c.in_ok-c.was at c.ok_or.ensures.ok_part in
    λ m s es h.
    let e = row_of h c.choose.result c.args.draw c.choose.ensures _ o in
    rw c.in-Err.is at (left-taken h c.args.draw _ e.0 c.choose.result _ _ c.if-listed-eq0.false c.choose.ensures o e.1 (c.take_row-taken.ensures m s es e.0 e.1))
