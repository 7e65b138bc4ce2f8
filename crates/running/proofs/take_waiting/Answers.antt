-- 23 to 25 are known before the entry is taken; they refuse an entry that 17 to 19 accept, and the state is kept.
use mathlib.Core.Path.{◌∙◌}
use Rattle.std.proofs.lemmas.Result.{err_from_is_err_and}
use Rattle.rules.specs.Listing.{key_of}
use Rattle.step.proofs.Rows.{row-numbers}
use Rattle.running.specs.Taking.{stepped_by}
use Rattle.running.proofs.Taking.{waited, unwaited}
use Rattle.running.proofs.take_waiting.Goals as goal

pub bring-requires : goal.bring-requires
bring-requires c =
    (c.requires.1, c.requires.2)

pub returns-in_err-take_row-in-Ok : goal.returns-in_err-take_row-in-Ok
unfolding stepped_by
returns-in_err-take_row-in-Ok c =
    λ m s es e h q.
    let p = err_from_is_err_and c.from_residual.result c.from_residual.ensures.1 in
    rw (p.1, p.2) (waited m s es _ (key_of e) _ _ _ _ _ _ c.bring.ensures q _ _ c.in-Ok.is c.in_err-take_row-in-Ok.was (c.take_row.ensures m s es e h))

pub returns-in_ok-take_row-in-Ok : goal.returns-in_ok-take_row-in-Ok
unfolding stepped_by
returns-in_ok-take_row-in-Ok c =
    λ m s es e h q. waited m s es _ (key_of e) _ _ _ _ _ _ c.bring.ensures q _ _ c.in-Ok.is c.in_ok-take_row-in-Ok.was (c.take_row.ensures m s es e h)

pub returns-in_err-take_kept-in-Err : goal.returns-in_err-take_kept-in-Err
unfolding stepped_by
returns-in_err-take_kept-in-Err c =
    λ m s es e h q.
    let p = err_from_is_err_and c.from_residual-in_err-take_kept-in-Err.result c.from_residual-in_err-take_kept-in-Err.ensures.1 in
    rw (p.1, p.2) (unwaited m s es _ (key_of e) _ _ _ _ _ _ c.bring.ensures q _ _ c.in-Err.is c.in_err-take_kept-in-Err.was (c.take_kept.ensures.0 m s es e h) (c.take_kept.ensures.1 ∙ row-numbers h))

pub returns-in_ok-take_kept-in-Err : goal.returns-in_ok-take_kept-in-Err
unfolding stepped_by
returns-in_ok-take_kept-in-Err c =
    λ m s es e h q. unwaited m s es _ (key_of e) _ _ _ _ _ _ c.bring.ensures q _ _ c.in-Err.is c.in_ok-take_kept-in-Err.was (c.take_kept.ensures.0 m s es e h) (c.take_kept.ensures.1 ∙ row-numbers h)
