-- 16, and the entry that the draw chooses.
use mathlib.Core.Path.{◌≡◌}
use Rattle.std.proofs.lemmas.Result.{err_from_is_err_and}
use Rattle.running.specs.declared.Refusal.TheVariants.{Draw}
use Rattle.step.proofs.Rows.{can-choose, row_of}
use Rattle.running.proofs.Taking.{none-chosen, entry-chosen}
use Rattle.running.proofs.take_timed.Goals as goal

pub choose-requires : goal.choose-requires
choose-requires c =
    can-choose c.requires.0.3

pub take_waiting-requires : goal.take_waiting-requires
take_waiting-requires c =
    let e = row_of c.requires.0.3 _ _ c.choose.ensures _ c.in_ok-c.ensures.ok_part in
    ((c.requires.0.0, c.requires.0.1, c.requires.0.2, e.0, e.1), c.requires.1, c.requires.2)

pub returns-in_err-c : goal.returns-in_err-c
returns-in_err-c c =
    λ m s es h.
    let p = err_from_is_err_and c.from_residual.result c.from_residual.ensures.1 in
    let v = rw c.in_err-c.ensures.ok_part at c.in_err-c.ensures.value in
    let d : c.in_err-c.field-0.0 ≡ Draw = cc v in
    rw (p.1, p.2, d) (none-chosen h c.requires.2 _ _ _ _ c.choose.ensures c.in_err-c.ensures.ok_part)

pub returns : goal.returns
returns c =
    λ m s es h.
    let e = row_of h _ _ c.choose.ensures _ c.in_ok-c.ensures.ok_part in
    entry-chosen h c.requires.2 _ _ _ _ _ e.0 _ _ c.choose.ensures c.in_ok-c.ensures.ok_part e.1.at (c.take_waiting.ensures m s es e.0 e.1 h.sum_is)
