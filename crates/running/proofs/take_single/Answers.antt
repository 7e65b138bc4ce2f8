-- 16, or the entry that the draw chooses: 17 to 19 refuse it as it is, and 23 to 25 put back the state that was kept.
use mathlib.Core.Path.{◌≡◌, ◌∙◌}
use borrow.Author.Rules.{rules}
use Rattle.std.proofs.lemmas.Result.{err_from_is_err_and}
use Rattle.rules.specs.Listing.{key_of}
use Rattle.step.proofs.Rows.{can-choose, row_of, row-long, row-numbers}
use Rattle.running.specs.declared.Refusal.TheVariants.{Draw}
use Rattle.running.specs.Taking.{stepped_by}
use Rattle.running.proofs.Taking.{none-chosen, entry-chosen, waited, unwaited, refused}
use Rattle.running.proofs.take_single.Goals as goal

pub choose-requires : goal.choose-requires
choose-requires c =
    can-choose c.requires.0.3

pub returns-in_err-c : goal.returns-in_err-c
returns-in_err-c c =
    λ m s es h.
    let p = err_from_is_err_and c.from_residual.result c.from_residual.ensures.1 in
    let v = rw c.in_err-c.ensures.ok_part at c.in_err-c.ensures.value in
    let d : c.in_err-c.field-0.0 ≡ Draw = cc v in
    rw (p.1, p.2, d) (none-chosen h c.requires.2 _ _ _ _ c.choose.ensures c.in_err-c.ensures.ok_part)

pub copy_from_slice-requires : goal.copy_from_slice-requires
copy_from_slice-requires c =
    let e = row_of c.requires.0.3 _ _ c.choose.ensures _ c.in_ok-c.ensures.ok_part in
    let k = row-long e.1 in search rules

pub take_row-requires : goal.take_row-requires
take_row-requires c =
    let e = row_of c.requires.0.3 _ _ c.choose.ensures _ c.in_ok-c.ensures.ok_part in
    (c.requires.0.0, c.requires.0.1, c.requires.0.2, e.0, e.1)

pub returns-in_err-take_row : goal.returns-in_err-take_row
returns-in_err-take_row c =
    λ m s es h.
    let p = err_from_is_err_and c.from_residual-in_err-take_row.result c.from_residual-in_err-take_row.ensures.1 in
    let e = row_of h _ _ c.choose.ensures _ c.in_ok-c.ensures.ok_part in
    rw (p.1, p.2)
    (entry-chosen h c.requires.2 _ _ _ _ _ e.0 _ _ c.choose.ensures c.in_ok-c.ensures.ok_part e.1.at (refused m s es _ (key_of e.0) _ _ _ _ _ c.in_err-take_row.was (c.take_row.ensures m s es e.0 e.1)))

pub returns-in-Ok : goal.returns-in-Ok
unfolding stepped_by
returns-in-Ok c =
    λ m s es h.
    let e = row_of h _ _ c.choose.ensures _ c.in_ok-c.ensures.ok_part in
    entry-chosen h c.requires.2 _ _ _ _ _ e.0 _ _ c.choose.ensures c.in_ok-c.ensures.ok_part e.1.at
    (waited m s es _ (key_of e.0) _ _ _ _ _ _ c.bring.ensures h.sum_is _ _ c.in-Ok.is c.in_ok-take_row.was (c.take_row.ensures m s es e.0 e.1))

pub returns-in-Err : goal.returns-in-Err
unfolding stepped_by
returns-in-Err c =
    λ m s es h.
    let e = row_of h _ _ c.choose.ensures _ c.in_ok-c.ensures.ok_part in
    entry-chosen h c.requires.2 _ _ _ _ _ e.0 _ _ c.choose.ensures c.in_ok-c.ensures.ok_part e.1.at
    (unwaited m s es _ (key_of e.0) _ _ _ _ _ _ c.bring.ensures h.sum_is _ _ c.in-Err.is c.in_ok-take_row.was (c.take_row.ensures m s es e.0 e.1).is
    (c.copy_from_slice-in-Err.ensures.after ∙ c.copy_from_slice.ensures.after ∙ row-numbers e.1))
