-- `listing::list_in` meets its contract: what leads, and zeros after it.
use mathlib.Core.Path.{ap, ◌∙◌, subst}
use Prim.Native.Nat.{ℕ, ◌<◌}
use Rattle.offers.specs.Links.{row_limit}
use native.Mathlib.Omega.{arith}
use borrow.Author.Rules.{rules}
use Rattle.std.specs.Prelude.{Err, Ok}
use Rattle.listing.specs.Buffer.{done, full}
use Rattle.listing.proofs.Finished.{all-led, not_short, filled-fits, clears, clears-all, tail-zeros}
use Rattle.listing.proofs.list_in.Goals as goal

pub overflow_mul-l : goal.overflow_mul-l
overflow_mul-l g c =
    let h = filled-fits (all-led (Ok c.in-Ok.l) c.in-Ok.is (c.try_over-listed.ensures c.requires.0.0 c.requires.0.1 c.requires.0.2)) in
    omega (arith, h, c.try_over-listed.auto.listing, c.requires.1)

pub offset_bounds-listing-l : goal.offset_bounds-listing-l
offset_bounds-listing-l g c =
    let h = filled-fits (all-led (Ok c.in-Ok.l) c.in-Ok.is (c.try_over-listed.ensures c.requires.0.0 c.requires.0.1 c.requires.0.2)) in
    omega (arith, h, c.try_over-listed.auto.listing, c.requires.1)

pub slice_bounds-fill-count : goal.slice_bounds-fill-count
slice_bounds-fill-count g c = filled-fits (all-led (Ok c.in-Ok.l) c.in-Ok.is (c.try_over-listed.ensures c.requires.0.0 c.requires.0.1 c.requires.0.2))

pub slice_bounds-fill-start : goal.slice_bounds-fill-start
slice_bounds-fill-start g c = filled-fits (all-led (Ok c.in-Ok.l) c.in-Ok.is (c.try_over-listed.ensures c.requires.0.0 c.requires.0.1 c.requires.0.2))

pub returns-in-Ok : goal.returns-in-Ok
returns-in-Ok g c =
    λ m s w. done (Ok c.in-Ok.l) c.in-Ok.is (rw (tail-zeros _ _ _ (c.fill.ensures.after (λ y e. e))) (clears (omega (arith, c.try_over-listed.auto.listing, c.requires.1)) (all-led (Ok c.in-Ok.l) c.in-Ok.is (c.try_over-listed.ensures m s w))))

pub returns-in-Err-Refused : goal.returns-in-Err-Refused
returns-in-Err-Refused g c =
    λ m s w. let e = c.in-Err-Refused.is ∙ ap Err (rw c.in-Err-Refused.is at c.in-Err-Refused.field-0-is) in
    done (Err c.in-Err-Refused.field-0-0) e (rw (c.fill-in-Err-Refused.ensures.after (λ y e. e)) (clears-all (omega (arith, c.try_over-listed.auto.listing, c.requires.1)) (all-led (Err c.in-Err-Refused.field-0-0) e (c.try_over-listed.ensures m s w))))

pub returns-in-Err-Full : goal.returns-in-Err-Full
returns-in-Err-Full g c = λ m s w. let e = c.in-Err-Full.is ∙ ap Err (rw c.in-Err-Full.is at c.in-Err-Full.field-0-is) in full e (subst (λ (n : ℕ). n < row_limit) (search rules) (not_short e (c.try_over-listed.ensures m s w)))
