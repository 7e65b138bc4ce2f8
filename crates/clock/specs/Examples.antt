-- The clock by computation (02, note 4), one to a row.
use Rattle.std.specs.Prelude.{◌≡◌, refl, [], ◌∷◌, ℕ, Ok, Err}
use Rattle.waits.specs.Runs.{next_in_run, read, settled, waiting, wait_of}
use Rattle.clock.specs.declared.Clock.{Clock}
use Rattle.waits.specs.declared.Unread.TheVariants as unread
use Rattle.clock.specs.declared.Late.TheVariants as late
use Rattle.clock.specs.Clock.{ticks_of, late_number, forwarded, waited, brought_by}

abbrev at : ℕ → ℕ → Clock
at t u = record { ticks = t; draws = u }

pub rows :
    -- a rate of 1 a unit weighs 100,000,000: E 65,536 would take 10,000 ticks, and 40,000 takes 6,103 and a part
    (ticks_of 65536 100000000 ≡ 10000)
    × (ticks_of 40000 100000000 ≡ 6103)
    × (brought_by (at 0 0) (40000 ∷ 50000 ∷ []) 100000000 ≡ Ok (at 6103 2))
    -- the least total and the largest E; the largest total
    × (ticks_of 2097151 1 ≡ 31999984741210)
    × (ticks_of 2097151 9000000000000000000 ≡ 0)
    -- E 0 takes no time
    × (brought_by (at 5 7) (0 ∷ 0 ∷ []) 1 ≡ Ok (at 5 9))
    -- 25: the ticks, the draws
    × (brought_by (at 9223372036854775807 0) (1 ∷ 1 ∷ []) 1 ≡ Err late.Past)
    × (brought_by (at 9223372036854775807 0) (0 ∷ 0 ∷ []) 1 ≡ Ok (at 9223372036854775807 2))
    × (brought_by (at 0 9223372036854775806) (0 ∷ 0 ∷ []) 1 ≡ Err late.Past)
    × (brought_by (at 0 9223372036854775805) (0 ∷ 0 ∷ []) 1 ≡ Ok (at 0 9223372036854775807))
    -- 23 before 25
    × (brought_by (at 9223372036854775807 9223372036854775807) (1 ∷ []) 1 ≡ Err (late.Wait unread.Ended))
unfolding brought_by waited forwarded ticks_of wait_of waiting settled read next_in_run
rows = (refl, refl, refl, refl, refl, refl, refl, refl, refl, refl, refl)

-- the numbers of the refusals above, and of 24
pub numbers :
    (late_number late.Past ≡ 25)
    × (late_number (late.Wait unread.Ended) ≡ 23)
    × (late_number (late.Wait unread.Long) ≡ 24)
numbers = (refl, refl, refl)
