-- The law by computation, with draws of two and of three values (02, note 4), one to a row.
use Rattle.std.specs.Prelude.{◌≡◌, refl, ◌∷◌}
use Rattle.waits.specs.Runs.{next_in_run, read, settled, waiting, wait_of}
use Rattle.waits.specs.Law.{sum_below, how_many, is_given, is_ended, waits}

pub rows :
    -- two values, three draws: of 8 lists 4 give E 0, 2 give E 1, 2 end first
    (waits 2 3 (is_given 0) ≡ 4)
    × (waits 2 3 (is_given 1) ≡ 2)
    × (waits 2 3 is_ended ≡ 2)
    -- six draws: of 64, 8 give the E of a second run that begins with 0, and 4 that of one that begins with 1
    × (waits 2 6 (is_given 0) ≡ 32)
    × (waits 2 6 (is_given 65536) ≡ 8)
    × (waits 2 6 (is_given 65537) ≡ 4)
    -- three values, four draws: of 81, 27 give E 0, two thirds of that E 1, two thirds of that E 2
    × (waits 3 4 (is_given 0) ≡ 27)
    × (waits 3 4 (is_given 1) ≡ 18)
    × (waits 3 4 (is_given 2) ≡ 12)
    -- a first run that begins with 2: of 27 continuations 12 make it odd, which is (2/3) ^ 2
    × (how_many 3 3 (λ ds. is_given 2 (wait_of (2 ∷ ds))) ≡ 12)
unfolding how_many sum_below is_given is_ended wait_of waiting settled read next_in_run
rows = (refl, refl, refl, refl, refl, refl, refl, refl, refl, refl)
