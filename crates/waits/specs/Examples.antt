-- Waiting draws by computation (02, note 4), one to a row.
use Rattle.std.specs.Prelude.{◌≡◌, refl, List, [], ◌∷◌, ℕ, zero, suc, Err, Ok}
use Rattle.waits.specs.declared.Unread.TheVariants.{Ended, Long}
use Rattle.waits.specs.Runs.{next_in_run, read, settled, waiting, wait_of}

-- n runs of even length, each 2, 1 and the 1 that ends it
unfoldable pub evens : ℕ → List ℕ → List ℕ
evens zero ds = ds
evens (suc n) ds = 2 ∷ 1 ∷ 1 ∷ evens n ds

pub rows :
    -- 40000, 50000 give E 40,000 and use two
    (wait_of (40000 ∷ 50000 ∷ []) ≡ Ok (40000, 2))
    × (wait_of (40000 ∷ 50000 ∷ 7 ∷ []) ≡ Ok (40000, 2))
    -- an equal draw isn't less; a run of three
    × (wait_of (5 ∷ 5 ∷ []) ≡ Ok (5, 2))
    × (wait_of (5 ∷ 4 ∷ 3 ∷ 3 ∷ []) ≡ Ok (5, 4))
    -- a run of two: k is 1, and the draw that ended it begins no run
    × (wait_of (5 ∷ 3 ∷ 4 ∷ 7 ∷ 9 ∷ []) ≡ Ok (65543, 5))
    × (wait_of (5 ∷ 4 ∷ 9 ∷ 0 ∷ 0 ∷ []) ≡ Ok (65536, 5))
    × (wait_of (5 ∷ 4 ∷ 9 ∷ 65535 ∷ 65535 ∷ []) ≡ Ok (131071, 5))
    -- 23: no draw, a run that doesn't end, a new run that doesn't begin
    × (wait_of [] ≡ Err Ended)
    × (wait_of (7 ∷ []) ≡ Err Ended)
    × (wait_of (7 ∷ 6 ∷ 5 ∷ []) ≡ Err Ended)
    × (wait_of (5 ∷ 4 ∷ 9 ∷ []) ≡ Err Ended)
    -- 31 runs of even length and one of odd; 32 are 24 at once, whether draws follow or not
    × (wait_of (evens 31 (3 ∷ 3 ∷ [])) ≡ Ok (2031619, 95))
    × (wait_of (evens 31 []) ≡ Err Ended)
    × (wait_of (evens 32 []) ≡ Err Long)
    × (wait_of (evens 32 (3 ∷ 3 ∷ [])) ≡ Err Long)
unfolding wait_of waiting settled read next_in_run evens
rows = (refl, refl, refl, refl, refl, refl, refl, refl, refl, refl, refl, refl, refl, refl, refl)
