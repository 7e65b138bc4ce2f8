-- Heads of a search's buffer in literal numbers (02, note 10, question 11), by computation, one to a row: which pass in a model with two names of waits.
use Rattle.std.specs.Prelude.{◌≡◌, refl, [], ◌∷◌, Bool, true, false, ℕ, pos, negsuc}
use Rattle.std.proofs.Math.Option.{none, some}
use Rattle.state.specs.Test.{every, is_zero, is_below}
use Rattle.underway.specs.Buffer.{wait_code, flag_code, is_natural, is_entries, is_head}

-- a depth, a wait, a count, a flag and a length, then a run of two entries
abbrev head : ℕ → ℕ → ℕ → ℕ → ℕ → Bool
head d w c f n = is_head 2 (pos d ∷ pos w ∷ pos c ∷ pos f ∷ pos n ∷ pos 5 ∷ pos 0 ∷ pos 0 ∷ pos 0 ∷ pos 0 ∷ pos 0 ∷ pos 0 ∷ pos 0 ∷ [])

-- the same without entries
abbrev start : ℕ → ℕ → ℕ → ℕ → ℕ → Bool
start d w c f n = is_head 2 (pos d ∷ pos w ∷ pos c ∷ pos f ∷ pos n ∷ pos 0 ∷ pos 0 ∷ pos 0 ∷ pos 0 ∷ pos 0 ∷ pos 0 ∷ pos 0 ∷ pos 0 ∷ [])

pub rows :
    -- none, and the first wait
    (wait_code none ≡ 0)
    × (wait_code (some 0) ≡ 1)
    × (flag_code true ≡ 1)
    -- begun at the least and at the greatest depth, to none and to the second wait
    × (start 1 0 0 0 0 ≡ true)
    × (start 8 2 0 0 0 ≡ true)
    × (start 9 2 0 0 0 ≡ false)
    × (start 8 3 0 0 0 ≡ false)
    -- the empty run is counted, and a run of which nothing was counted is none
    × (start 8 2 1 1 0 ≡ true)
    × (head 8 2 0 0 2 ≡ false)
    -- the largest count, and one beyond
    × (head 8 2 9000000000000000000 0 2 ≡ true)
    × (head 8 2 9000000000000000001 0 2 ≡ false)
    × (head 8 2 7 2 2 ≡ false)
    -- as long as the depth, and longer; an entry past the run's length
    × (head 2 2 7 0 2 ≡ true)
    × (head 1 2 7 0 2 ≡ false)
    × (head 8 2 7 0 0 ≡ false)
    × (is_head 2 (pos 8 ∷ pos 2 ∷ pos 7 ∷ pos 0 ∷ pos 1 ∷ negsuc 0 ∷ pos 0 ∷ pos 0 ∷ pos 0 ∷ pos 0 ∷ pos 0 ∷ pos 0 ∷ pos 0 ∷ []) ≡ false)
unfolding wait_code flag_code is_head is_entries is_natural every is_zero is_below
rows = (refl, refl, refl, refl, refl, refl, refl, refl, refl, refl, refl, refl, refl, refl, refl, refl)
