-- Whether two rows of a listing are independent entries (02, note 14), of any numbers. Definitions, and rows by computation.
use Rattle.std.specs.Prelude.{◌≡◌, refl, Bool, true, false, cond, ◌&&◌, List, [], ◌∷◌, ℕ, eqb, length, get_or}
use Rattle.rules.specs.Kind as kind
use Rattle.rules.specs.Rules.{key}
use Rattle.rules.specs.Listing.{Entry, entry, key_of, weight_of}
use Rattle.rules.specs.Carried.{places}
use Rattle.rules.specs.Independent.{is_one_of, meet, is_quiet, is_movable, is_independent}
use Rattle.machine.specs.Machine.{entry_width}

-- 01, Transitions: kind, place, branch, partner, partner branch, pair, weight
unfoldable pub entry_in : List ℕ → Entry
entry_in l = entry (key (get_or l 0 0) (get_or l 1 0) (get_or l 2 0) (get_or l 3 0) (get_or l 4 0) (get_or l 5 0)) (get_or l 6 0)

-- 02, note 14: of two rows of seven numbers; any others are no entries
unfoldable pub judged : List ℕ → List ℕ → Bool
judged k l = cond (eqb (length k) entry_width && eqb (length l) entry_width) (is_independent (entry_in k) (entry_in l)) false

-- a wait at place i, a handshake from 4 to 1, and a row of so many numbers
abbrev wait : ℕ → List ℕ
wait i = kind.wait ∷ i ∷ 0 ∷ 0 ∷ 0 ∷ 0 ∷ 5 ∷ []

abbrev meets : List ℕ
meets = kind.handshake ∷ 4 ∷ 0 ∷ 1 ∷ 0 ∷ 0 ∷ 5 ∷ []

pub rows :
    (judged (wait 2) (wait 3) ≡ true)
    × (judged (wait 2) (wait 2) ≡ false)
    × (judged meets (wait 0) ≡ true)
    × (judged meets (wait 1) ≡ false)
    × (judged (wait 4) meets ≡ false)
    -- a number less, a number more, none
    × (judged (wait 2) (kind.wait ∷ 3 ∷ 0 ∷ 0 ∷ 0 ∷ 5 ∷ []) ≡ false)
    × (judged (0 ∷ wait 2) (wait 3) ≡ false)
    × (judged [] [] ≡ false)
unfolding judged entry_in is_independent is_movable is_quiet meet is_one_of places key_of weight_of
rows = (refl, refl, refl, refl, refl, refl, refl, refl)
