-- The numbers of names and places, with literal numbers, by computation, one to a row (02, notes 2 and 4).
use Rattle.std.specs.Prelude.{◌≡◌, refl, [], ◌∷◌, true, false, pos, negsuc, take, drop, replicate}
use Rattle.word.specs.Name.{pack}
use Rattle.clock.specs.Clock.{is_in_range}
use Rattle.machine.specs.State.{padded, flatten, process_numbers, state_numbers}
use Rattle.machine.specs.Timed.{Timed, timed}
use Rattle.machine.specs.Saves.{is_letter, saved}
use Rattle.state.specs.Test.{every, is_zero}
use Rattle.saves.specs.Keys.{key_numbers, is_word, is_second, is_key, is_key_of, letters_in, name_in}
use Rattle.saves.specs.Kept.{kept_numbers, is_natural, is_clock}
use Rattle.saves.specs.Places.{place_numbers, has_key, is_once, are_once}

-- one process, no pair, and a clock
abbrev state : Timed
state = timed (record { processes = record { sum = 2; locals = pos 7 ∷ []; definition = 1 } ∷ []; pairs = [] }) (record { ticks = 6103; draws = 2 })

pub rows :
    -- `ab`, the first letter lowest; nine times `a`, the ninth in the second number
    (key_numbers (97 ∷ 98 ∷ []) ≡ pos 25185 ∷ pos 0 ∷ [])
    × (key_numbers (replicate 9 97) ≡ pos 7016996765293437281 ∷ pos 97 ∷ [])
    × (name_in 25185 0 ≡ 97 ∷ 98 ∷ [])
    -- numbers of a name: no letter, a byte that is none, a second number after fewer than eight letters, numbers below 0
    × (is_key_of (pos 25185) (pos 0) ≡ true)
    × (is_key_of (pos 7016996765293437281) (pos 97) ≡ true)
    × (is_key_of (pos 0) (pos 0) ≡ false)
    × (is_key_of (pos 95) (pos 0) ≡ false)
    × (is_key_of (pos 25185) (pos 97) ≡ false)
    × (is_key_of (negsuc 0) (pos 0) ≡ false)
    × (is_key_of (pos 97) (negsuc 0) ≡ false)
    -- a place: the name, then the state's counts, then its first process
    × (take 6 (place_numbers (saved (97 ∷ 98 ∷ []) state)) ≡ pos 25185 ∷ pos 0 ∷ pos 1 ∷ pos 0 ∷ pos 2 ∷ pos 7 ∷ [])
    -- its clock stands last; a clock's numbers aren't below 0
    × (drop 5124 (place_numbers (saved (97 ∷ 98 ∷ []) state)) ≡ pos 6103 ∷ pos 2 ∷ [])
    × (is_clock (pos 9223372036854775807 ∷ pos 0 ∷ []) ≡ true)
    × (is_clock (negsuc 0 ∷ pos 0 ∷ []) ≡ false)
    × (is_clock (pos 0 ∷ negsuc 0 ∷ []) ≡ false)
    -- a name that stands twice
    × (are_once ((pos 97 ∷ pos 0 ∷ []) ∷ (pos 0 ∷ pos 0 ∷ []) ∷ (pos 0 ∷ pos 0 ∷ []) ∷ (pos 98 ∷ pos 0 ∷ []) ∷ []) ≡ true)
    × (are_once ((pos 97 ∷ pos 0 ∷ []) ∷ (pos 0 ∷ pos 0 ∷ []) ∷ (pos 97 ∷ pos 0 ∷ []) ∷ []) ≡ false)
unfolding pack is_word is_second is_key is_key_of letters_in name_in is_letter place_numbers kept_numbers is_natural is_clock is_in_range state_numbers padded flatten process_numbers has_key is_once are_once every is_zero
rows = (refl, refl, refl, refl, refl, refl, refl, refl, refl, refl, refl, refl, refl, refl, refl, refl, refl)
