-- What saves come to, with literal numbers, by computation, one to a row: names, places, and the answers of a save, a return and a forget (02, note 2).
use Rattle.std.specs.Prelude.{◌≡◌, refl, [], ◌∷◌, true, false, ℕ, pos, replicate}
use Rattle.std.proofs.Math.Option.{none, some, Option-elim}
use Rattle.machine.specs.Timed.{Timed, timed}
use Rattle.machine.specs.Saves.{is_letter, are_letters, is_name, same, saved, Saves, no_saves, named, is_empty, first_of, place_for, kept_of, kept_under, is_unknown, is_apart, are_apart, stored, replaced, removed, saving, returning, forgetting}

-- a state of one process with one local, and a clock
abbrev state : ℕ → Timed
state k = timed (record { processes = record { sum = 0; locals = pos k ∷ []; definition = 0 } ∷ []; pairs = [] }) (record { ticks = k; draws = 2 })

-- places 0 to 2 are a, b and c's, with states 1 to 3, the others empty
abbrev three : Saves
three = saved (97 ∷ []) (state 1) ∷ saved (98 ∷ []) (state 2) ∷ saved (99 ∷ []) (state 3) ∷ replicate 5 none

-- eight names, a to h
abbrev full : Saves
full =
    saved (97 ∷ []) (state 1) ∷ saved (98 ∷ []) (state 2) ∷ saved (99 ∷ []) (state 3) ∷ saved (100 ∷ []) (state 4)
    ∷ saved (101 ∷ []) (state 5) ∷ saved (102 ∷ []) (state 6) ∷ saved (103 ∷ []) (state 7) ∷ saved (104 ∷ []) (state 8) ∷ []

pub rows :
    -- names: 1 and 16 letters, 0 and 17, the letters at each end, and the bytes beside them
    (is_name (97 ∷ []) ≡ true)
    × (is_name (replicate 16 122) ≡ true)
    × (is_name [] ≡ false)
    × (is_name (replicate 17 97) ≡ false)
    × (is_name (65 ∷ 90 ∷ 97 ∷ 122 ∷ []) ≡ true)
    × (is_name (64 ∷ []) ≡ false)
    × (is_name (91 ∷ []) ≡ false)
    × (is_name (96 ∷ []) ≡ false)
    × (is_name (123 ∷ []) ≡ false)
    × (is_name (97 ∷ 95 ∷ []) ≡ false)
    × (is_name (97 ∷ 48 ∷ []) ≡ false)
    × (is_name (233 ∷ []) ≡ false)
    -- a save: the first empty place, the name's own place, at eight names too; case counts
    × (saving (100 ∷ []) (state 9) three ≡ stored 0 (state 9) (saved (97 ∷ []) (state 1) ∷ saved (98 ∷ []) (state 2) ∷ saved (99 ∷ []) (state 3) ∷ saved (100 ∷ []) (state 9) ∷ replicate 4 none))
    × (saving (98 ∷ []) (state 9) three ≡ stored 0 (state 9) (saved (97 ∷ []) (state 1) ∷ saved (98 ∷ []) (state 9) ∷ saved (99 ∷ []) (state 3) ∷ replicate 5 none))
    × (kept_under (104 ∷ []) (saving (104 ∷ []) (state 9) full).saves ≡ some (state 9))
    × (saving (72 ∷ []) (state 9) full ≡ stored 22 (state 9) full)
    × (saving (105 ∷ []) (state 9) full ≡ stored 22 (state 9) full)
    × (saving (95 ∷ []) (state 9) full ≡ stored 20 (state 9) full)
    -- a return: the state under the name, and every save as it was
    × (returning (98 ∷ []) (state 9) three ≡ stored 0 (state 2) three)
    × (returning (100 ∷ []) (state 9) three ≡ stored 21 (state 9) three)
    × (returning [] (state 9) three ≡ stored 20 (state 9) three)
    × (returning (97 ∷ []) (state 9) no_saves ≡ stored 21 (state 9) no_saves)
    -- a forget: its place is empty, and the next name gets it
    × (forgetting (97 ∷ []) (state 9) three ≡ stored 0 (state 9) (none ∷ saved (98 ∷ []) (state 2) ∷ saved (99 ∷ []) (state 3) ∷ replicate 5 none))
    × ((saving (105 ∷ []) (state 9) (forgetting (97 ∷ []) (state 9) full).saves).number ≡ 0)
    × (place_for (105 ∷ []) (forgetting (97 ∷ []) (state 9) full).saves ≡ 0)
    × ((returning (97 ∷ []) (state 9) (forgetting (97 ∷ []) (state 9) full).saves).number ≡ 21)
    × (forgetting (100 ∷ []) (state 9) three ≡ stored 21 (state 9) three)
    × (forgetting (replicate 17 97) (state 9) three ≡ stored 20 (state 9) three)
    -- a name that stands twice
    × (are_apart full ≡ true)
    × (are_apart (saved (97 ∷ []) (state 1) ∷ none ∷ saved (97 ∷ []) (state 2) ∷ []) ≡ false)
unfolding is_letter are_letters is_name same no_saves named is_empty first_of place_for kept_of kept_under is_unknown is_apart are_apart replaced removed saving returning forgetting Option-elim
rows = (refl, refl, refl, refl, refl, refl, refl, refl, refl, refl, refl, refl, refl, refl, refl, refl, refl, refl, refl, refl, refl, refl, refl, refl, refl, refl, refl, refl, refl, refl)
