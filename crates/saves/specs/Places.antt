-- The buffer of the saves: eight places of one width, each all zero or a name in two numbers, then a state's, then a clock's two (02, notes 2 and 4; docs/LAYOUT.md). Its exact test, and the saves that
-- it holds. Definitions only.
use Rattle.std.specs.Prelude.{List, [], ◌∷◌, ◌++◌, map, Bool, true, cond, not, ◌&&◌, ℕ, ℤ, pos, nat_abs, take, drop, replicate}
use Rattle.std.proofs.Math.Option.{Option, none, some}
use Rattle.value.specs.Arithmetic.{is_same}
use Rattle.machine.specs.State.{flatten}
use Rattle.machine.specs.Saves.{Save, Saves, save_limit, key_width, timed_length, place_width}
use Rattle.state.specs.Test.{every, rows, at, is_zero}
use Rattle.saves.specs.Kept.{kept_numbers, is_kept, kept_in}
use Rattle.saves.specs.Keys.{key_numbers, is_key_of, name_in}

-- ---- the numbers of saves

-- 02, note 2: zeros mean that nothing is saved
unfoldable pub place_numbers : Option Save → List ℤ
place_numbers none = replicate place_width (pos 0)
place_numbers (some x) = key_numbers x.name ++ kept_numbers x.kept

unfoldable pub saves_numbers : Saves → List ℤ
saves_numbers ss = flatten place_numbers ss

-- ---- the test

abbrev pub kept_part : List ℤ → List ℤ
kept_part r = take timed_length (drop key_width r)

-- 02, notes 2 and 4, 11: all zero; or a name, and a state and a clock that pass
unfoldable pub is_place : List ℕ → ℕ → List ℤ → Bool
is_place scopes channels r = cond (is_zero (at r 0)) (every is_zero r) (is_key_of (at r 0) (at r 1) && is_kept scopes channels (kept_part r))

-- a row that begins with the two numbers of this one
unfoldable pub has_key : List ℤ → List ℤ → Bool
has_key key r = is_same (at r 0) (at key 0) && is_same (at r 1) (at key 1)

-- 02, note 2: no later place has this one's name
unfoldable pub is_once : List ℤ → List (List ℤ) → Bool
is_once r rs = cond (is_zero (at r 0)) true (every (λ (q : List ℤ). not (has_key r q)) rs)

unfoldable pub are_once : List (List ℤ) → Bool
are_once [] = true
are_once (r ∷ rs) = is_once r rs && are_once rs

abbrev pub places_of : List ℤ → List (List ℤ)
places_of zs = rows place_width save_limit zs

-- 02, note 2, 11: the saves are judged like the state
unfoldable pub is_saves : List ℕ → ℕ → List ℤ → Bool
is_saves scopes channels zs = every (is_place scopes channels) (places_of zs) && are_once (places_of zs)

-- ---- the saves that numbers are those of

unfoldable pub place_in : List ℕ → List ℤ → Option Save
place_in scopes r = cond (is_zero (at r 0)) none (some (record { name = name_in (nat_abs (at r 0)) (nat_abs (at r 1)); kept = kept_in scopes (kept_part r) }))

unfoldable pub saves_in : List ℕ → List ℤ → Saves
saves_in scopes zs = map (place_in scopes) (places_of zs)
