-- What a save, a return and a forget make of the numbers of a state with its clock, zs, and of the saves (02, notes 2 and 4). Definitions only.
use Rattle.std.specs.Prelude.{◌≡◌, List, ◌++◌, cond, ℕ, ◌+◌, ◌*◌, ltb, ℤ, pos, take, drop, replicate, None, Some, Option, Err, Ok, Result}
use Rattle.machine.specs.Saves.{is_name, first_of, save_limit, place_width, Stored}
use Rattle.saves.specs.declared.Refusal.{Refusal}
use Rattle.saves.specs.declared.Refusal.TheVariants.{NotAName, NotSaved, Full}
use Rattle.saves.specs.Kept.{kept_numbers}
use Rattle.saves.specs.Keys.{key_numbers}
use Rattle.saves.specs.Places.{has_key, places_of, kept_part, saves_numbers}

-- a name's two numbers, and none for what is no name
unfoldable pub key_of : List ℕ → Option (List ℤ)
key_of n = cond (is_name n) (Some (key_numbers n)) None

-- a number below n, and none for one past that
unfoldable pub below : ℕ → ℕ → Option ℕ
below n i = cond (ltb i n) (Some i) None

-- the first place with these two numbers; past the last one where there is none
abbrev pub place_with : List ℤ → List ℤ → ℕ
place_with key ss = first_of (has_key key) (places_of ss)

-- an empty place begins with these
abbrev pub no_key : List ℤ
no_key = replicate 2 (pos 0)

-- 02, note 2: the name's own place, else the first empty one
unfoldable pub place_to_take : List ℤ → List ℤ → ℕ
place_to_take key ss = cond (ltb (place_with key ss) save_limit) (place_with key ss) (place_with no_key ss)

-- the numbers of place i, and other numbers in their stead
unfoldable pub row_at : ℕ → List ℤ → List ℤ
row_at i ss = take place_width (drop (i * place_width) ss)

unfoldable pub with_row : ℕ → List ℤ → List ℤ → List ℤ
with_row i row ss = take (i * place_width) ss ++ (row ++ drop (i * place_width + place_width) ss)

-- 02, note 2, 20 to 22
abbrev pub refusal_number : Refusal → ℕ
refusal_number NotAName = 20
refusal_number NotSaved = 21
refusal_number Full = 22

-- the number of an answer
abbrev pub number_of : Result (Unit {0}) Refusal → ℕ
number_of (Ok u) = 0
number_of (Err r) = refusal_number r

-- the number of the answer, and the numbers of the state with its clock and of the saves afterwards
pub record Written : Type 0 where
  pub number : ℕ
  pub kept : List ℤ
  pub saves : List ℤ

abbrev pub written : ℕ → List ℤ → List ℤ → Written
written k zs ss = record { number = k; kept = zs; saves = ss }

-- 02, note 2, save
unfoldable pub saving_numbers : List ℕ → List ℤ → List ℤ → Written
saving_numbers n zs ss =
    cond (is_name n)
    (cond (ltb (place_to_take (key_numbers n) ss) save_limit) (written 0 zs (with_row (place_to_take (key_numbers n) ss) (key_numbers n ++ zs) ss)) (written 22 zs ss))
    (written 20 zs ss)

-- 02, note 2, return
unfoldable pub returning_numbers : List ℕ → List ℤ → List ℤ → Written
returning_numbers n zs ss =
    cond (is_name n)
    (cond (ltb (place_with (key_numbers n) ss) save_limit) (written 0 (kept_part (row_at (place_with (key_numbers n) ss) ss)) ss) (written 21 zs ss))
    (written 20 zs ss)

-- 02, note 2, forget
unfoldable pub forgetting_numbers : List ℕ → List ℤ → List ℤ → Written
forgetting_numbers n zs ss =
    cond (is_name n)
    (cond (ltb (place_with (key_numbers n) ss) save_limit) (written 0 zs (with_row (place_with (key_numbers n) ss) (replicate place_width (pos 0)) ss)) (written 21 zs ss))
    (written 20 zs ss)

-- the numbers of what the rule machine's turn leaves
unfoldable pub stored_numbers : Stored → Written
stored_numbers x = written x.number (kept_numbers x.kept) (saves_numbers x.saves)

-- the parts of what is written
pub record Stores (w : Written) (r : ℕ) (zs ss : List ℤ) : Type 0 where
  pub number : r ≡ w.number
  pub kept : zs ≡ w.kept
  pub saves : ss ≡ w.saves
