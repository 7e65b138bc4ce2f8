-- Named states to come back to (02, note 2), each with the clock of its time (02, note 4): eight places, each empty or with both under a name; what a save, a return and a forget do to state, clock and places.
-- Assumes nothing: these are definitions.
use Rattle.std.specs.Prelude.{◌≡◌, List, [], ◌∷◌, Bool, true, false, cond, not, ◌&&◌, ◌||◌, ℕ, suc, ◌+◌, ◌*◌, eqb, leb, ltb, length, set, replicate}
use Rattle.std.proofs.Math.Option.{Option, none, some, Option-elim}
use Rattle.word.specs.Name.{longest}
use Rattle.model.specs.Resolved
use Rattle.model.specs.Good.{Every}
use Rattle.machine.specs.State.{state_length}
use Rattle.machine.specs.Timed.{Timed, GoodTimed, clock_length}

-- ---- names

-- 02, note 2: A to Z, a to z
unfoldable pub is_letter : ℕ → Bool
is_letter b = (leb 65 b && leb b 90) || (leb 97 b && leb b 122)

unfoldable pub are_letters : List ℕ → Bool
are_letters [] = true
are_letters (b ∷ s) = is_letter b && are_letters s

-- 02, note 2, 20: 1 to 16 letters
unfoldable pub is_name : List ℕ → Bool
is_name n = leb 1 (length n) && (leb (length n) longest && are_letters n)

-- one name: the same bytes, so that case counts
unfoldable pub same : List ℕ → List ℕ → Bool
same [] [] = true
same [] (y ∷ ys) = false
same (x ∷ xs) [] = false
same (x ∷ xs) (y ∷ ys) = eqb x y && same xs ys

-- ---- places

-- 02, note 2: processes and pairs under a name; 02, note 4: and the clock
pub record Save : Type 0 where
  pub name : List ℕ
  pub kept : Timed

abbrev pub saved : List ℕ → Timed → Option Save
saved n t = some (record { name = n; kept = t })

-- 02, note 2: up to eight names
abbrev pub save_limit : ℕ
save_limit = 8

-- 02, note 2: places, each empty or with a save
abbrev pub Saves : Type 0
Saves = List (Option Save)

-- 02, note 2: a text that is opened, accepted or refused with 2 to 10, leaves none
unfoldable pub no_saves : Saves
no_saves = replicate save_limit none

-- whether a place has this name
unfoldable pub named : List ℕ → Option Save → Bool
named n none = false
named n (some x) = same x.name n

unfoldable pub is_empty : Option Save → Bool
is_empty none = true
is_empty (some x) = false

-- the number, from 0, of the first that passes a test, or of all if none does
unfoldable pub first_of : {A : Type 0} → (A → Bool) → List A → ℕ
first_of t [] = 0
first_of t (x ∷ xs) = cond (t x) 0 (suc (first_of t xs))

-- the place of a name, of eight; save_limit where it is unknown
abbrev pub place_of : List ℕ → Saves → ℕ
place_of n ss = first_of (named n) ss

-- 02, note 2: a known name's place is taken again, another name gets the first empty one
unfoldable pub place_for : List ℕ → Saves → ℕ
place_for n ss = cond (ltb (place_of n ss) save_limit) (place_of n ss) (first_of is_empty ss)

unfoldable pub kept_of : Option Save → Option Timed
kept_of none = none
kept_of (some x) = some x.kept

-- what is kept under a name, if it is known
unfoldable pub kept_under : List ℕ → Saves → Option Timed
kept_under n [] = none
kept_under n (x ∷ xs) = cond (named n x) (kept_of x) (kept_under n xs)

-- ---- lengths (docs/LAYOUT.md)

-- 02, note 2: the numbers of a name, free; two that are packed
abbrev pub key_width : ℕ
key_width = 2

-- the numbers of a state and a clock
abbrev pub timed_length : ℕ
timed_length = state_length + clock_length

-- 02, note 2: the numbers of a place, free; those of a name, those of a state and a clock
abbrev pub place_width : ℕ
place_width = key_width + timed_length

-- 02, note 2: the buffer of the saves
abbrev pub saves_length : ℕ
saves_length = save_limit * place_width

-- ---- which saves there are

-- no place has this name
unfoldable pub is_unknown : List ℕ → Saves → Bool
is_unknown n [] = true
is_unknown n (x ∷ xs) = not (named n x) && is_unknown n xs

-- no other place has the name of this one
unfoldable pub is_apart : Option Save → Saves → Bool
is_apart none ss = true
is_apart (some x) ss = is_unknown x.name ss

-- 02, note 2: no name stands twice
unfoldable pub are_apart : Saves → Bool
are_apart [] = true
are_apart (x ∷ xs) = is_apart x xs && are_apart xs

-- a save under a name, of what has P
pub record SaveOf (P : Timed → Type 0) (x : Save) : Type 0 where
  pub name : is_name x.name ≡ true
  pub kept : P x.kept

unfoldable pub PlaceOf : (Timed → Type 0) → Option Save → Type 0
PlaceOf P none = Unit {0}
PlaceOf P (some x) = SaveOf P x

-- eight places, where all that is kept has P, no name twice
pub record SavesOf (P : Timed → Type 0) (ss : Saves) : Type 0 where
  pub long : length ss ≡ save_limit
  pub places : Every (PlaceOf P) ss
  pub apart : are_apart ss ≡ true

-- 02, note 2, 11: the saves are judged like the state, each state over the model, each clock in its range
abbrev pub GoodSaves : Resolved.Model → Saves → Type 0
GoodSaves m = SavesOf (GoodTimed m)

-- ---- save, return, forget, where 1 and 11 have the answer yes

-- the number of the answer, and the state with its clock and the saves afterwards
pub record Stored : Type 0 where
  pub number : ℕ
  pub kept : Timed
  pub saves : Saves

abbrev pub stored : ℕ → Timed → Saves → Stored
stored k s ss = record { number = k; kept = s; saves = ss }

-- 02, note 2: this state, with its clock, under the name, in its place or the first empty one
unfoldable pub replaced : List ℕ → Timed → Saves → Saves
replaced n s ss = set ss (place_for n ss) (saved n s)

-- 02, note 2: the name's place is empty
unfoldable pub removed : List ℕ → Saves → Saves
removed n ss = set ss (place_of n ss) none

-- 02, note 2: 20, then 22; else the present state and clock stand under the name
unfoldable pub saving : List ℕ → Timed → Saves → Stored
saving n s ss =
    cond (is_name n)
    (cond (ltb (place_for n ss) save_limit) (stored 0 s (replaced n s ss)) (stored 22 s ss))
    (stored 20 s ss)

-- 02, note 2: 20, then 21; else the state and the clock under the name are the present ones, and every save remains
unfoldable pub returning : List ℕ → Timed → Saves → Stored
returning n s ss = cond (is_name n) (Option-elim (kept_under n ss) (stored 21 s ss) (λ t. stored 0 t ss)) (stored 20 s ss)

-- 02, note 2: 20, then 21; else the name is unknown, and its place can be used
unfoldable pub forgetting : List ℕ → Timed → Saves → Stored
forgetting n s ss =
    cond (is_name n)
    (cond (ltb (place_of n ss) save_limit) (stored 0 s (removed n ss)) (stored 21 s ss))
    (stored 20 s ss)
