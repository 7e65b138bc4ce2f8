-- The buffer of a search under way (02, note 10; docs/LAYOUT.md): depth, wait, count, whether a refusal was met, the length of the run walked last and its entries, then the numbers
-- of the state at which it began; all zero where none is under way. Its exact test, the search that it holds, and what is written. Definitions only.
use Rattle.std.specs.Prelude.{List, [], ◌∷◌, ◌++◌, map, Bool, true, false, cond, not, ◌&&◌, ◌||◌, ℕ, zero, suc, ℤ, pos, negsuc, nat_abs, length, take, drop, replicate, Some, None}
use Rattle.std.specs.Prelude as std
use Rattle.std.proofs.Math.Option.{Option, none, some, Option-elim}
use Rattle.model.specs.Resolved
use Rattle.waitnames.specs.Names.{wait_names}
use Rattle.runs.specs.Walk.{follows}
use Rattle.runs.specs.Marks.{mark}
use Rattle.machine.specs.State.{State, padded, state_numbers}
use Rattle.machine.specs.Machine.{entry_limit, depth_limit, Search, moves_by, count_limit, search_head, search_length}
use Rattle.state.specs.Fits.{scopes_of}
use Rattle.state.specs.Test.{every, at, is_zero, is_below, is_state}
use Rattle.state.specs.Decode.{decode}

-- ---- the numbers of a search

-- 02, note 10: one more than the wait's number, 0 for none
unfoldable pub wait_code : Option ℕ → ℕ
wait_code none = 0
wait_code (some n) = suc n

-- 02, note 10: 1 where a refusal was met
unfoldable pub flag_code : Bool → ℕ
flag_code true = 1
flag_code false = 0

-- no entry where nothing was walked
unfoldable pub entries_of : Option (List ℕ) → List ℕ
entries_of none = []
entries_of (some r) = r

-- the run's entries, unused ones 0
unfoldable pub run_numbers : List ℕ → List ℤ
run_numbers r = padded depth_limit (map pos r)

-- 02, note 10: depth, wait, count, flag, length and entries, then the start
unfoldable pub under_numbers : Search → List ℤ
under_numbers x =
    pos x.depth ∷ pos (wait_code x.wait) ∷ pos x.count ∷ pos (flag_code x.mark.met) ∷ pos (length (entries_of x.mark.last))
    ∷ (run_numbers (entries_of x.mark.last) ++ state_numbers x.start)

-- 02, note 10: zeros mean that none is under way
unfoldable pub search_numbers : Option Search → List ℤ
search_numbers none = replicate search_length (pos 0)
search_numbers (some x) = under_numbers x

-- ---- the search that numbers are those of

-- where the run and the start stand
abbrev pub run_part : List ℤ → List ℤ
run_part l = take depth_limit (drop search_head l)

abbrev pub start_part : List ℤ → List ℤ
start_part l = drop depth_limit (drop search_head l)

-- 02, note 10: the wait of a code
unfoldable pub wait_of : ℕ → Option ℕ
wait_of zero = none
wait_of (suc n) = some n

-- 02, note 10: absent before the first
unfoldable pub last_of : ℕ → List ℕ → Option (List ℕ)
last_of zero r = none
last_of (suc c) r = some r

-- the entries of the run
unfoldable pub run_in : List ℤ → List ℕ
run_in l = map nat_abs (take (nat_abs (at l 4)) (run_part l))

-- the wait, and the start
abbrev pub wait_in : List ℤ → Option ℕ
wait_in l = wait_of (nat_abs (at l 1))

abbrev pub start_in : Resolved.Model → List ℤ → State
start_in m l = decode (scopes_of m) (start_part l)

-- 02, note 10: the search of numbers of which the first isn't 0
unfoldable pub under_in : Resolved.Model → List ℤ → Search
under_in m l = record { start = start_in m l; wait = wait_in l; depth = nat_abs (at l 0); count = nat_abs (at l 2); mark = mark (last_of (nat_abs (at l 2)) (run_in l)) (not (is_zero (at l 3))) }

-- 02, note 10: the search, or none
unfoldable pub search_in : Resolved.Model → List ℤ → Option Search
search_in m l = cond (is_zero (at l 0)) none (some (under_in m l))

-- ---- the test

-- 0 or more
unfoldable pub is_natural : ℤ → Bool
is_natural (pos n) = true
is_natural (negsuc n) = false

-- n entries, then unused numbers
unfoldable pub is_entries : ℕ → List ℤ → Bool
is_entries n l = every is_natural (take n l) && every is_zero (drop n l)

-- 02, note 10, question 11: a depth, a wait of so many or none, a count, a flag, and a run no longer than the depth, without entries where the count is 0
unfoldable pub is_head : (waits : ℕ) → List ℤ → Bool
is_head waits l =
    is_below (suc depth_limit) (at l 0) && (is_below (suc waits) (at l 1) && (is_below (suc count_limit) (at l 2) && (is_below 2 (at l 3) && (is_below (suc (nat_abs (at l 0))) (at l 4)
    && ((not (is_zero (at l 2)) || is_zero (at l 4)) && is_entries (nat_abs (at l 4)) (run_part l))))))

-- 02, note 10, question 11: the entries are a run from the start
unfoldable pub is_walked : Resolved.Model → List ℤ → Bool
is_walked m l = Option-elim (follows (moves_by m (wait_in l)) false (start_in m l) (run_in l)) false (λ h. true)

-- 02, note 10, question 11: those numbers, a start over the model, and that run
unfoldable pub is_under : Resolved.Model → List ℤ → Bool
is_under m l = is_head (length (wait_names m)) l && (is_state (scopes_of m) m.channels (start_part l) && is_walked m l)

-- 02, note 10, question 11: all zero, or a search over the model
unfoldable pub is_search : Resolved.Model → List ℤ → Bool
is_search m l = cond (is_zero (at l 0)) (every is_zero l) (is_under m l)

-- the run's numbers as entries, where a listing has entries of these numbers
unfoldable pub entries_in : List ℤ → std.Option (List ℕ)
entries_in l = cond (every (is_below entry_limit) (run_part l)) (Some (map nat_abs (run_part l))) None

-- ---- what is written

-- 02, note 10: begun, to the wait of this code, at a state of these numbers
unfoldable pub begun_numbers : (depth code : ℕ) → List ℤ → List ℤ
begun_numbers d w start = pos d ∷ pos w ∷ pos 0 ∷ pos 0 ∷ pos 0 ∷ (replicate depth_limit (pos 0) ++ start)

-- 02, note 10: carried on to this count, this flag and this run
unfoldable pub carried_numbers : List ℤ → (count : ℕ) (met : Bool) → List ℕ → List ℤ
carried_numbers l c b r = at l 0 ∷ at l 1 ∷ pos c ∷ pos (flag_code b) ∷ pos (length r) ∷ (run_numbers r ++ start_part l)
