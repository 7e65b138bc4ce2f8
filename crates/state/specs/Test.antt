-- Whether 5,122 numbers are those of a state, as a test in the code's order (01, State, and Listing, question 11). Definitions only.
use Rattle.std.specs.Prelude.{Bool, true, false, cond, not, ◌&&◌, List, [], ◌∷◌, ℕ, zero, suc, ◌+◌, ◌*◌, ltb, ℤ, pos, negsuc, nat_abs, length, get_or, take, drop}
use Rattle.std.specs.Int.Signed.{le_z}
use Rattle.value.specs.Arithmetic.{is_less, is_same}
use Rattle.value.specs.Range.{least, greatest}
use Rattle.model.specs.Limits.{local_limit}
use Rattle.model.specs.Opening.{process_limit}
use Rattle.model.specs.Scope.{locals_in, definition_in}
use Rattle.rules.specs.Order.{less}
use Rattle.machine.specs.State.{pair_limit, process_width, channel_width, pair_width}

-- a test of every member
unfoldable pub every : {A : Type 0} → (A → Bool) → List A → Bool
every t [] = true
every t (x ∷ xs) = t x && every t xs

-- n rows of w numbers
unfoldable pub rows : ℕ → ℕ → List ℤ → List (List ℤ)
rows w zero l = []
rows w (suc n) l = take w l ∷ rows w n (drop w l)

-- ---- single numbers

-- 01, Values: in range
unfoldable pub is_value : ℤ → Bool
is_value z = le_z least z && le_z z greatest

-- 01, State: unused numbers are 0
unfoldable pub is_zero : ℤ → Bool
is_zero z = is_same z (pos 0)

-- 01, State: numbered from 0, below n
unfoldable pub is_below : ℕ → ℤ → Bool
is_below n (pos k) = ltb k n
is_below n (negsuc k) = false

-- the number at a place
abbrev pub at : List ℤ → ℕ → ℤ
at l i = get_or l i (pos 0)

-- ---- rows

-- 01, Listing, 11: k values in range, then unused numbers
unfoldable pub is_padded : ℕ → List ℤ → Bool
is_padded k l = every is_value (take k l) && every is_zero (drop k l)

-- 01, Listing, 11: a sum number that exists, the locals that are in scope; 02, note 6: the number of the sum's definition
unfoldable pub is_process : List ℕ → List ℤ → Bool
is_process scopes row =
    is_below (length scopes) (at row 0)
    && (is_padded (locals_in (get_or scopes (nat_abs (at row 0)) 0)) (take local_limit (drop 1 row)) && is_same (at row (1 + local_limit)) (pos (definition_in (get_or scopes (nat_abs (at row 0)) 0))))

-- 1 to a greatest count, below n
unfoldable pub is_count : ℕ → ℤ → Bool
is_count n z = not (is_zero z) && is_below n z

-- 01, State: item kind 0 is a number, 1 a name
unfoldable pub is_item : ℕ → ℤ → ℤ → Bool
is_item channels kind z = cond (is_same kind (pos 0)) (is_value z) (is_same kind (pos 1) && is_below channels z)

-- 02, note 7: item i of so many, or unused numbers
unfoldable pub is_item_of : ℕ → ℤ → ℤ → ℤ → ℤ → Bool
is_item_of channels items i kind z = cond (is_less i items) (is_item channels kind z) (is_zero kind && is_zero z)

-- 02, note 7: 1 to 3 items
unfoldable pub is_channel : ℕ → List ℤ → Bool
is_channel channels row =
    is_count 4 (at row 0)
    && (is_item_of channels (at row 0) (pos 0) (at row 1) (at row 2) && (is_item_of channels (at row 0) (pos 1) (at row 3) (at row 4) && is_item_of channels (at row 0) (pos 2) (at row 5) (at row 6)))

-- 01, Listing, 11: 1 or 2 values
unfoldable pub is_pair : ℕ → List ℤ → Bool
is_pair channels row = is_channel channels row && (is_count 3 (at row channel_width) && is_padded (nat_abs (at row channel_width)) (drop (channel_width + 1) row))

-- a row stands before the first of those that follow
unfoldable pub leads : List ℤ → List (List ℤ) → Bool
leads row [] = true
leads row (r ∷ rs) = less row r

-- 01, Listing, 11: strictly ascending
unfoldable pub ascends : List (List ℤ) → Bool
ascends [] = true
ascends (r ∷ rs) = leads r rs && ascends rs

-- how many rows stand before this one, of rows that ascend
unfoldable pub place_of : List ℤ → List (List ℤ) → ℕ
place_of row [] = 0
place_of row (r ∷ rs) = cond (less r row) (suc (place_of row rs)) 0

-- whether a row is one of rows that ascend
unfoldable pub is_lit : List ℤ → List (List ℤ) → Bool
is_lit row [] = false
is_lit row (r ∷ rs) = cond (less r row) (is_lit row rs) (not (less row r))

-- a count of values that no pair has, past all: with it a channel's row stands after the pairs on the channel, with 0 before them
abbrev pub values_past : ℕ
values_past = 3

-- ---- the state

-- n processes, then unused numbers
unfoldable pub are_processes : List ℕ → ℕ → List ℤ → Bool
are_processes scopes n l = every (is_process scopes) (rows process_width n l) && every is_zero (drop (n * process_width) l)

-- n pairs that ascend, then unused numbers
unfoldable pub are_pairs : ℕ → ℕ → List ℤ → Bool
are_pairs channels n l = every (is_pair channels) (rows pair_width n l) && (ascends (rows pair_width n l) && every is_zero (drop (n * pair_width) l))

-- 01, State: the numbers of the processes, after both counts
abbrev pub process_part : List ℤ → List ℤ
process_part zs = take (process_limit * process_width) (drop 2 zs)

-- 01, State: the numbers of the pairs, last
abbrev pub pair_part : List ℤ → List ℤ
pair_part zs = drop (2 + process_limit * process_width) zs

-- 01, Listing, 11: counts 0 to 256, then processes and pairs
unfoldable pub is_state : List ℕ → ℕ → List ℤ → Bool
is_state scopes channels zs =
    is_below (process_limit + 1) (at zs 0) && (is_below (pair_limit + 1) (at zs 1)
    && (are_processes scopes (nat_abs (at zs 0)) (process_part zs) && are_pairs channels (nat_abs (at zs 1)) (pair_part zs)))
