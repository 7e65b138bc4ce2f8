-- The total of a listing, and the entry that a draw chooses. Definitions only.
use Rattle.std.specs.Prelude.{List, [], ◌∷◌, map, Bool, false, cond, ℕ, zero, suc, ◌+◌, ◌-◌, ◌≤◌, ◌<◌, eqb, ltb, length, take}
use Rattle.std.proofs.Math.Option
use Rattle.std.proofs.Math.Option.{Option, none, some}
use Rattle.rules.specs.Listing.{Entry, weight_of}

-- 01, Transitions: the weights of a listing
unfoldable pub weights : List Entry → List ℕ
weights es = map weight_of es

-- 01, Transitions: the total, the sum of the weights
unfoldable pub total : List ℕ → ℕ
total [] = 0
total (w ∷ ws) = w + total ws

-- 01, Transitions: the running sum at entry i, its own weight included
unfoldable pub running : List ℕ → ℕ → ℕ
running ws i = total (take (suc i) ws)

-- 01, Transitions: entry i is the first whose running sum exceeds the draw
pub record First (ws : List ℕ) (d i : ℕ) : Type 0 where
  pub inside : i < length ws
  pub exceeds : d < running ws i
  pub none_before : (k : ℕ) → k < i → running ws k ≤ d

-- the same as a function: the number of the chosen entry
unfoldable pub chosen : List ℕ → (draw : ℕ) → Option ℕ
chosen [] d = none
chosen (w ∷ ws) d = cond (ltb d w) (some 0) (Option.map suc (chosen ws (d - w)))

-- ---- for the count of draws

-- whether entry i was chosen
unfoldable pub is_chosen : (i : ℕ) → Option ℕ → Bool
is_chosen i (some k) = eqb k i
is_chosen i none = false

-- how many numbers below n pass a test
unfoldable pub count : (ℕ → Bool) → (n : ℕ) → ℕ
count p zero = 0
count p (suc n) = cond (p n) 1 0 + count p n
