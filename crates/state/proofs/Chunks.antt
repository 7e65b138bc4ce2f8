-- The first rows of a list are the first of the chunks that the library cuts it into. By induction on the rows.
use mathlib.Core.Path.{◌≡◌, refl, ap}
use mathlib.Core.List.{List, ◌∷◌}
use Prim.Native.Nat.{ℕ, zero, suc, ◌≤◌}
use native.Mathlib.Omega.{arith}
use lib.IntN.{ℤ}
use lib.ListN.{take, drop}
use Rattle.std.specs.Simd.{first_chunks}
use Rattle.state.specs.Test.{rows}

pub rows_taken : (w n k : ℕ) (s : List ℤ) → n ≤ k → take n (first_chunks w k s) ≡ rows w n s
unfolding rows
rows_taken w zero k s l = refl
rows_taken w (suc n) zero s l = absurd (omega arith)
rows_taken w (suc n) (suc k) s l = ap (λ (r : List (List ℤ)). take w s ∷ r) (rows_taken w n k (drop w s) (omega arith))

pub rows_all_taken : (w n : ℕ) (s : List ℤ) → first_chunks w n s ≡ rows w n s
unfolding rows
rows_all_taken w zero s = refl
rows_all_taken w (suc n) s = ap (λ (r : List (List ℤ)). take w s ∷ r) (rows_all_taken w n (drop w s))
