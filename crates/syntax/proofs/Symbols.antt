-- One symbol and those after it: the token that the symbol wants or has a row for, and what follows it, or the fault. From the laws of the machine.
use mathlib.Core.Path.{◌≡◌, ap, sym, ◌∙◌}
use mathlib.Core.List.{List, [], ◌∷◌, ◌++◌, append_assoc}
use mathlib.Core.Bool.{true, false}
use mathlib.Core.Option.{some}
use Prim.Native.Nat.{ℕ, ◌+◌, ◌<◌, ◌≤◌}
use native.Mathlib.Omega.{arith}
use lib.ListN.{length, get_or}
use Rattle.grammar.specs.Machine.{Sym, Want, rows, optional, find, to}
use Rattle.grammar.specs.Follows.{Answer, next, fault, Follows}
use Rattle.grammar.proofs.Steps.{Misses, step-takes}
use Rattle.grammar.proofs.Follows.{took, join, fails, passes, sticks, wanted, unwanted, bounds}

module _ (ts : List ℕ) (at : ℕ) (y : List Sym) where
  -- the wanted token, and then y
  pub wants : (k : ℕ) {r : Answer} → get_or ts at 0 ≡ k → 0 < k → (at + 1 ≤ length ts → Follows ts (at + 1) y r) → Follows ts at (Want k ∷ y) r
  wants k e h f = let w = wanted ts at k e h in join ts at (at + 1) (Want k ∷ []) y w (f (bounds w).1)

  pub lacks : (k : ℕ) → at ≤ length ts → (get_or ts at 0 ≡ k → ⊥) → Follows ts at (Want k ∷ y) (fault at)
  lacks k h n = fails ts at at (Want k ∷ []) y (unwanted ts at k h n)

  -- a row for the token, and then y
  pub taken : (x : Sym) (t : ℕ) {p : List Sym} {r : Answer} → get_or ts at 0 ≡ t → 0 < t → find t (rows x) ≡ some p → (at + 1 ≤ length ts → Follows ts (at + 1) (p ++ y) r) → Follows ts at (x ∷ y) r
  taken x t {p} e h q f = took ts at (x ∷ y) (p ++ y) (omega arith) (λ s. step-takes (get_or ts at 0) x (y ++ s) (ap (λ (k : ℕ). find k (rows x)) e ∙ q) ∙ ap to (sym (append_assoc p y s))) f

  -- no row for it: nothing, and then y
  pub past : (x : Sym) {r : Answer} → at ≤ length ts → optional x ≡ true → Misses (get_or ts at 0) (rows x) → Follows ts at y r → Follows ts at (x ∷ y) r
  past x h o m f = join ts at at (x ∷ []) y (passes ts at x h o m) f

  -- no row for it: the fault
  pub stray : (x : Sym) → at ≤ length ts → optional x ≡ false → Misses (get_or ts at 0) (rows x) → Follows ts at (x ∷ y) (fault at)
  stray x h o m = fails ts at at (x ∷ []) y (sticks ts at x h o m)

-- symbols that are read, and then y
pub onward : {ts : List ℕ} {at n : ℕ} (x y : List Sym) {r : Answer} → Follows ts at x (next n) → (n ≤ length ts → Follows ts n y r) → Follows ts at (x ++ y) r
onward {ts} {at} {n} x y f g = join ts at n x y f (g (bounds f).1)
