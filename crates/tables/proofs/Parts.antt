-- A node's last part is held by the node before it. From the definitions.
use mathlib.Core.Path.{◌≡◌, subst}
use mathlib.Core.List.{List}
use Prim.Native.Nat.{ℕ, ◌-◌, ◌≤◌}
use native.Mathlib.Omega.{arith}
use Rattle.tables.specs.Settled.{Over, Pair}

module _ {t : List ℕ} {kind k : ℕ} {P : ℕ → Type 0} (h : Over t kind P k) where
  pub over-above : 1 ≤ k
  over-above = omega (arith, h.above)

  pub over-part : P (k - 1)
  over-part = let e : h.root ≡ k - 1 = omega (arith, h.above) in subst P e h.holds

module _ {t : List ℕ} {kind k : ℕ} {P Q : ℕ → Type 0} (h : Pair t kind P Q k) where
  pub pair-above : 1 ≤ k
  pair-above = omega (arith, h.above)

  pub pair-second : Q (k - 1)
  pair-second = let e : h.right ≡ k - 1 = omega (arith, h.above) in subst Q e h.holds-second
