-- The parts of a pair that an Ok has.
use mathlib.Core.Path.{◌≡◌, ap}
use Prim.Native.Nat.{ℕ}
use Rattle.std.specs.Prelude.{Result, Ok}

module _ {E : Type 0} {a b x y : ℕ} (e : ◌≡◌ {A = Result (ℕ × ℕ) E} (Ok (a, b)) (Ok (x, y))) where
  both : ◌≡◌ {A = ℕ × ℕ} (a, b) (x, y)
  both = cc

  pub ok_first : a ≡ x
  ok_first = ap (λ (p : ℕ × ℕ). p.0) both

  pub ok_second : b ≡ y
  ok_second = ap (λ (p : ℕ × ℕ). p.1) both
