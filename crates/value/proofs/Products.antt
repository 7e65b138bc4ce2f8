-- A product of two numbers is a value if the product of their sizes is in the range; one that doesn't fit an i64 is none.
use mathlib.Core.Path.{◌≡◌, refl, sym, ◌∙◌}
use mathlib.Core.Bool.{Bool, true, false, not}
use Prim.Native.Nat.{◌*◌}
use lib.Dec.{leb}
use lib.IntN.{ℤ, nat_abs, ◌*ℤ◌}
use mir.Syntax.{w64}
use mir.Val.{SFits}
use borrow.Author.Tests.{leb-true, leb-false}
use Rattle.std.specs.Prelude.{None, Some}
use Rattle.value.specs.Range.{farthest, InRange}
use Rattle.value.specs.Arithmetic.{product_of}
use Rattle.value.proofs.Kit.{false-not-true, true-not-false}
use Rattle.value.proofs.Sizes.{abs-mul}
use Rattle.value.proofs.Bounds.{size_in, in-value, out-value, in-fits}

module _ (x y : ℤ) {r : Bool} (e : r ≡ leb (nat_abs x * nat_abs y) farthest) where
  pub product-beyond : not r ≡ true → None ≡ product_of x y
  unfolding product_of
  product-beyond t = sym (out-value (x *ℤ y) (rw (abs-mul x y) (leb-false (nat_abs x * nat_abs y) farthest (sym e ∙ turned r t))))
    where
      turned : (r : Bool) → not r ≡ true → r ≡ false
      turned true t = false-not-true t
      turned false t = refl

  product-in : not r ≡ false → InRange (x *ℤ y)
  product-in t = size_in (x *ℤ y) (rw (abs-mul x y) (leb-true (nat_abs x * nat_abs y) farthest (sym e ∙ turned r t)))
    where
      turned : (r : Bool) → not r ≡ false → r ≡ true
      turned true t = refl
      turned false t = true-not-false t

  pub product-fits : not r ≡ false → SFits w64 (x *ℤ y)
  product-fits t = in-fits (x *ℤ y) (product-in t)

  pub product_is : not r ≡ false → Some (x *ℤ y) ≡ product_of x y
  unfolding product_of
  product_is t = sym (in-value (x *ℤ y) (product-in t))

-- ---- by what fits an i64
pub product-unfit : (x y : ℤ) → (SFits w64 (x *ℤ y) → ⊥) → None ≡ product_of x y
product-unfit x y h = by (leb (nat_abs x * nat_abs y) farthest) refl
  where
    by : (t : Bool) → leb (nat_abs x * nat_abs y) farthest ≡ t → None ≡ product_of x y
    by true e = absurd (h (product-fits x y (sym e) refl))
    by false e = product-beyond x y (sym e) refl
