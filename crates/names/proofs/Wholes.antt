-- Question 7 of whole numbers and counts: a number is beyond its limit where the number up to the cap is. From arithmetic alone.
use mathlib.Core.Path.{◌≡◌, refl, ap, ◌∙◌}
use mathlib.Core.List.{List}
use mathlib.Core.Bool.{Bool, true, false}
use Prim.Native.Nat.{ℕ, zero, suc, ◌≤◌, ◌<◌, min}
use native.Mathlib.Omega.{arith}
use borrow.Author.Tests.{le-leb, lt-leb, leb-true, leb-false}
use lib.Dec.{leb}
use lib.IntN.{pos, negsuc, neg_ℤ, nat_abs}
use lib.Signed.{mag}
use mir.Syntax.{w64}
use mir.Val.{to_z}
use mir.Facts.{to_z_pos}
use Rattle.std.specs.Prelude.{None, Some, not, is_some}
use Rattle.std.specs.Bool.{then_some}
use Rattle.names.proofs.Earliest.{told}
use Rattle.token.specs.Questions.{Found}
use Rattle.value.specs.Range.{farthest, least, value_of, Value}
use Rattle.value.specs.Arithmetic.{negation_of}
use Rattle.word.specs.Number.{worth, cap}
use Rattle.model.specs.Lists.{when, earlier}
use Rattle.model.specs.Lists as lists
use Rattle.model.specs.Words.{whole_of}
use Rattle.model.specs.Limits.{is_missing, whole_beyond}

-- a number without a value is beyond the range
pub without : (v : Value) (b : Bool) (k : ℕ) → is_some v ≡ not b → then_some b k ≡ lists.least (when (is_missing v) k)
unfolding is_missing
without None true k e = told true k
without None false k e = cc
without (Some z) true k e = cc
without (Some z) false k e = told false k

-- ---- a number and its cap
positive : (x y : ℕ) → y ≡ min cap x → is_missing (value_of (pos y)) ≡ is_missing (value_of (pos x))
unfolding value_of is_missing
positive x y e = by (leb x farthest) refl
  where
    by : (b : Bool) → leb x farthest ≡ b → is_missing (value_of (pos y)) ≡ is_missing (value_of (pos x))
    by true h = let l = leb-true x farthest h in rw (h, le-leb y farthest (omega arith))
    by false h = let l = leb-false x farthest h in rw (h, lt-leb y farthest (omega arith))

negative : (x y : ℕ) → y ≡ min cap x → is_missing (value_of (neg_ℤ (pos y))) ≡ is_missing (value_of (neg_ℤ (pos x)))
unfolding value_of is_missing
negative zero zero e = refl
negative zero (suc y) e = absurd (omega arith)
negative (suc x) zero e = absurd (omega arith)
negative (suc x) (suc y) e = by (leb x (mag least)) refl
  where
    by : (b : Bool) → leb x (mag least) ≡ b → is_missing (value_of (negsuc y)) ≡ is_missing (value_of (negsuc x))
    by true h = let l = leb-true x (mag least) h in rw (h, le-leb y (mag least) (omega arith))
    by false h = let l = leb-false x (mag least) h in rw (h, lt-leb y (mag least) (omega arith))

-- ---- the cases of `number_fault`, where x is the number as an i64
module _ (x : ℕ) (small : x ≤ cap) where
  as_is : to_z w64 x ≡ pos x
  as_is = to_z_pos w64 (omega arith)

  -- it may be turned round
  pub has_room : nat_abs (to_z w64 x) < 9223372036854775807
  has_room = rw as_is (omega arith)

  module _ {r : Found} {v : Value} (w : ℕ → List ℕ) (k : ℕ) (is : x ≡ min cap (worth 0 (w k))) (f : r ≡ lists.least (when (is_missing v) k)) where
    pub whole-negated : v ≡ negation_of (to_z w64 x) → r ≡ lists.least (whole_beyond w true k)
    unfolding whole_beyond whole_of negation_of
    whole-negated e =
        let d : is_missing v ≡ is_missing (value_of (neg_ℤ (pos (worth 0 (w k))))) = ap is_missing (e ∙ ap negation_of as_is) ∙ negative (worth 0 (w k)) x is in
        f ∙ ap (λ (m : Bool). lists.least (when m k)) d

    pub whole_plain : v ≡ value_of (to_z w64 x) → r ≡ lists.least (whole_beyond w false k)
    unfolding whole_beyond whole_of
    whole_plain e =
        let d : is_missing v ≡ is_missing (value_of (pos (worth 0 (w k)))) = ap is_missing (e ∙ ap value_of as_is) ∙ positive (worth 0 (w k)) x is in
        f ∙ ap (λ (m : Bool). lists.least (when m k)) d
