-- The tests of a rate's range, and products of a scale with a number, of any size. By cases of the signs.
use mathlib.Core.Path.{◌≡◌, refl, sym, ap, ◌∙◌}
use mathlib.Core.Bool.{Bool, true, false, cond, not}
use mathlib.Core.Option.{none, some}
use Prim.Native.Nat.{ℕ, zero, suc, ◌*◌, ◌≤◌}
use native.Mathlib.Nat.{mul-le-mul, zero-mul, pos_of_ne-zero}
use native.Mathlib.Omega.{arith}
use borrow.Author.Tests.{ltb-true}
use lib.Dec.{leb}
use lib.IntN.{ℤ, pos, negsuc, neg_ℤ, nat_abs, ◌*ℤ◌}
use lib.Signed.{lt_z}
use Rattle.value.proofs.Kit.{true-not-false, false-not-true}
use Rattle.machine.specs.Evaluate.{rate_limit, in_rate}
use Rattle.std.specs.Prelude.{Some, None, Ok, Err, Result}
use Rattle.std.specs.Bool.{then_some}
use Rattle.std.specs.Int.{FitsUnsignedBits}
use Rattle.std.specs.Result.{OkIff, result_ok}
use mir.Syntax.{w64}
use mir.Val.{SFits}
use Rattle.eval.specs.Rates.{rate_of}

pub rate-below : (z : ℤ) → lt_z z (pos 0) ≡ true → None ≡ rate_of (in_rate z)
unfolding rate_of in_rate
rate-below (pos n) h = absurd (omega (arith, ltb-true n 0 h))
rate-below (negsuc n) h = refl

-- a number as a natural one: which it is not below 0
pub tried-some : {E : Type 0} (z : ℤ) (r : Result ℕ E) (n : ℕ) → OkIff r (FitsUnsignedBits 64 z) (nat_abs z) → result_ok r ≡ Some n → z ≡ pos n
tried-some (pos a) (Ok x) n h e = let i : x ≡ n = cc in ap pos (sym h.1 ∙ i)
tried-some (negsuc a) (Ok x) n h e = absurd h.0
tried-some z (Err d) n h e = cc

pub tried-none : {E : Type 0} (z : ℤ) (r : Result ℕ E) → SFits w64 z → OkIff r (FitsUnsignedBits 64 z) (nat_abs z) → result_ok r ≡ None → lt_z z (pos 0) ≡ true
tried-none (pos a) (Ok x) f h e = cc
tried-none (pos a) (Err d) f h e = absurd (h (omega (arith, f.sfits)))
tried-none (negsuc a) r f h e = refl

-- a natural number as a rate
pub rate-natural : (n : ℕ) → then_some (leb n rate_limit) n ≡ rate_of (in_rate (pos n))
unfolding rate_of in_rate
rate-natural n = go (leb n rate_limit)
  where
    go : (b : Bool) → then_some b n ≡ rate_of (cond b (some n) none)
    go true = refl
    go false = refl

-- ---- a scale n times v
negative : (q : ℕ) → 1 ≤ q → None ≡ rate_of (in_rate (neg_ℤ (pos q)))
unfolding rate_of in_rate
negative zero h = absurd (omega arith)
negative (suc q) h = refl

nothing : (q : ℕ) → q ≡ 0 → (Some 0 ≡ rate_of (in_rate (pos q))) × (Some 0 ≡ rate_of (in_rate (neg_ℤ (pos q))))
unfolding rate_of in_rate
nothing q h = rw h (refl, refl)

module _ (n : ℕ) (v : ℤ) where
  pub zero-scale : n ≡ 0 → Some 0 ≡ rate_of (in_rate (pos n *ℤ v))
  zero-scale e = rw e (go v)
    where
      go : (w : ℤ) → Some 0 ≡ rate_of (in_rate (pos 0 *ℤ w))
      go (pos b) = (nothing (0 * b) (zero-mul b)).0
      go (negsuc b) = (nothing (0 * suc b) (zero-mul (suc b))).1

  pub negative-times : (n ≡ 0 → ⊥) → lt_z v (pos 0) ≡ true → None ≡ rate_of (in_rate (pos n *ℤ v))
  negative-times h l = go v l
    where
      go : (w : ℤ) → lt_z w (pos 0) ≡ true → None ≡ rate_of (in_rate (pos n *ℤ w))
      go (pos b) e = absurd (omega (arith, ltb-true b 0 e))
      go (negsuc b) e =
          let m : 1 ≤ n = pos_of_ne-zero h in
          let o : 1 ≤ suc b = omega arith in
          let g : 1 * 1 ≤ n * suc b = mul-le-mul m o in
          negative (n * suc b) (omega arith)

  module _ {r : Bool} (l : lt_z v (pos 0) ≡ false) (e : r ≡ leb (n * nat_abs v) rate_limit) where
    product-rate : rate_of (in_rate (pos n *ℤ v)) ≡ rate_of (cond r (some (n * nat_abs v)) none)
    unfolding in_rate
    product-rate = rw e (go v l)
      where
        go : (w : ℤ) → lt_z w (pos 0) ≡ false → rate_of (in_rate (pos n *ℤ w)) ≡ rate_of (cond (leb (n * nat_abs w) rate_limit) (some (n * nat_abs w)) none)
        go (pos b) h = refl
        go (negsuc b) h = true-not-false h

    pub large-times : not r ≡ true → None ≡ rate_of (in_rate (pos n *ℤ v))
    unfolding rate_of
    large-times t = sym (product-rate ∙ go r t)
      where
        go : (r : Bool) → not r ≡ true → rate_of (cond r (some (n * nat_abs v)) none) ≡ None
        go true t = false-not-true t
        go false t = refl

    pub rate-times : not r ≡ false → Some (n * nat_abs v) ≡ rate_of (in_rate (pos n *ℤ v))
    unfolding rate_of
    rate-times t = sym (product-rate ∙ go r t)
      where
        go : (r : Bool) → not r ≡ false → rate_of (cond r (some (n * nat_abs v)) none) ≡ Some (n * nat_abs v)
        go true t = refl
        go false t = true-not-false t
