-- The cells of numbers as the code computes them, with what a number comes to. From arithmetic alone.
use mathlib.Core.Path.{◌≡◌, refl, sym, ap, ◌∙◌}
use mathlib.Core.List.{List, []}
use mathlib.Core.Bool.{Bool, true, false, not, ◌||◌}
use Prim.Native.Nat.{ℕ, zero, suc, ◌+◌, ◌-◌, ◌*◌, ◌≤◌, ◌<◌, min}
use native.Mathlib.Omega.{arith}
use lib.Dec.{eqb}
use lib.IntN.{ℤ, pos, neg_ℤ, nat_abs, ◌*ℤ◌}
use lib.ListN.{get_or}
use Rattle.value.specs.Range.{farthest, InRange}
use Rattle.value.proofs.Sizes.{abs-minus}
use Rattle.value.proofs.Bounds.{in_size}
use Rattle.word.specs.Number.{worth, cap, unit, ten_thousandths}
use Rattle.token.specs.Contents.{before_point, after_point}
use Rattle.grammar.specs.Syntax
use Rattle.tree.specs.Node.{number_kind}
use Rattle.model.proofs.Members.{not-both}
use Rattle.model.specs.Words.{whole_of, decimal_of}
use Rattle.model.specs.Good.{scale_limit}
use Rattle.model.specs.Resolved
use Rattle.model.specs.Resolved.{number_scale}
use Rattle.tables.specs.Settled.{offset, lifted, number_cell}
use Rattle.settle.specs.Walks.{scale_cell}
use Rattle.settle.specs.Places.{signed, ScaleTold}

-- ---- the cases of `number_cell`

pub cell-negated : (κ v : ℕ) (b : Bool) → v < offset → b ≡ true → κ + 256 * (36028797018963968 - v) ≡ number_cell κ (signed b v)
unfolding number_cell lifted signed
cell-negated κ zero b l e = rw e (omega arith)
cell-negated κ (suc v) b l e = rw e (omega arith)

pub cell-plain : (κ v : ℕ) (b : Bool) → b ≡ false → κ + 256 * (36028797018963968 + v) ≡ number_cell κ (signed b v)
unfolding number_cell lifted signed
cell-plain κ v b e = rw e (omega arith)

-- ---- what a number comes to

-- a whole number in range is below the cap
pub whole_below : (w : ℕ → List ℕ) (b : Bool) (k : ℕ) → InRange (whole_of w b k) → worth 0 (w k) ≤ farthest
unfolding whole_of
whole_below w true k h = let l = in_size (neg_ℤ (pos (worth 0 (w k)))) h in omega (arith, abs-minus (worth 0 (w k)))
whole_below w false k h = in_size (pos (worth 0 (w k))) h

pub whole_is : (w : ℕ → List ℕ) (b : Bool) (k v : ℕ) → InRange (whole_of w b k) → v ≡ min cap (worth 0 (w k)) → (v ≤ farthest) × (signed b v ≡ whole_of w b k)
unfolding whole_of signed
whole_is w b k v h e =
    let l = whole_below w b k h in
    let d : v ≡ worth 0 (w k) = omega arith in
    (omega arith, rw d)

-- ---- the cases of `scale_cell`

scaled-negative : (x : ℕ) → neg_ℤ (pos x) *ℤ pos unit ≡ neg_ℤ (pos (x * unit))
scaled-negative zero = refl
scaled-negative (suc x) = refl

signed-times : (b : Bool) (v : ℕ) → signed b v *ℤ pos unit ≡ signed b (v * unit)
unfolding signed
signed-times true v = scaled-negative v
signed-times false v = refl

-- what the cell's number is, by the token's contents v
scaled-as : Bool → ℕ → ℕ
scaled-as true v = v
scaled-as false v = v * unit

module _ {low : List ℕ} {w : ℕ → List ℕ} {κ k : ℕ} where
  scale-is : (b d : Bool) (v : ℕ) → ScaleTold low w b d κ k → v ≡ get_or low k 0 → (scaled-as d v < offset) × (number_cell 29 (signed b (scaled-as d v)) ≡ scale_cell (Resolved.fixed (number_scale w [] [] [] (Syntax.number b d k))))
  unfolding scaled-as scale_cell number_scale number_kind decimal_of signed
  scale-is b false v h q =
      let z = whole_is w b k v h.safe (q ∙ h.wholes refl) in
      (omega (arith, z.0), ap (number_cell 29) (sym (signed-times b v) ∙ ap (λ (n : ℤ). n *ℤ pos unit) z.1))
  scale-is b true v h q = let e = q ∙ h.safe.1.1 in (decimal b v e h.safe.0, ap (number_cell 29) (decimal-is b v e))
    where
      decimal : (b : Bool) (v : ℕ) → v ≡ ten_thousandths (before_point (w k)) (after_point (w k)) → nat_abs (decimal_of w b k) ≤ scale_limit → v < offset
      decimal true v e l = omega (arith, abs-minus (ten_thousandths (before_point (w k)) (after_point (w k))))
      decimal false v e l = omega arith

      decimal-is : (b : Bool) (v : ℕ) → v ≡ ten_thousandths (before_point (w k)) (after_point (w k)) → signed b v ≡ decimal_of w b k
      decimal-is b v e = rw e

  module _ (v : ℕ) (b d : Bool) (h : ScaleTold low w b d κ k) (q : v ≡ get_or low k 0) (n f : Bool) (n-is : n ≡ (eqb κ (number_kind true false) || eqb κ (number_kind true true))) (f-is : f ≡ (eqb κ (number_kind false false) || eqb κ (number_kind true false))) where
    -- the tests of a kind tell whether there is a `-`, and whether the number is whole
    tests : (n ≡ b) × (f ≡ not d)
    unfolding number_kind
    tests = by b d h.kind-is
      where
        by : (b d : Bool) → κ ≡ number_kind b d → (n ≡ b) × (f ≡ not d)
        by true true e = (n-is ∙ rw e, f-is ∙ rw e)
        by true false e = (n-is ∙ rw e, f-is ∙ rw e)
        by false true e = (n-is ∙ rw e, f-is ∙ rw e)
        by false false e = (n-is ∙ rw e, f-is ∙ rw e)

    pub whole-scale : f ≡ true → (v ≤ farthest) × (v * unit < offset) × (number_cell 29 (signed n (v * unit)) ≡ scale_cell (Resolved.fixed (number_scale w [] [] [] (Syntax.number b d k))))
    unfolding scaled-as
    whole-scale e =
        let t = tests in
        let z : d ≡ false = by d (sym t.1 ∙ e) in
        let g = rw z at h in
        let l = whole_is w b k v g.safe (q ∙ g.wholes refl) in
        let r = scale-is b false v g q in
        rw (t.0, z) (l.0, r.0, r.1)
      where
        by : (d : Bool) → not d ≡ true → d ≡ false
        by true e = not-both e refl
        by false e = refl

    pub decimal-scale : f ≡ false → (v < offset) × (number_cell 29 (signed n v) ≡ scale_cell (Resolved.fixed (number_scale w [] [] [] (Syntax.number b d k))))
    unfolding scaled-as
    decimal-scale e =
        let t = tests in
        let z : d ≡ true = by d (sym t.1 ∙ e) in
        let r = scale-is b true v (rw z at h) q in
        rw (t.0, z) (r.0, r.1)
      where
        by : (d : Bool) → not d ≡ false → d ≡ true
        by true e = refl
        by false e = not-both refl e
