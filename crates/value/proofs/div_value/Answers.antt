-- A divisor whose bits are 0 is 0; by any other the machine's quotient is rounded down already, or one too high.
use mathlib.Core.Path.{◌≡◌, ◌∙◌, ap, sym}
use lib.IntN.{pos}
use lib.Signed.{rem_z}
use mir.Syntax.{w64}
use mir.Val.{of_z}
use mir.Facts.{to_z-of_z}
use Rattle.value.specs.Range.{value_of}
use Rattle.value.specs.Arithmetic.{quotient_of}
use Rattle.value.proofs.Kit.{bits-zero, bits-nonzero, ne_same}
use Rattle.value.proofs.Bounds.{quot_fits}
use Rattle.value.proofs.Divides.{floor-even, floor-less, floor-same, rem-fits, less-fits}
use Rattle.value.proofs.div_value.Goals as goal

pub returns-then-y-eq0 : goal.returns-then-y-eq0
unfolding quotient_of
returns-then-y-eq0 c = let s = c in rw (bits-zero s.args.y s.ranges.y c.if-y-eq0.true)

pub nonzero_div-q : goal.nonzero_div-q
nonzero_div-q c =
    let s = c in
    (bits-nonzero s.args.y c.if-y-eq0.false, simp (to_z-of_z s.ranges.x, to_z-of_z s.ranges.y) (quot_fits s.args.y s.requires.0))

pub nonzero_rem-x : goal.nonzero_rem-x
nonzero_rem-x c =
    let s = c in
    (bits-nonzero s.args.y c.if-y-eq0.false, simp (to_z-of_z s.ranges.x, to_z-of_z s.ranges.y) (quot_fits s.args.y s.requires.0))

pub returns-then-x-y-eq0 : goal.returns-then-x-y-eq0
unfolding quotient_of
returns-then-x-y-eq0 c =
    let s = c in
    let x = s.args.x in
    let y = s.args.y in
    let e = to_z-of_z s.ranges.x in
    let d = to_z-of_z s.ranges.y in
    let q = quot_fits y s.requires.0 in
    let n : y ≡ pos 0 → ⊥ = λ z. c.if-y-eq0.false (ap (of_z w64) z) in
    rw (ne_same y (pos 0) n)
    ((simp (e, d, to_z-of_z q) at c.value_of.ensures) ∙ ap value_of (floor-even x y n (bits-zero (rem_z x y) (rem-fits x y s.ranges.x) (simp (e, d) at c.if-x-y-eq0.true))))

pub overflow_sub-q : goal.overflow_sub-q
overflow_sub-q c =
    let s = c in
    let x = s.args.x in
    let y = s.args.y in
    let e = to_z-of_z s.ranges.x in
    let d = to_z-of_z s.ranges.y in
    let q = quot_fits y s.requires.0 in
    simp (e, d, to_z-of_z q) (less-fits x y s.requires.0)

pub returns-then-opposed : goal.returns-then-opposed
unfolding quotient_of
returns-then-opposed c =
    let s = c in
    let x = s.args.x in
    let y = s.args.y in
    let e = to_z-of_z s.ranges.x in
    let d = to_z-of_z s.ranges.y in
    let q = quot_fits y s.requires.0 in
    let n : y ≡ pos 0 → ⊥ = λ z. c.if-y-eq0.false (ap (of_z w64) z) in
    let o = sym (simp (e, d) at c.opposed.ensures) ∙ c.if-opposed.true in
    rw (ne_same y (pos 0) n)
    ((simp (e, d, to_z-of_z q, to_z-of_z (less-fits x y s.requires.0)) at c.value_of-then-opposed.ensures)
    ∙ ap value_of (floor-less x y n (λ h. (simp (e, d) at c.if-x-y-eq0.false) (ap (of_z w64) h)) o))

pub returns : goal.returns
unfolding quotient_of
returns c =
    let s = c in
    let x = s.args.x in
    let y = s.args.y in
    let e = to_z-of_z s.ranges.x in
    let d = to_z-of_z s.ranges.y in
    let q = quot_fits y s.requires.0 in
    let n : y ≡ pos 0 → ⊥ = λ z. c.if-y-eq0.false (ap (of_z w64) z) in
    let o = sym (simp (e, d) at c.opposed.ensures) ∙ c.if-opposed.false in
    rw (ne_same y (pos 0) n)
    ((simp (e, d, to_z-of_z q) at c.value_of-2.ensures) ∙ ap value_of (floor-same x y n o))
