-- `eval::related` meets its contract: each kind's relation. From the tests of numbers and the table of kinds.
use mathlib.Core.Path.{refl, ap}
use mathlib.Core.Bool.{not}
use native.Mathlib.Omega.{arith}
use mir.Facts.{to_z-of_z}
use Rattle.value.proofs.Kit.{same_bits}
use Rattle.machine.specs.Evaluate.{related}
use Rattle.eval.proofs.Relations.{relates, kind-differs}
use Rattle.eval.proofs.related.Goals as goal

pub returns-in-15 : goal.returns-in-15
unfolding related
returns-in-15 c =
    let s = c in
    simp (to_z-of_z s.ranges.x, to_z-of_z s.ranges.y) (relates s.args.x s.args.y 15 c.in-15.is refl)

pub returns-in-16 : goal.returns-in-16
unfolding related
returns-in-16 c =
    let s = c in
    simp (to_z-of_z s.ranges.x, to_z-of_z s.ranges.y) (relates s.args.x s.args.y 16 c.in-16.is refl)

pub returns-in-17 : goal.returns-in-17
unfolding related
returns-in-17 c =
    let s = c in
    simp (to_z-of_z s.ranges.x, to_z-of_z s.ranges.y) (relates s.args.x s.args.y 17 c.in-17.is refl)

pub returns-in-18 : goal.returns-in-18
unfolding related
returns-in-18 c =
    let s = c in
    simp (to_z-of_z s.ranges.x, to_z-of_z s.ranges.y) (relates s.args.x s.args.y 18 c.in-18.is refl)

pub returns-in-19 : goal.returns-in-19
unfolding related
returns-in-19 c = relates c.args.x c.args.y 19 c.in-19.is (same_bits c.args.x c.args.y c.ranges.x c.ranges.y)

pub returns-in_default : goal.returns-in_default
unfolding related
returns-in_default c r k =
    let e = kind-differs r k (λ e. omega arith) (λ e. omega arith) (λ e. omega arith) (λ e. omega arith) (λ e. omega arith) in
    relates c.args.x c.args.y 20 e (ap not (same_bits c.args.x c.args.y c.ranges.x c.ranges.y)) r k
