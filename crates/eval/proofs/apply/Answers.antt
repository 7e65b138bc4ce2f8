-- `eval::apply` meets its contract: each kind's operation. From the operations of `value` and the table of kinds.
use mathlib.Core.Path.{ap}
use native.Mathlib.Omega.{arith}
use mir.Facts.{to_z-of_z}
use Rattle.std.specs.Prelude.{Some}
use Rattle.value.proofs.Kit.{back}
use Rattle.machine.specs.Evaluate.{apply}
use Rattle.eval.proofs.Operators.{applied, kind-minimum}
use Rattle.eval.proofs.apply.Goals as goal

pub returns-in-5 : goal.returns-in-5
unfolding apply
returns-in-5 c =
    let s = c in
    applied s.args.x s.args.y 5 c.in-5.is (simp (to_z-of_z s.ranges.x, to_z-of_z s.ranges.y) at c.add_value.ensures)

pub returns-in-6 : goal.returns-in-6
unfolding apply
returns-in-6 c =
    let s = c in
    applied s.args.x s.args.y 6 c.in-6.is (simp (to_z-of_z s.ranges.x, to_z-of_z s.ranges.y) at c.sub_value.ensures)

pub returns-in-7 : goal.returns-in-7
unfolding apply
returns-in-7 c =
    let s = c in
    applied s.args.x s.args.y 7 c.in-7.is (simp (to_z-of_z s.ranges.x, to_z-of_z s.ranges.y) at c.mul_value.ensures)

pub returns-in-8 : goal.returns-in-8
unfolding apply
returns-in-8 c =
    let s = c in
    applied s.args.x s.args.y 8 c.in-8.is (simp (to_z-of_z s.ranges.x, to_z-of_z s.ranges.y) at c.div_value.ensures)

pub returns-in-9 : goal.returns-in-9
unfolding apply
returns-in-9 c =
    let s = c in
    applied s.args.x s.args.y 9 c.in-9.is (rw (back c.max_of.result c.max_of.type_inv) (ap Some (simp (to_z-of_z s.ranges.x, to_z-of_z s.ranges.y) at c.max_of.ensures)))

pub returns-in_default : goal.returns-in_default
unfolding apply
returns-in_default c o k =
    let s = c in
    let e = kind-minimum o k (λ e. omega arith) (λ e. omega arith) (λ e. omega arith) (λ e. omega arith) (λ e. omega arith) in
    applied s.args.x s.args.y 10 e (rw (back c.min_of.result c.min_of.type_inv) (ap Some (simp (to_z-of_z s.ranges.x, to_z-of_z s.ranges.y) at c.min_of.ensures))) o k
