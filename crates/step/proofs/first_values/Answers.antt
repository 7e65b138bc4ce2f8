-- The count tells how many are taken.
use mathlib.Core.Path.{◌≡◌, refl}
use native.Mathlib.Omega.{arith}
use Rattle.value.proofs.Kit.{back}
use Rattle.step.specs.Enter.{values_of}
use Rattle.step.proofs.first_values.Goals as goal

pub returns-in-0 : goal.returns-in-0
unfolding values_of
returns-in-0 c = let e : c.args.count ≡ 0 = omega arith in rw e refl

pub returns-in-1 : goal.returns-in-1
unfolding values_of
returns-in-1 c = let e : c.args.count ≡ 1 = omega arith in rw (e, back c.args.first (omega arith)) refl

pub returns-in_default : goal.returns-in_default
unfolding values_of
returns-in_default c = let e : c.args.count ≡ 2 = omega (arith, c.requires) in rw (e, back c.args.first (omega arith), back c.args.second (omega arith)) refl
