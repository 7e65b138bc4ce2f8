use mathlib.Core.Path.{refl, ◌∙◌}
use native.Mathlib.Omega.{arith}
use Rattle.word.proofs.Digits.{worth-on, worth-end}
use Rattle.word.proofs.value.Goals as goal

pub loop-b-init : goal.loop-b-init
loop-b-init c = (omega arith, refl)

pub loop-b-preserved : goal.loop-b-preserved
loop-b-preserved c =
    (omega (arith, c.min-v.ensures), c.loop-b.invariant.1 ∙ worth-on c.args.s.now c.loop-b.b-index c.loop-b.v _ _ c.loop-b-test.true c.digit.ensures c.min-v.ensures)

pub returns : goal.returns
returns c =
    omega (arith, worth-end c.args.s.now c.loop-b.b-index c.loop-b.v c.loop-b-test.false, c.loop-b.invariant.1)
