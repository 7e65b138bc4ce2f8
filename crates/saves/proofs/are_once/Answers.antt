use mathlib.Core.Path.{refl, sym, ◌∙◌}
use native.Mathlib.Omega.{arith}
use Rattle.saves.proofs.Laws.{once-fail, once-on, once-done, later-part}
use Rattle.saves.proofs.are_once.Goals as goal

pub loop-i-init : goal.loop-i-init
loop-i-init c = refl

pub returns-then-not-is_once : goal.returns-then-not-is_once
returns-then-not-is_once c =
    sym (once-fail c.args.places.now c.loop-i.i _ c.loop-i.invariant (omega arith) (sym (c.is_once.ensures ∙ later-part c.args.places.now c.loop-i.i _) ∙ c.if-not-is_once.true))

pub loop-i-preserved : goal.loop-i-preserved
loop-i-preserved c =
    once-on c.args.places.now c.loop-i.i _ c.loop-i.invariant (omega arith) (sym (c.is_once.ensures ∙ later-part c.args.places.now c.loop-i.i _) ∙ c.if-not-is_once.false)

pub returns : goal.returns
returns c =
    sym (once-done c.args.places.now c.loop-i.i c.loop-i.invariant (omega arith))
