-- Each step goes on from the run so far, or ends it.
use mathlib.Core.Path.{refl, sym, ap, ◌∙◌}
use native.Mathlib.Omega.{arith}
use Rattle.running.specs.declared.Progress.{Progress}
use Rattle.running.proofs.Steps.{loop-begins, some-run, has_room, all-taken, run-over, run_on}
use Rattle.running.proofs.Making.steps.Goals as goal

pub loop-init : goal.loop-init
loop-init c = ((refl, refl), loop-begins _ _ _ _ _ _ c.begun-p.ensures c.requires.1)

pub step-p-requires : goal.step-p-requires
step-p-requires c =
    let l = c.requires.0 in
    (some-run _ _ _ _ _ _ _ _ _ c.loop.invariant.1 l.0 l.1 l.2, has_room _ _ _ _ _ _ _ _ _ c.loop.invariant.1 l.0 l.1 l.2 c.loop-test.true c.requires.2)

pub returns-then-is_some-clause-stands : goal.returns-then-is_some-clause-stands
returns-then-is_some-clause-stands c =
    λ m s l. rw (← ap (λ (x : Progress). x.clock) c.begun-p.ensures) (run-over _ _ _ _ _ _ _ _ _ c.loop.invariant.1 _ _ _ c.loop-test.true c.step-p.ensures.goes (sym c.is_some.ensures ∙ c.if-is_some.true) m s l)

pub loop-preserved : goal.loop-preserved
loop-preserved c =
    ((c.step-p.ensures.same.0 ∙ c.loop.invariant.0.0, c.step-p.ensures.same.1 ∙ c.loop.invariant.0.1), run_on _ _ _ _ _ _ _ _ _ c.loop.invariant.1 _ _ _ c.loop-test.true c.step-p.ensures.goes (sym c.is_some.ensures ∙ c.if-is_some.false))

pub returns-clause-stands : goal.returns-clause-stands
returns-clause-stands c =
    λ m s l. rw (← ap (λ (x : Progress). x.clock) c.begun-p.ensures) (all-taken _ _ _ _ _ _ _ _ _ c.loop.invariant.1 (omega (arith, c.loop-test.false, c.loop.auto.counter-end)) m s l)
