-- What a run gives (docs/DECISIONS.md, R.4 to R.7): its result, number by number, and the buffers as an effect says. Definitions only.
use Rattle.std.specs.Prelude.{◌≡◌, List, ℕ, get_or}
use Rattle.clock.specs.declared.Clock.{Clock}
use Rattle.machine.specs.Machine.{Part}
use Rattle.buffers.specs.Parts.{Engine}
use Rattle.buffers.specs.Effect.{Effect}
use Rattle.running.specs.declared.Progress.{Progress}
use Rattle.running.specs.Progress.{end_number}
use Rattle.engine.specs.declared.Refusal.{Refusal}
use Rattle.engine.specs.Gives.{refusal_number}
use Rattle.engine.specs.declared.Ran.{Ran}
use Rattle.engine.specs.declared.Simulated.{Simulated}

abbrev pub simulated : Ran → Clock → Simulated
simulated r c = record { ran = r; clock = c }

-- what a run that has come so far gives
abbrev pub told_of : Progress → Simulated
told_of p = simulated (record { number = end_number p.end; steps = p.steps; words = p.words; waiting = p.waiting; count = p.count; total = p.total }) p.clock

-- a run that doesn't begin leaves the clock
abbrev pub unbegun : Refusal → Clock → Simulated
unbegun r c = simulated (record { number = refusal_number r; steps = 0; words = 0; waiting = 0; count = 0; total = 0 }) c

-- R.4 to R.7: the result r, the buffers x and the events l that were lent are those of the effect; a call that used nothing says 0
pub record GivesRan (w : Effect) (r : Ran) (x : Engine) (l : List ℕ) : Type 0 where
  pub number : r.number ≡ w.answer.number
  pub steps : r.steps ≡ get_or w.answer.used 0 0
  pub words : r.words ≡ get_or w.answer.used 1 0
  pub waiting : r.waiting ≡ get_or w.answer.used 2 0
  pub count : r.count ≡ w.answer.count
  pub total : r.total ≡ w.answer.total
  pub buffers : (p : Part) → x p ≡ w.left p
  pub output : l ≡ w.output
