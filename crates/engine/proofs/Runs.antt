-- What a run over lent buffers came to is what the call gives.
use mathlib.Core.List.{List}
use Prim.Native.Nat.{ℕ}
use Rattle.std.specs.Prelude.{Err, Ok}
use Rattle.clock.specs.declared.Clock.{Clock}
use Rattle.buffers.specs.Parts.{Engine}
use Rattle.buffers.specs.Effect.{Effect}
use Rattle.running.specs.declared.Progress.{Progress}
use Rattle.simulation.specs.declared.Refusal.{Refusal}
use Rattle.simulation.specs.declared.Refusal.TheVariants.{Lengths, NotHeld}
use Rattle.simulation.specs.Comes.{Comes}
use Rattle.engine.specs.Gives.{of_run}
use Rattle.engine.specs.Ran.{GivesRan, told_of, unbegun}

pub ran-gives : {w : Effect} {k : Clock} {p : Progress} {x : Engine} {l : List ℕ} → Comes w k (Ok p) x l → GivesRan w (told_of p).ran x l
ran-gives h = record { number = h.number; steps = h.steps; words = h.words; waiting = h.waiting; count = h.count; total = h.total; buffers = h.buffers; output = h.output }

pub unbegun-gives : {w : Effect} {k : Clock} (r : Refusal) {x : Engine} {l : List ℕ} → Comes w k (Err r) x l → GivesRan w (unbegun (of_run r) k).ran x l
unbegun-gives Lengths h = record { number = h.number; steps = h.steps; words = h.words; waiting = h.waiting; count = h.count; total = h.total; buffers = h.buffers; output = h.output }
unbegun-gives NotHeld h = record { number = h.number; steps = h.steps; words = h.words; waiting = h.waiting; count = h.count; total = h.total; buffers = h.buffers; output = h.output }
