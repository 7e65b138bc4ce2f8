-- The loop's invariant: the run so far comes to what the whole run does.
use Rattle.running.specs.Progress.{Stays}
use Rattle.running.proofs.Steps.{Loop}
use Rattle.running.proofs.Making.steps.Given as goal

abbrev pub invariant-loop : goal.invariant-loop
invariant-loop l =
    Stays l.initial.self l.self × Loop l.given l.initial.self.events.now l.initial.self.state.now l.steps l.initial.p.clock l.counter l.self.state.now l.self.events.now l.p
