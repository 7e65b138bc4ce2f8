-- The loop's invariant: the scope has the first j of the locals more.
use Rattle.model.specs.Lists.{every_other}
use Rattle.names.specs.Settings.{Extended}
use Rattle.names.proofs.with_locals.Given as goal

abbrev pub invariant-loop-j : goal.invariant-loop-j
invariant-loop-j l = Extended l.initial.inner (every_other l.first l.j) l.inner
