-- The loop's invariant: the rows before i are run, the others lead from here where all lead from the start, and the lent buffers are kept. The second promise is the theorem over every script.
use Rattle.script.specs.Run.{held, Kept}
use Rattle.script.proofs.Turns.{Turn}
use Rattle.script.proofs.run.Given as goal

abbrev pub invariant-loop-i : goal.invariant-loop-i
invariant-loop-i l = Kept l.initial.lent l.lent × Turn l.script l.texts l.numbers l.words (held l.initial.lent) (held l.lent) l.i
