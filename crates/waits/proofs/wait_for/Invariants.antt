-- The loop's invariant: the draws from i on, read from here, come to what all of them do.
use Rattle.waits.proofs.Reading.{At}
use Rattle.waits.proofs.wait_for.Given as goal

abbrev pub invariant-loop-i : goal.invariant-loop-i
invariant-loop-i l = At l.draws l.run l.i
