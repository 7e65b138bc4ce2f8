-- The loop's invariant: the words from i on come to what all of them do.
use Rattle.words.proofs.Drawing.{At}
use Rattle.words.proofs.draw_from.Given as goal

abbrev pub invariant-loop-i : goal.invariant-loop-i
invariant-loop-i l = At l.total l.words l.i
