-- The loop's invariant: the numbers of the first i tokens stand at the tables' front, and the rest is as it was.
use Rattle.token.specs.Contents.{Told, lows_in, highs_in}
use Rattle.token.proofs.contents.Given as goal

abbrev pub invariant-loop-i : goal.invariant-loop-i
invariant-loop-i l = Told l.text (lows_in l.initial.contents) (highs_in l.initial.contents) l.i (lows_in l.contents) (highs_in l.contents)
