-- The loop's invariant: w is the pack of the bytes that the iterator has given, the last of s.
use Rattle.word.proofs.Packs.{At}
use Rattle.word.proofs.word.Given as goal

abbrev pub invariant-loop-b : goal.invariant-loop-b
invariant-loop-b l = At l.s l.b-iterator.iter.rest.now l.w
