-- The loop's invariant: the scope has the first j names more, and what was found and what is still to be judged give the answer for all the names.
use Rattle.token.specs.Contents.{lows_in, highs_in}
use Rattle.model.specs.Lists.{every_other}
use Rattle.names.specs.Settings.{Extended}
use Rattle.names.proofs.Repeats.{Onward}
use Rattle.names.proofs.repeated_fault.Given as goal

abbrev pub invariant-loop-j : goal.invariant-loop-j
invariant-loop-j l = Extended l.initial.seen (every_other l.first l.j) l.seen × Onward (lows_in l.parsed.contents.now) (highs_in l.parsed.contents.now) l.parsed.nodes.now l.parsed.lists l.initial.seen l.first l.n l.found l.j
