-- The loop's invariant: so many own numbers are put.
use mathlib.Core.Path.{◌≡◌}
use lib.ListN.{take}
use Rattle.step.proofs.put_locals.Given as goal

abbrev pub invariant-loop-i : goal.invariant-loop-i
invariant-loop-i l = take l.i l.locals.numbers ≡ take l.i l.own
