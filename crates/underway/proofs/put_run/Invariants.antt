-- The loop's invariant: so many entries of the run are written, and zeros after them.
use mathlib.Core.Path.{◌≡◌}
use lib.ListN.{take}
use Rattle.underway.specs.Buffer.{run_numbers}
use Rattle.underway.proofs.put_run.Given as goal

abbrev pub invariant-loop-i : goal.invariant-loop-i
invariant-loop-i l = l.part ≡ run_numbers (take l.i l.run)
