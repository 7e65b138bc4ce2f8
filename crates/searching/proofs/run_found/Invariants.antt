-- The loop's invariant: so many entries of the run are written, and zeros after them.
use Rattle.searching.proofs.Results.{written}
use mathlib.Core.Path.{◌≡◌}
use Rattle.searching.proofs.run_found.Given as goal

abbrev pub invariant-loop-i : goal.invariant-loop-i
invariant-loop-i l = l.entries ≡ written l.run l.i
