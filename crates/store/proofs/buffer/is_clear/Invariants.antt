-- The loop's invariant: no bit so far, and the test of the rest, give the answer for all.
use mathlib.Core.Path.{◌≡◌}
use mathlib.Core.Bool.{◌&&◌}
use lib.Dec.{eqb}
use lib.ListN.{drop}
use Rattle.buffers.specs.Held.{zeros}
use Rattle.store.proofs.buffer.is_clear.Given as goal

abbrev pub invariant-loop-b : goal.invariant-loop-b
invariant-loop-b l = zeros l.s ≡ (eqb l.bits 0 && zeros (drop l.b-index l.s))
