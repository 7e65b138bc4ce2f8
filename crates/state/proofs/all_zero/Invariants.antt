-- The loop's invariant: no bit so far, and the test of the rest, give the answer for all.
use mathlib.Core.Path.{◌≡◌}
use mathlib.Core.Bool.{◌&&◌}
use Prim.Native.Nat.{◌≤◌}
use lib.Dec.{eqb}
use lib.ListN.{length, drop}
use mir.Syntax.{w64}
use mir.Val.{of_z}
use Rattle.state.specs.Test.{every, is_zero}
use Rattle.state.proofs.all_zero.Given as goal

abbrev pub invariant-loop-z : goal.invariant-loop-z
invariant-loop-z l = (l.z-index ≤ length l.s) × (every is_zero l.s ≡ (eqb (of_z w64 l.bits) 0 && every is_zero (drop l.z-index l.s)))
