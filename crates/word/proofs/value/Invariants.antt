-- The loop's invariant: v, then the digits from here on, come to the same capped number as all the digits.
use mathlib.Core.Path.{◌≡◌}
use Prim.Native.Nat.{◌≤◌, min}
use lib.ListN.{drop}
use Rattle.word.specs.Number.{worth, cap}
use Rattle.word.proofs.value.Given as goal

abbrev pub invariant-loop-b : goal.invariant-loop-b
invariant-loop-b l = (l.v ≤ cap) × (min cap (worth 0 l.s) ≡ min cap (worth l.v (drop l.b-index l.s)))
