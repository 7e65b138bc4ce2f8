-- The loop's invariant: the test of the places from i on gives the answer for all.
use mathlib.Core.Path.{◌≡◌}
use lib.ListN.{drop}
use Rattle.saves.specs.Places.{are_once}
use Rattle.saves.proofs.are_once.Given as goal

abbrev pub invariant-loop-i : goal.invariant-loop-i
invariant-loop-i l = are_once l.places ≡ are_once (drop l.i l.places)
