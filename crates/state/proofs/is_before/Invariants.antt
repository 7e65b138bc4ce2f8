-- The loop's invariant: the rests stand to each other as the rows do.
use mathlib.Core.Path.{◌≡◌}
use lib.ListN.{drop}
use Rattle.rules.specs.Order.{less}
use Rattle.state.proofs.is_before.Given as goal

abbrev pub invariant-loop-i : goal.invariant-loop-i
invariant-loop-i l = less l.a l.b ≡ less (drop l.i l.a) (drop l.i l.b)
