-- `offers::link` meets its contract. The loop's invariant: the rows from `row` on are linked.
use Rattle.offers.specs.Links.{Linked}
use mathlib.Core.Path.{◌≡◌}
use Prim.Native.Nat.{◌≤◌}
use lib.ListN.{length}
use Rattle.offers.proofs.link.Given as goal

abbrev pub invariant-loop-row : goal.invariant-loop-row
invariant-loop-row l = (l.row ≤ length l.rows) × (length l.nexts ≡ length l.rows) × Linked l.rows l.row l.firsts l.nexts
