-- `listing::total_of` meets its contract. The loop's invariant: the sum so far, within its limit.
use Rattle.rules.proofs.Chosen.{up_to}
use Rattle.machine.specs.Machine.{total_limit}
use Rattle.listing.specs.Buffer.{weights_in}
use mathlib.Core.Path.{◌≡◌}
use Prim.Native.Nat.{◌≤◌}
use Rattle.listing.proofs.total_of.Given as goal

abbrev pub invariant-loop-row : goal.invariant-loop-row
invariant-loop-row l = (l.sum ≡ up_to (weights_in l.listing l.count) l.row-index) × (l.sum ≤ total_limit)
