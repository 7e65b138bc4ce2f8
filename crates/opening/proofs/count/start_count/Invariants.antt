-- The loop's invariant: at most 256 processes were counted, and the items at `at` are left.
use Prim.Native.Nat.{◌≤◌}
use Rattle.model.specs.Resolved
use Rattle.model.specs.Opening.{process_limit}
use Rattle.opening.specs.Counts.{Countable}
use Rattle.opening.proofs.Counting.{Left}
use Rattle.opening.proofs.count.start_count.Given as goal

abbrev pub invariant-loop-count : goal.invariant-loop-count
invariant-loop-count l = (l.count ≤ process_limit) × ((m : Resolved.Model) → Countable l.nodes l.first l.line m → Left l.nodes l.first l.line m l.count l.at)

abbrev pub decreases-loop-count : goal.decreases-loop-count
decreases-loop-count l = l.at
