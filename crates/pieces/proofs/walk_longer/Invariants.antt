-- The loop's invariant: the first state stays, and what is left of the lengths and of the budget gives the same.
use Rattle.model.specs.Resolved
use Rattle.machine.specs.State.{State}
use Rattle.runs.specs.Walk.{levels}
use Rattle.spend.specs.Spend.{spend}
use Rattle.walk.specs.Held.{Holds, first, Stands}
use Rattle.pieces.specs.Walked.{ways_of}
use mathlib.Core.Path.{◌≡◌}
use Prim.Native.Nat.{◌+◌, ◌-◌}
use lib.ListN.{length}
use Rattle.pieces.proofs.walk_longer.Given as goal

abbrev pub invariant-loop-more : goal.invariant-loop-more
invariant-loop-more l =
    (first l.states ≡ first l.initial.states) × (length l.states ≡ length l.initial.states) × (length l.listings ≡ length l.initial.listings) × (length l.run ≡ length l.initial.run)
    × ((m : Resolved.Model) (s : State) → Holds l.sought.search m → Stands (first l.initial.states) m s
    → spend l.fn.left.further l.fn.left.met (levels (ways_of l.sought m) s (l.from + 1) (l.depth - l.from)) ≡ spend l.budget.further l.budget.met (levels (ways_of l.sought m) s (l.more + 1) (l.depth - l.more)))
