-- A listing's entries are tried in turn, each with the runs behind it; three times the length, and 2, 1 or 0, falls. The loop's invariant: the first rows stay, and what is left of the entries and of the budget gives the same.
use Rattle.model.specs.Resolved
use Rattle.rules.specs.Listing.{Entry}
use Rattle.machine.specs.State.{State}
use Rattle.runs.specs.Walk.{events_from}
use Rattle.spend.specs.Spend.{spend}
use Rattle.walk.specs.Held.{Holds, first, Stands, Lists}
use Rattle.pieces.specs.Walked.{ways_of}
use mathlib.Core.Path.{◌≡◌}
use mathlib.Core.List.{List}
use Prim.Native.Nat.{◌+◌, ◌*◌}
use lib.ListN.{length}
use Rattle.pieces.proofs.+seek_try_rest_try_entry.Given as goal

abbrev pub decreases-seek : goal.decreases-seek
decreases-seek l = 3 * l.more + 2

abbrev pub decreases-try_entry : goal.decreases-try_entry
decreases-try_entry l = 3 * l.more

abbrev pub decreases-try_rest : goal.decreases-try_rest
decreases-try_rest l = 3 * l.more + 1

abbrev pub invariant-try_rest-loop-e : goal.invariant-try_rest-loop-e
invariant-try_rest-loop-e l =
    (first l.states ≡ first l.initial.states) × (first l.listings ≡ first l.initial.listings) × (length l.states ≡ length l.initial.states) × (length l.listings ≡ length l.initial.listings) × (length l.run ≡ length l.initial.run)
    × ((m : Resolved.Model) (s : State) (es : List Entry) → Holds l.sought.search m → Stands (first l.initial.states) m s → Lists (first l.initial.listings) m s es → l.n ≡ length es
    → spend l.fn.left.further l.fn.left.met (events_from (ways_of l.sought m) l.from l.more s) ≡ spend l.budget.further l.budget.met (events_from (ways_of l.sought m) l.e l.more s))
