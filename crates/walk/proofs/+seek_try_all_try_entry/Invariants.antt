-- A listing's entries are tried in turn, each with the runs behind it; three times the length, and 2, 1 or 0, falls. The loop's invariant: the first rows stay, and what is left of the entries gives the same, after the refusals met.
use Rattle.model.specs.Resolved
use Rattle.rules.specs.Listing.{Entry}
use Rattle.machine.specs.State.{State}
use Rattle.machine.specs.Machine.{moves_to}
use Rattle.search.specs.Walks.{met_in}
use Rattle.walk.specs.Hunted.{gone, or_else, hunt_from}
use Rattle.walk.specs.Held.{Holds, first, Stands, Lists}
use mathlib.Core.Path.{◌≡◌}
use mathlib.Core.List.{List}
use Prim.Native.Nat.{◌+◌, ◌*◌}
use lib.ListN.{length}
use Rattle.walk.proofs.+seek_try_all_try_entry.Given as goal

abbrev pub decreases-seek : goal.decreases-seek
decreases-seek l = 3 * l.more + 2

abbrev pub decreases-try_all : goal.decreases-try_all
decreases-try_all l = 3 * l.more + 1

abbrev pub decreases-try_entry : goal.decreases-try_entry
decreases-try_entry l = 3 * l.more

abbrev pub invariant-try_all-loop-e : goal.invariant-try_all-loop-e
invariant-try_all-loop-e l =
    (first l.states ≡ first l.initial.states) × (first l.listings ≡ first l.initial.listings) × (length l.states ≡ length l.initial.states) × (length l.listings ≡ length l.initial.listings) × (length l.run ≡ length l.initial.run)
    × ((m : Resolved.Model) (s : State) (es : List Entry) → Holds l.search m → Stands (first l.initial.states) m s → Lists (first l.initial.listings) m s es → l.n ≡ length es
    → hunt_from (moves_to m l.search.name.now) s l.more 0 ≡ or_else (gone (met_in l.missed)) (hunt_from (moves_to m l.search.name.now) s l.more l.e))
