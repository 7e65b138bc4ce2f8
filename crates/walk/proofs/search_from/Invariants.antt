-- The loop's invariant: the first state stays, and what is left of the lengths gives the same, after the refusals met.
use Rattle.model.specs.Resolved
use Rattle.machine.specs.State.{State}
use Rattle.machine.specs.Machine.{moves_to}
use Rattle.search.specs.Walks.{met_in}
use Rattle.walk.specs.Hunted.{gone, or_else, hunt_longer}
use Rattle.walk.specs.Held.{Holds, first, Stands}
use mathlib.Core.Path.{◌≡◌}
use lib.ListN.{length}
use Rattle.walk.proofs.search_from.Given as goal

abbrev pub invariant-loop-more : goal.invariant-loop-more
invariant-loop-more l =
    (first l.states ≡ first l.initial.states) × (length l.states ≡ length l.initial.states) × (length l.listings ≡ length l.initial.listings) × (length l.run ≡ length l.initial.run)
    × ((m : Resolved.Model) (s : State) → Holds l.search m → Stands (first l.initial.states) m s → hunt_longer (moves_to m l.search.name.now) s l.depth 0 ≡ or_else (gone (met_in l.missed)) (hunt_longer (moves_to m l.search.name.now) s l.depth l.more))
