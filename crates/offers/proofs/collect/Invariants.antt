-- `offers::collect` meets its contract. The loop's invariant: the places before are collected, into the rows that were lent, and none of them lacks a value.
use Rattle.model.specs.Resolved
use Rattle.model.specs.Limits.{branch_limit}
use Rattle.machine.specs.State.{State}
use Rattle.offers.specs.Collect.{World}
use Rattle.offers.proofs.Places.{Progress}
use Prim.Native.Nat.{◌*◌, ◌≤◌}
use mathlib.Core.Path.{◌≡◌}
use Rattle.offers.proofs.collect.Given as goal

abbrev pub invariant-loop-place : goal.invariant-loop-place
invariant-loop-place l = (l.filling.count ≤ l.place * branch_limit) × (l.filling.rows.ghost_name ≡ l.initial.filling.rows.ghost_name) × ((m : Resolved.Model) (s : State) → World l.tables.nodes.now l.tables.roots.now l.tables.scopes.now l.state m s → Progress l.tables.nodes.now l.filling.rows.now m s.processes l.place l.filling.count)
