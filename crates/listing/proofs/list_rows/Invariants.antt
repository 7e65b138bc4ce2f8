-- `listing::list_rows` meets its contract. The loop's invariant: the entries of the rows before are added.
use Rattle.model.specs.Resolved
use Rattle.machine.specs.State.{State}
use Rattle.machine.specs.Offer.{branches}
use Rattle.offers.specs.Slots.{of_slot, up_to, at_number}
use Rattle.offers.specs.Walk.{slots_of}
use Rattle.listing.specs.Buffer.{Adds}
use Rattle.listing.specs.Ready.{Ready}
use mathlib.Core.Path.{◌≡◌}
use mathlib.Core.List.{List}
use Prim.Native.Nat.{ℕ}
use Rattle.listing.proofs.list_rows.Given as goal

abbrev pub invariant-loop-row : goal.invariant-loop-row
invariant-loop-row l = (l.filling.listing.ghost_name ≡ l.initial.filling.listing.ghost_name) × ((roots : List ℕ) (m : Resolved.Model) (s : State) → Ready l.from.tables.nodes.now roots l.from.tables.scopes.now l.from.state.now l.from.offered.rows.now m s → Adds (up_to (at_number (λ (k : ℕ). of_slot (branches m) s) (slots_of m 0 s.processes)) l.row) l.initial.filling.listing.now l.initial.filling.count l.filling.listing.now l.filling.count)
