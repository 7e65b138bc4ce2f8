-- `listing::list_partners` meets its contract. The loop's invariant: the partners before `row` are added, and `row` is in the bucket.
use Rattle.model.specs.Resolved
use Rattle.rules.specs.Offers as offers
use Rattle.machine.specs.State.{State}
use Rattle.eval.specs.Shown.{ShowsPair}
use Rattle.offers.specs.Slots.{partner_of, up_to, at_number}
use Rattle.offers.specs.Walk.{slots_of}
use Rattle.listing.specs.Buffer.{Adds}
use Rattle.listing.specs.Ready.{Ready}
use Rattle.offers.specs.Links.{InBucket}
use mathlib.Core.Path.{◌≡◌}
use mathlib.Core.List.{List}
use Prim.Native.Nat.{ℕ, ◌-◌, ◌≤◌, ◌<◌}
use lib.ListN.{length}
use Rattle.listing.proofs.list_partners.Given as goal

abbrev pub invariant-loop-row : goal.invariant-loop-row
invariant-loop-row l = (l.row ≤ length l.from.offered.rows.now) × (l.row < length l.from.offered.rows.now → InBucket l.from.offered.rows.now l.bucket l.row) × (l.filling.listing.ghost_name ≡ l.initial.filling.listing.ghost_name) × ((roots : List ℕ) (m : Resolved.Model) (s : State) (x : offers.Pair) → Ready l.from.tables.nodes.now roots l.from.tables.scopes.now l.from.state.now l.from.offered.rows.now m s → ShowsPair l.sender.offer x → Adds (up_to (at_number (λ (k : ℕ). partner_of x l.sender.offer.rate l.sender.place l.sender.branch) (slots_of m 0 s.processes)) l.row) l.initial.filling.listing.now l.initial.filling.count l.filling.listing.now l.filling.count)

abbrev pub decreases-loop-row : goal.decreases-loop-row
decreases-loop-row l = length l.from.offered.rows.now - l.row
