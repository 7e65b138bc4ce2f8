-- `listing::list_bound` meets its contract. The loop's invariant: the entries of the pairs before q are added.
use Rattle.model.specs.Resolved
use Rattle.rules.specs.Offers as offers
use Rattle.machine.specs.State.{State}
use Rattle.eval.specs.Shown.{ShowsQuery}
use Rattle.offers.specs.Slots.{up_to, at_number}
use Rattle.offers.specs.Collect.{World}
use Rattle.listing.specs.Buffer.{Adds}
use Rattle.listing.specs.Ready.{RunIs, bound_at}
use mathlib.Core.Path.{◌≡◌}
use mathlib.Core.List.{List}
use Prim.Native.Nat.{ℕ, ◌≤◌}
use Rattle.listing.proofs.list_bound.Given as goal

abbrev pub invariant-loop-q : goal.invariant-loop-q
invariant-loop-q l = (l.filling.listing.ghost_name ≡ l.initial.filling.listing.ghost_name) × ((w : offers.Query) (t roots scopes : List ℕ) (m : Resolved.Model) (s : State) → ShowsQuery l.asking.context.nodes.now l.asking.context.locals.now l.asking.acting.offer w → World t roots scopes l.asking.state.now m s → RunIs s.pairs w l.initial.q l.q-end → (l.q ≤ l.q-end) × Adds (up_to (at_number (bound_at w l.asking.acting.place l.asking.acting.branch l.asking.acting.offer.rate) s.pairs) l.q) l.initial.filling.listing.now l.initial.filling.count l.filling.listing.now l.filling.count)
