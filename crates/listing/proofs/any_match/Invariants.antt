-- `listing::any_match` meets its contract. The loop's invariant: no pair before q matches.
use lib.ListN.{get_elem?}
use Rattle.model.specs.Resolved
use Rattle.rules.specs.Offers as offers
use Rattle.rules.specs.Listing.{matches}
use Rattle.machine.specs.State.{State}
use Rattle.eval.specs.Shown.{ShowsQuery}
use Rattle.offers.specs.Collect.{World}
use Rattle.listing.specs.Ready.{RunIs}
use mathlib.Core.Option.{some}
use mathlib.Core.Path.{◌≡◌}
use mathlib.Core.List.{List}
use mathlib.Core.Bool.{false}
use Prim.Native.Nat.{ℕ, ◌<◌}
use Rattle.listing.proofs.any_match.Given as goal

abbrev pub invariant-loop-q : goal.invariant-loop-q
invariant-loop-q l = (w : offers.Query) (t roots scopes : List ℕ) (m : Resolved.Model) (s : State) → ShowsQuery l.asking.context.nodes.now l.asking.context.locals.now l.asking.acting.offer w → World t roots scopes l.asking.state.now m s → RunIs s.pairs w l.initial.q l.q-end → (k : ℕ) (x : offers.Pair) → get_elem? s.pairs k ≡ some x → k < l.q → matches w x ≡ false
