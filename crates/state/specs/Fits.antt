-- States over a model of which only the locals and definitions of its sums and the number of its channel names are known (01, Listing, question 11). Definitions only.
use Rattle.std.specs.Prelude.{◌≡◌, List, [], ◌∷◌, map, ℕ, ◌≤◌, ◌<◌, length}
use Rattle.std.specs.Coded.{×_prop, Unit-prop, le_prop}
use Rattle.std.proofs.Math.Option.{some}
use Rattle.std.proofs.Math.ListN.{get_elem?}
use Rattle.value.specs.Range.{InRange}
use Rattle.value.specs.Items.{one_item, two_items, three_items}
use Rattle.model.specs.Limits.{local_limit}
use Rattle.model.specs.Resolved
use Rattle.model.specs.Scope.{scope_of, locals_in, definition_in}
use Rattle.model.specs.Opening.{process_limit}
use Rattle.rules.specs.Offers as offers
use Rattle.rules.specs.Order.{Ascending}
use Rattle.rules.specs.Pairs.{Before}
use Rattle.model.specs.Good.{Every, OneOrTwo}
use Rattle.machine.specs.Offer.{Process}
use Rattle.machine.specs.State.{State, pair_limit}

-- 01, State, and 02, note 6: the locals and the definition of each sum
abbrev pub scopes_of : Resolved.Model → List ℕ
scopes_of m = map scope_of m.sums

-- 01, Opening a text, 7: a sum has at most 8 locals
abbrev pub FewLocals : List ℕ → Type 0
FewLocals scopes = Every (λ (k : ℕ). locals_in k ≤ local_limit) scopes

-- there is one proof of it at most
pub FewLocals-prop : (scopes : List ℕ) → IsProp (FewLocals scopes)
unfolding Every
FewLocals-prop [] = Unit-prop
FewLocals-prop (k ∷ scopes) = ×_prop le_prop (FewLocals-prop scopes)

-- 01, Listing, 11: number items in range, channel names that exist
unfoldable pub FitsItem : ℕ → offers.Item → Type 0
FitsItem channels (offers.number z) = InRange z
FitsItem channels (offers.named n) = n < channels

-- 02, note 7: each item of a channel
unfoldable pub FitsChannel : ℕ → offers.Channel → Type 0
FitsChannel channels (one_item a) = FitsItem channels a
FitsChannel channels (two_items a b) = FitsItem channels a × FitsItem channels b
FitsChannel channels (three_items a b c) = FitsItem channels a × FitsItem channels b × FitsItem channels c

-- 01, Listing, 11: 1 or 2 values in range
pub record FitsPair (channels : ℕ) (x : offers.Pair) : Type 0 where
  pub channel : FitsChannel channels x.channel
  pub number : OneOrTwo x.values
  pub values : Every InRange x.values

-- 01, Listing, 11: a sum that exists, with as many locals as it has in scope, in range; 02, note 6: its definition
pub record FitsProcess (scopes : List ℕ) (p : Process) : Type 0 where
  pub scope : ℕ
  pub sum : get_elem? scopes p.sum ≡ some scope
  pub locals : locals_in scope ≡ length p.locals
  pub definition : definition_in scope ≡ p.definition
  pub values : Every InRange p.locals

-- 01, Listing, 11: a state over such a model
pub record Fits (scopes : List ℕ) (channels : ℕ) (s : State) : Type 0 where
  pub few-processes : length s.processes ≤ process_limit
  pub processes : Every (FitsProcess scopes) s.processes
  pub few-pairs : length s.pairs ≤ pair_limit
  pub pairs : Every (FitsPair channels) s.pairs
  pub ascending : Ascending Before s.pairs
