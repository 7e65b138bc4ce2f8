-- What a branch offers as numbers: an offer's kind, rate, channel, and values or sets. Assumes nothing: these are definitions.
use Rattle.std.specs.Prelude.{◌≡◌, List, [], ◌∷◌, Bool, cond, ◌||◌, ℕ, ◌+◌, ◌-◌, ◌<◌, eqb, ℤ, pos, nat_abs, length, None, Some}
use Rattle.std.specs.Prelude.{Option as RustOption}
use Rattle.std.proofs.Math.Option.{Option, none, some}
use Rattle.std.specs.Ordering.{int_eq}
use Rattle.value.specs.Range.{farthest, InRange}
use Rattle.tree.specs.Node as node
use Rattle.model.specs.Resolved
use Rattle.rules.specs.Offers as offers
use Rattle.tables.specs.Settled as Settled
use Rattle.model.specs.Good.{GoodSet, GoodValues, GoodSets, GoodAction, GoodRate}
use Rattle.machine.specs.Evaluate.{eval_set, eval_all, eval_action, eval_rate}
use Rattle.eval.specs.Held.{Held}
use Rattle.eval.specs.declared.Values.{Values}
use Rattle.eval.specs.declared.Values.TheVariants.{One, Two}
use Rattle.eval.specs.Channels.{ShowsChannel}
use Rattle.eval.specs.declared.offer.Offer.{Offer}
use Rattle.eval.specs.declared.offer.Listed.{Listed}
use Rattle.eval.specs.declared.offer.OfferSet.{OfferSet}
use Rattle.eval.specs.declared.offer.OfferSet.TheVariants.{Range, Joined}

-- ---- what stands in an offer

-- beyond the range of values: marks a set that is given by its root
abbrev pub joined_mark : ℤ
joined_mark = pos (farthest + 1)

-- an offer of this kind and rate, and of nothing else
unfoldable pub bare_offer : ℕ → ℕ → Offer
bare_offer kind rate =
    record {
      kind = kind;
      rate = rate;
      channel = record { shape = 0; first = pos 0; second = pos 0; third = pos 0 };
      list = record { count = 0; first = pos 0; first_end = pos 0; second = pos 0; second_end = pos 0 };
    }

-- 01, Model text, actions: one or two values
pub data ShowsValues (count : ℕ) (a b c d : ℤ) : List ℤ → Type 0 where
  one : {x : ℤ} → count ≡ 1 → a ≡ x → b ≡ pos 0 → c ≡ pos 0 → d ≡ pos 0 → ShowsValues count a b c d (x ∷ [])
  two : {x y : ℤ} → count ≡ 2 → a ≡ x → b ≡ pos 0 → c ≡ y → d ≡ pos 0 → ShowsValues count a b c d (x ∷ y ∷ [])

-- the set x is that of the root i
pub record Rooted (t : List ℕ) (ls : List ℤ) (x : offers.Set) (i : ℕ) : Type 0 where
  pub held : Held (Settled.Set t) (GoodSet (length ls)) i
  pub set : Resolved.Set
  pub at : Settled.Set t set i
  pub worth : eval_set ls set ≡ some x

-- 01, Model text, sets: a range by its ends, a joined set by its root
pub data ShowsSet (t : List ℕ) (ls : List ℤ) (s : OfferSet) : offers.Set → Type 0 where
  ranged : {x y : ℤ} → s ≡ Range x y → InRange y → ShowsSet t ls s (offers.range x y)
  rooted : {x : offers.Set} {i : ℕ} → s ≡ Joined i → Rooted t ls x i → ShowsSet t ls s x

-- the set in two numbers: a range's ends, or a root and the mark
unfoldable pub set_in : ℤ → ℤ → OfferSet
set_in a b = cond (int_eq b joined_mark) (Joined (nat_abs a)) (Range a b)

-- a set that has two numbers: its end is a value, or its root an i64
unfoldable pub Numbered : OfferSet → Type 0
Numbered (Range a b) = InRange b
Numbered (Joined i) = i < 9223372036854775808

-- 01, Model text, sets: before the mark stands the root of a joined set, no negative number
unfoldable pub RootBefore : ℤ → ℤ → Type 0
RootBefore a b = b ≡ joined_mark → a ≡ pos (nat_abs a)

-- 01, Model text, sets: the same by two numbers
pub record SetIn (t : List ℕ) (ls : List ℤ) (a b : ℤ) (x : offers.Set) : Type 0 where
  pub shows : ShowsSet t ls (set_in a b) x
  pub root : RootBefore a b

-- 01, Model text, actions: one or two sets
pub data ShowsSets (t : List ℕ) (ls : List ℤ) (count : ℕ) (a b c d : ℤ) : List offers.Set → Type 0 where
  one : {x : offers.Set} → count ≡ 1 → SetIn t ls a b x → c ≡ pos 0 → d ≡ pos 0 → ShowsSets t ls count a b c d (x ∷ [])
  two : {x y : offers.Set} → count ≡ 2 → SetIn t ls a b x → SetIn t ls c d y → ShowsSets t ls count a b c d (x ∷ y ∷ [])

-- 01, Model text, actions: what is launched, killed or sent
pub record ShowsPair (r : Offer) (x : offers.Pair) : Type 0 where
  pub channel-is : ShowsChannel r.channel.shape r.channel.first r.channel.second r.channel.third x.channel
  pub values-are : ShowsValues r.list.count r.list.first r.list.first_end r.list.second r.list.second_end x.values

-- 01, Model text, actions: what a receive or a check asks for
pub record ShowsQuery (t : List ℕ) (ls : List ℤ) (r : Offer) (w : offers.Query) : Type 0 where
  pub channel-is : ShowsChannel r.channel.shape r.channel.first r.channel.second r.channel.third w.channel
  pub sets-are : ShowsSets t ls r.list.count r.list.first r.list.first_end r.list.second r.list.second_end w.sets

-- 01, Model text, actions: each in turn
pub data ShowsAction (t : List ℕ) (ls : List ℤ) (r : Offer) : offers.Action → Type 0 where
  wait : r ≡ bare_offer node.wait r.rate → ShowsAction t ls r offers.wait
  launch : {x : offers.Pair} → r.kind ≡ node.launch → ShowsPair r x → ShowsAction t ls r (offers.launch x)
  kill : {x : offers.Pair} → r.kind ≡ node.kill → ShowsPair r x → ShowsAction t ls r (offers.kill x)
  receive : {w : offers.Query} → r.kind ≡ node.receive → ShowsQuery t ls r w → ShowsAction t ls r (offers.receive w)
  bind : {w : offers.Query} → r.kind ≡ node.bind → ShowsQuery t ls r w → ShowsAction t ls r (offers.bind w)
  check : {w : offers.Query} → r.kind ≡ node.check → ShowsQuery t ls r w → ShowsAction t ls r (offers.check w)
  send : {x : offers.Pair} → r.kind ≡ node.hand_send → ShowsPair r x → ShowsAction t ls r (offers.send x)
  take : {w : offers.Query} → r.kind ≡ node.hand_receive → ShowsQuery t ls r w → ShowsAction t ls r (offers.take w)
  take_bind : {w : offers.Query} → r.kind ≡ node.hand_bind → ShowsQuery t ls r w → ShowsAction t ls r (offers.take_bind w)

-- 01, Values: what a branch with all its values offers; nothing behind a false gate
pub data ShowsGuard (t : List ℕ) (ls : List ℤ) : offers.Guard → RustOption Offer → Type 0 where
  shut : ShowsGuard t ls offers.shut None
  bare : {a : offers.Action} {n : ℕ} {r : Offer} → ShowsAction t ls r a → r.rate ≡ n → ShowsGuard t ls (offers.bare a n) (Some r)
  opened : {a : offers.Action} {n : ℕ} {r : Offer} → ShowsAction t ls r a → r.rate ≡ n → ShowsGuard t ls (offers.opened a n) (Some r)

-- 01, Values: what a branch offers, if its parts have values
pub data ShowsOffer (t : List ℕ) (ls : List ℤ) : Option offers.Guard → RustOption (RustOption Offer) → Type 0 where
  missing : ShowsOffer t ls none None
  there : {g : offers.Guard} {r : RustOption Offer} → ShowsGuard t ls g r → ShowsOffer t ls (some g) (Some r)

-- ---- the steps towards an offer

-- 01, Values: the values of an action in a row
unfoldable pub listed_values : Values → Listed
listed_values (One a) = record { count = 1; first = a; first_end = pos 0; second = pos 0; second_end = pos 0 }
listed_values (Two a b) = record { count = 2; first = a; first_end = pos 0; second = b; second_end = pos 0 }

-- 01, Values: a set, if all its ends have values
pub data ShowsEnds (t : List ℕ) (ls : List ℤ) : Option offers.Set → RustOption OfferSet → Type 0 where
  are : {x : offers.Set} {s : OfferSet} → ShowsSet t ls s x → ShowsEnds t ls (some x) (Some s)
  missing : ShowsEnds t ls none None

-- 01, Values: the same of the set that stands at k
abbrev pub SetShown : List ℕ → List ℤ → ℕ → RustOption OfferSet → Type 0
SetShown t ls k r = (s : Resolved.Set) → Settled.Set t s k → ShowsEnds t ls (eval_set ls s) r

-- 01, Values: values, if all are there
pub data ListsValues : RustOption Listed → Option (List ℤ) → Type 0 where
  all : {l : Listed} {vs : List ℤ} → ShowsValues l.count l.first l.first_end l.second l.second_end vs → ListsValues (Some l) (some vs)
  missing : ListsValues None none

-- 01, Values: sets, if the ends of all are there
pub data ListsSets (t : List ℕ) (ls : List ℤ) : RustOption Listed → Option (List offers.Set) → Type 0 where
  all : {l : Listed} {xs : List offers.Set} → ShowsSets t ls l.count l.first l.first_end l.second l.second_end xs → ListsSets t ls (Some l) (some xs)
  missing : ListsSets t ls None none

-- 01, Values: the same of the sets that stand at k
abbrev pub SetsListed : List ℕ → List ℤ → ℕ → RustOption Listed → Type 0
SetsListed t ls k r = (ss : List Resolved.Set) → Settled.OneOrTwo t (Settled.Set t) ss k → ListsSets t ls r (eval_all (eval_set ls) ss)

-- 01, Model text, actions: one with values stands at k
abbrev pub PairAt : List ℕ → ℕ → Resolved.Channel → List Resolved.Expr → ℕ → Type 0
PairAt t kind c v k = Settled.Pair t kind (Settled.Channel t c) (Settled.OneOrTwo t (Settled.Expr t) v) k

-- 01, Model text, actions: some good one with values does
pub record Carrier (t : List ℕ) (n kind k : ℕ) : Type 0 where
  pub model : Resolved.Model
  pub channel : Resolved.Channel
  pub values : List Resolved.Expr
  pub at : PairAt t kind channel values k
  pub fit : GoodValues model n channel values

-- 01, Model text, actions: one with sets stands at k
abbrev pub QueryAt : List ℕ → ℕ → Resolved.Channel → List Resolved.Set → ℕ → Type 0
QueryAt t kind c s k = Settled.Pair t kind (Settled.Channel t c) (Settled.OneOrTwo t (Settled.Set t) s) k

-- 01, Model text, actions: some good one with sets does
pub record Seeker (t : List ℕ) (n kind k : ℕ) : Type 0 where
  pub model : Resolved.Model
  pub channel : Resolved.Channel
  pub sets : List Resolved.Set
  pub at : QueryAt t kind channel sets k
  pub fit : GoodSets model n channel sets

-- 01, Model text, actions: launch, kill and send have values
unfoldable pub carries : ℕ → Bool
carries kind = eqb kind node.launch || eqb kind node.kill || eqb kind node.hand_send

-- 01, Values: the rate first, then the action, if both are there
pub data ShowsPrefix (t : List ℕ) (ls : List ℤ) : RustOption Offer → Option ℕ → Option offers.Action → Type 0 where
  both : {r : Offer} {n : ℕ} {a : offers.Action} → ShowsAction t ls r a → r.rate ≡ n → ShowsPrefix t ls (Some r) (some n) (some a)
  no-action : {n : ℕ} → ShowsPrefix t ls None (some n) none
  no-rate : {a : Option offers.Action} → ShowsPrefix t ls None none a

-- 01, Values: r shows the action that stands at k, with its rate
abbrev pub ActionShown : List ℕ → List ℤ → ℕ → ℕ → RustOption Offer → Type 0
ActionShown t ls rate k r = (a : Resolved.Action) → Settled.Action t a k → ShowsPrefix t ls r (some rate) (eval_action ls a)

-- 01, Model text: some good prefix without its gate stands at k
pub record Prefix (t : List ℕ) (n k : ℕ) : Type 0 where
  pub model : Resolved.Model
  pub action : Resolved.Action
  pub rate : Resolved.Rate
  pub next : List Resolved.Part
  pub at : Settled.Offer t action rate next k
  pub good-action : GoodAction model n action
  pub good-rate : GoodRate n rate

-- 01, Values: r shows the prefix without its gate that stands at k
abbrev pub PrefixShown : List ℕ → List ℤ → ℕ → RustOption Offer → Type 0
PrefixShown t ls k r =
    (a : Resolved.Action) (q : Resolved.Rate) (ps : List Resolved.Part) → Settled.Offer t a q ps k → ShowsPrefix t ls r (eval_rate ls q) (eval_action ls a)

-- the root of a branch's rate: the node before without a continuation, in the third field with one
unfoldable pub rate_root : ℕ → ℕ → ℕ
rate_root c k = cond (eqb (node.kind_of c) node.stop) (k - 1) (node.third_of c)
