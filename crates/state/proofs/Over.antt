-- A state over a model fits the locals of its sums and its number of channel names, and the other way round: field by field.
use mathlib.Core.Path.{sym, ap, ◌∙◌}
use mathlib.Core.List.{List}
use Prim.Native.Nat.{ℕ, ◌≤◌}
use native.Mathlib.Omega.{arith}
use Rattle.value.specs.Items.{one_item, two_items, three_items}
use Rattle.model.specs.Limits.{local_limit}
use Rattle.model.specs.Resolved
use Rattle.rules.specs.Offers as offers
use Rattle.model.specs.Good.{Every, GoodSum, GoodModel}
use Rattle.model.specs.Scope.{scope_of, locals_in, definition_in}
use Rattle.model.proofs.Scope.{locals-in, definition-in}
use Rattle.machine.specs.Offer.{Process}
use Rattle.machine.specs.State.{State, GoodItem, GoodChannel, GoodPair, GoodProcess, GoodState}
use Rattle.machine.proofs.Branches.{nth-map, map-nth, nth-get, get_nth}
use Rattle.machine.proofs.Everys.{every_in, in-every, every-nth, every_map}
use Rattle.state.specs.Fits.{scopes_of, FewLocals, FitsItem, FitsChannel, FitsPair, FitsProcess, Fits}

module _ (m : Resolved.Model) where
  process-fits : GoodModel m → (p : Process) → GoodProcess m p → FitsProcess (scopes_of m) p
  process-fits good p h =
      let n = get_nth m.sums p.sum h.sum.exists in
      let few = (every-nth (GoodSum m) good.sums n).few in
      record {
        scope = scope_of h.sum.sum;
        sum = nth-get (nth-map scope_of n);
        locals = locals-in h.sum.sum few ∙ h.sum.scope;
        definition = definition-in h.sum.sum few ∙ sym h.definition;
        values = h.values;
      }

  fits-process : GoodModel m → (p : Process) → FitsProcess (scopes_of m) p → GoodProcess m p
  fits-process good p f =
      let w = map-nth scope_of m.sums (get_nth (scopes_of m) p.sum f.sum) in
      let few = (every-nth (GoodSum m) good.sums w.at).few in
      record {
        sum = record { sum = w.source; exists = nth-get w.at; scope = sym (locals-in w.source few) ∙ ap locals_in (sym w.is) ∙ f.locals };
        values = f.values;
        definition = sym f.definition ∙ ap definition_in w.is ∙ definition-in w.source few;
      }

  item-fits : (a : offers.Item) → GoodItem m a → FitsItem m.channels a
  unfolding GoodItem FitsItem
  item-fits (offers.number z) h = h
  item-fits (offers.named n) h = h

  fits-item : (a : offers.Item) → FitsItem m.channels a → GoodItem m a
  unfolding GoodItem FitsItem
  fits-item (offers.number z) h = h
  fits-item (offers.named n) h = h

  channel-fits : (c : offers.Channel) → GoodChannel m c → FitsChannel m.channels c
  unfolding GoodChannel FitsChannel
  channel-fits (one_item a) h = item-fits a h
  channel-fits (two_items a b) h = (item-fits a h.0, item-fits b h.1)
  channel-fits (three_items a b c) h = (item-fits a h.0, item-fits b h.1, item-fits c h.2)

  fits-channel : (c : offers.Channel) → FitsChannel m.channels c → GoodChannel m c
  unfolding GoodChannel FitsChannel
  fits-channel (one_item a) h = fits-item a h
  fits-channel (two_items a b) h = (fits-item a h.0, fits-item b h.1)
  fits-channel (three_items a b c) h = (fits-item a h.0, fits-item b h.1, fits-item c h.2)

  pub pair_fits : (x : offers.Pair) → GoodPair m x → FitsPair m.channels x
  pair_fits x h = record { channel = channel-fits x.channel h.channel; number = h.number; values = h.values }

  every-from : {A : Type 0} (P Q : A → Type 0) → ((x : A) → P x → Q x) → (xs : List A) → Every P xs → Every Q xs
  every-from P Q h xs e = in-every Q xs (λ x i. h x (every_in P xs e x i))

  pub good-fits : (s : State) → GoodModel m → GoodState m s → Fits (scopes_of m) m.channels s
  good-fits s good g = record {
    few-processes = g.few-processes;
    processes = every-from (GoodProcess m) (FitsProcess (scopes_of m)) (process-fits good) s.processes g.processes;
    few-pairs = g.few-pairs;
    pairs = every-from (GoodPair m) (FitsPair m.channels) pair_fits s.pairs g.pairs;
    ascending = g.ascending;
  }

  pub fits-good : (s : State) → GoodModel m → Fits (scopes_of m) m.channels s → GoodState m s
  fits-good s good f = record {
    few-processes = f.few-processes;
    processes = every-from (FitsProcess (scopes_of m)) (GoodProcess m) (fits-process good) s.processes f.processes;
    few-pairs = f.few-pairs;
    pairs = every-from (FitsPair m.channels) (GoodPair m) (λ x h. record { channel = fits-channel x.channel h.channel; number = h.number; values = h.values }) s.pairs f.pairs;
    ascending = f.ascending;
  }

  -- a good model's sums have few locals
  pub few-scopes : GoodModel m → FewLocals (scopes_of m)
  few-scopes g = every_map (GoodSum m) (λ (k : ℕ). locals_in k ≤ local_limit) scope_of (λ t h. omega (arith, locals-in t h.few, h.few)) m.sums g.sums
