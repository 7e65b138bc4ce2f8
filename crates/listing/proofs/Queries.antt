-- What receives and checks list, by the kind that a row shows, and what is sent to a handshake receive. By cases of the action.
use Prim.Native.Nat.{ℕ, ◌≤◌, ◌<◌}
use mathlib.Core.Path.{◌≡◌, refl, ap}
use mathlib.Core.Bool.{Bool, true, false}
use mathlib.Core.List.{List, [], ◌∷◌}
use native.Mathlib.Omega.{arith}
use lib.IntN.{ℤ, pos}
use Rattle.value.specs.Range.{InRange}
use Rattle.model.specs.Resolved
use Rattle.rules.specs.Offers as offers
use Rattle.rules.specs.Kind as kind
use Rattle.rules.specs.Rules.{key, rate_weight}
use Rattle.rules.specs.Listing.{Entry, entry, gather, when, unless, same_channel, all_within, matches, any_match, of_action}
use Rattle.model.specs.Good.{Every}
use Rattle.machine.specs.State.{State}
use Rattle.machine.specs.Offer.{branches}
use Rattle.eval.specs.declared.offer.Offer.{Offer}
use Rattle.eval.specs.Shown as shown
use Rattle.eval.specs.Shown.{bare_offer, ShowsValues, ShowsPair, ShowsQuery, ShowsAction}
use Rattle.state.specs.Read.{process_count, pair_count}
use Rattle.offers.specs.Table.{locals_of}
use Rattle.offers.specs.Collect.{World}
use Rattle.offers.proofs.Places.{some-place, values-good, locals-of}
use Rattle.listing.specs.Ready.{RunIs, bound_at}
use Rattle.listing.proofs.Pairs.{pairs-are}

kind-wait : {r : Offer} → r ≡ bare_offer 36 r.rate → r.kind ≡ 36
unfolding bare_offer
kind-wait e = ap (λ (o : Offer). o.kind) e

-- a receive or a check
pub record Asked (t : List ℕ) (ls : List ℤ) (r : Offer) (a : offers.Action) : Type 0 where
  pub query : offers.Query
  pub shows : ShowsQuery t ls r query
  pub bind_is : r.kind ≡ 40 → (m : Resolved.Model) (s : State) (i j n : ℕ) → of_action (branches m) s i j n a ≡ gather (bound_at query i j n) s.pairs
  pub receive-is : r.kind ≡ 39 → (m : Resolved.Model) (s : State) (i j n : ℕ) → of_action (branches m) s i j n a ≡ when (any_match query s.pairs) (entry (key kind.receive i j 0 0 0) (rate_weight n) ∷ [])
  pub check-is : (r.kind ≡ 40 → ⊥) → (r.kind ≡ 39 → ⊥) → (m : Resolved.Model) (s : State) (i j n : ℕ) → of_action (branches m) s i j n a ≡ unless (any_match query s.pairs) (entry (key kind.check i j 0 0 0) (rate_weight n) ∷ [])

pub asked : {t : List ℕ} {ls : List ℤ} {r : Offer} {a : offers.Action} → 38 < r.kind → r.kind < 42 → ShowsAction t ls r a → Asked t ls r a
unfolding of_action bound_at
asked l h (shown.wait e) = absurd (omega (arith, kind-wait e))
asked l h (shown.launch e p) = absurd (omega arith)
asked l h (shown.kill e p) = absurd (omega arith)
asked l h (shown.receive {w} e p) =
    record { query = w; shows = p; bind_is = λ k. absurd (omega arith); receive-is = λ k m s i j n. refl; check-is = λ k z. absurd (z e) }
asked l h (shown.bind {w} e p) =
    record { query = w; shows = p; bind_is = λ k m s i j n. refl; receive-is = λ k. absurd (omega arith); check-is = λ k z. absurd (k e) }
asked l h (shown.check {w} e p) =
    record { query = w; shows = p; bind_is = λ k. absurd (omega arith); receive-is = λ k. absurd (omega arith); check-is = λ k z m s i j n. refl }
asked l h (shown.send e p) = absurd (omega arith)
asked l h (shown.take e p) = absurd (omega arith)
asked l h (shown.take_bind e p) = absurd (omega arith)

-- a list where a test passes, or where it fails
pub when-yes : (b : Bool) (es : List Entry) → b ≡ true → when b es ≡ es
unfolding when
when-yes b es e = rw e

pub when-no : (b : Bool) (es : List Entry) → b ≡ false → when b es ≡ []
unfolding when
when-no b es e = rw e

pub unless-yes : (b : Bool) (es : List Entry) → b ≡ true → unless b es ≡ []
unfolding unless
unless-yes b es e = rw e

pub unless-no : (b : Bool) (es : List Entry) → b ≡ false → unless b es ≡ es
unfolding unless
unless-no b es e = rw e

module _ {t roots scopes : List ℕ} {zs : List ℤ} {m : Resolved.Model} {s : State} (w : World t roots scopes zs m s) where
  pub place-values : (i : ℕ) → i < process_count zs → Every InRange (locals_of s.processes i)
  place-values i l = let p = some-place w i l in rw (locals-of w i p.0 p.1) (values-good w i p.0 p.1)

  pub run_fits : (y : offers.Query) (from to : ℕ) → RunIs s.pairs y from to → to ≤ pair_count zs
  run_fits c from to r = omega (arith, r.high, pairs-are w)

-- ---- what is sent
pub sent-values : {n : ℕ} {a b c d : ℤ} {vs : List ℤ} → ShowsValues n a b c d vs → ShowsValues n a (pos 0) c (pos 0) vs
sent-values (shown.ShowsValues.one e f g h i) = shown.ShowsValues.one e f refl h refl
sent-values (shown.ShowsValues.two e f g h i) = shown.ShowsValues.two e f refl h refl

pub other-channel : (w : offers.Query) (x : offers.Pair) → same_channel w.channel x.channel ≡ false → false ≡ matches w x
unfolding matches
other-channel w x e = rw e

pub one-channel : (w : offers.Query) (x : offers.Pair) → same_channel w.channel x.channel ≡ true → all_within w.sets x.values ≡ matches w x
unfolding matches
one-channel w x e = rw e
