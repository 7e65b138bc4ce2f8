-- A sender's partners stand in its channel's bucket: other slots are none. By cases of what a row shows.
use Prim.Native.Nat.{ℕ, suc, ◌*◌, ◌≤◌, ◌<◌}
use mathlib.Core.Path.{◌≡◌, refl, sym, ap, ◌∙◌}
use mathlib.Core.Bool.{Bool, true, false}
use mathlib.Core.List.{List, [], ◌∷◌, ◌++◌}
use mathlib.Core.Option.{Option, none, some, Option-elim}
use native.Mathlib.Omega.{arith}
use native.Mathlib.Nat.{mul-le-mul, le_trans}
use borrow.Author.Tests.{ltb-true, ltb-false, eq-eqb, ne_eqb}
use lib.Dec.{eqb, ltb}
use lib.IntN.{ℤ}
use lib.ListN.{length, get_elem?}
use Rattle.value.proofs.Kit.{true-not-false}
use Rattle.model.specs.Resolved
use Rattle.model.proofs.Members.{got-some}
use Rattle.rules.specs.Offers as offers
use Rattle.rules.specs.Kind as kind
use Rattle.rules.specs.Rules.{key}
use Rattle.rules.specs.Listing.{Entry, entry, gather, when, unless, same_channel, matches, partner_action}
use Rattle.machine.specs.Evaluate.{rate_limit}
use Rattle.machine.specs.State.{State}
use Rattle.eval.specs.declared.offer.Offer.{Offer}
use Rattle.eval.specs.Channels.{first_of, second_of, third_of, ShowsChannel}
use Rattle.eval.specs.Shown as shown
use Rattle.eval.specs.Shown.{bare_offer, ShowsPair, ShowsQuery, ShowsAction}
use Rattle.state.specs.Read.{process_count}
use Rattle.offers.specs.Slots.{Slot, partner_of, at_number, up_to}
use Rattle.offers.specs.Walk.{slots_of}
use Rattle.offers.specs.Head.{kind_in, place_in}
use Rattle.offers.specs.declared.row.Row.{Row}
use Rattle.offers.specs.Links.{row_at, bucket_of, InBucket, Leads}
use Rattle.offers.specs.Table.{offer_in, locals_of, Shown}
use Rattle.offers.proofs.Numbered.{up-skip, at_some, gather-up}
use Rattle.offers.proofs.Walk.{place-below}
use Rattle.offers.proofs.Places.{places-are, slots-few}
use Rattle.listing.specs.Ready.{Ready}
use Rattle.listing.proofs.Matching.{same-is}

-- ---- what a row shows by its kind
kind-wait : {r : Offer} → r ≡ bare_offer 36 r.rate → r.kind ≡ 36
unfolding bare_offer
kind-wait e = ap (λ (o : Offer). o.kind) e

-- a handshake receive
pub record Taken (t : List ℕ) (ls : List ℤ) (r : Offer) (a : offers.Action) : Type 0 where
  pub query : offers.Query
  pub shows : ShowsQuery t ls r query
  pub partner-is : (x : offers.Pair) (r₁ i j k m r₂ : ℕ) → partner_action x r₁ i j k m r₂ a ≡ when (matches query x) (entry (key kind.handshake i j k m 0) (r₁ * r₂) ∷ [])

pub taken : {t : List ℕ} {ls : List ℤ} {r : Offer} {a : offers.Action} → 43 ≤ r.kind → ShowsAction t ls r a → Taken t ls r a
unfolding partner_action
taken l (shown.wait e) = absurd (omega (arith, kind-wait e))
taken l (shown.launch e p) = absurd (omega arith)
taken l (shown.kill e p) = absurd (omega arith)
taken l (shown.receive e p) = absurd (omega arith)
taken l (shown.bind e p) = absurd (omega arith)
taken l (shown.check e p) = absurd (omega arith)
taken l (shown.send e p) = absurd (omega arith)
taken l (shown.take {w} e p) = record { query = w; shows = p; partner-is = λ x r₁ i j k m r₂. refl }
taken l (shown.take_bind {w} e p) = record { query = w; shows = p; partner-is = λ x r₁ i j k m r₂. refl }

untaken : {t : List ℕ} {ls : List ℤ} {r : Offer} {a : offers.Action} → r.kind < 43 → ShowsAction t ls r a → (x : offers.Pair) (r₁ i j k m r₂ : ℕ) → partner_action x r₁ i j k m r₂ a ≡ []
unfolding partner_action
untaken l (shown.wait e) x r₁ i j k m r₂ = refl
untaken l (shown.launch e p) x r₁ i j k m r₂ = refl
untaken l (shown.kill e p) x r₁ i j k m r₂ = refl
untaken l (shown.receive e p) x r₁ i j k m r₂ = refl
untaken l (shown.bind e p) x r₁ i j k m r₂ = refl
untaken l (shown.check e p) x r₁ i j k m r₂ = refl
untaken l (shown.send e p) x r₁ i j k m r₂ = refl
untaken l (shown.take e p) x r₁ i j k m r₂ = absurd (omega arith)
untaken l (shown.take_bind e p) x r₁ i j k m r₂ = absurd (omega arith)

-- one channel is in one bucket
one-bucket : {k l : ℕ} {a b c a' b' c' : ℤ} {x y : offers.Channel} → x ≡ y → ShowsChannel k a b c x → ShowsChannel l a' b' c' y → bucket_of a b c ≡ bucket_of a' b' c'
one-bucket q h g =
    rw (h.first-is ∙ ap first_of q ∙ sym g.first-is, h.second_is ∙ ap second_of q ∙ sym g.second_is, h.third-is ∙ ap third_of q ∙ sym g.third-is)

match-channel : (w : offers.Query) (x : offers.Pair) → matches w x ≡ true → w.channel ≡ x.channel
unfolding matches
match-channel w x e = go (same_channel w.channel x.channel) refl
  where
    go : (p : Bool) → same_channel w.channel x.channel ≡ p → w.channel ≡ x.channel
    go true q = same-is w.channel x.channel q
    go false q = true-not-false (sym e ∙ rw q)

-- ---- rows
module _ {t roots scopes : List ℕ} {zs : List ℤ} {rs : List Row} {m : Resolved.Model} {s : State} (ready : Ready t roots scopes zs rs m s) where
  abbrev all : List Slot
  all = slots_of m 0 s.processes

  pub rows_few : length rs ≤ 4096
  rows_few = omega (arith, ready.rows_are, slots-few ready.world)

  pub some-row : (k : ℕ) → k < length rs → (y : Slot) × (get_elem? (slots_of m 0 s.processes) k ≡ some y)
  some-row k l = got-some all k (omega (arith, ready.rows_are))

  pub row-place : (k : ℕ) (y : Slot) → get_elem? (slots_of m 0 s.processes) k ≡ some y → place_in (row_at rs k).head < process_count zs
  row-place k y e = omega (arith, place-below m s.processes k y e, places-are ready.world, (ready.holds.shown k y e).place_is)

  -- what partners x, which is sent, has
  module _ (r : Offer) (x : offers.Pair) (sent : ShowsPair r x) (i j : ℕ) where
    abbrev g : ℕ → List Entry
    g = at_number (λ n. partner_of x r.rate i j) all

    none-there : (q : ℕ) → (InBucket rs (bucket_of r.channel.first r.channel.second r.channel.third) q → ⊥) → g q ≡ []
    unfolding at_number partner_of Option-elim offer_in
    none-there q out = go (get_elem? all q) refl
      where
        empty : (b : Bool) (es : List Entry) → es ≡ [] → unless b es ≡ []
        empty true es e = unfold unless in refl
        empty false es e = unfold unless in e

        slot : (y : Slot) → Shown t (locals_of s.processes) (row_at rs q) y → partner_action x r.rate i j y.place y.branch y.rate y.action ≡ []
        slot y sh = by (ltb (kind_in (row_at rs q).head) 43) refl
          where
            by : (p : Bool) → ltb (kind_in (row_at rs q).head) 43 ≡ p → partner_action x r.rate i j y.place y.branch y.rate y.action ≡ []
            by true e = untaken (ltb-true (kind_in (row_at rs q).head) 43 e) sh.shows x r.rate i j y.place y.branch y.rate
            by false e = tell (matches T.query x) refl
              where
                T : Taken t (locals_of s.processes y.place) (offer_in (row_at rs q)) y.action
                T = taken (ltb-false (kind_in (row_at rs q).head) 43 e) sh.shows

                tell : (b : Bool) → matches T.query x ≡ b → partner_action x r.rate i j y.place y.branch y.rate y.action ≡ []
                tell true h =
                    absurd
                    (out (record {
                      receives = ltb-false (kind_in (row_at rs q).head) 43 e;
                      bucket = one-bucket (match-channel T.query x h) T.shows.channel-is sent.channel-is;
                    }))
                tell false h = T.partner-is x r.rate i j y.place y.branch y.rate ∙ (unfold when in rw h)

        go : (o : Option Slot) → get_elem? all q ≡ o → Option-elim o [] (partner_of x r.rate i j) ≡ []
        go none e = refl
        go (some y) e = empty (eqb y.place i) _ (slot y (ready.holds.shown q y e))

    -- up to the first of the bucket, from one to the next, and after the last
    pub partners-lead : (a b : ℕ) → Leads rs (bucket_of r.channel.first r.channel.second r.channel.third) a b → up_to g b ≡ up_to g a
    partners-lead a b l = up-skip g a b l.low (λ q m n. none-there q (l.none q m n))

    pub partners-next : (k : ℕ) (y : Slot) → get_elem? all k ≡ some y → up_to g (suc k) ≡ up_to g k ++ partner_of x r.rate i j y
    unfolding up_to
    partners-next k y e = ap (λ z. up_to g k ++ z) (at_some (λ n. partner_of x r.rate i j) all k e)

    pub partners-all : (k : ℕ) → k ≡ length rs → up_to g k ≡ gather (λ n. partner_of x r.rate i j) all
    partners-all k e = sym (gather-up (λ n. partner_of x r.rate i j) all ∙ ap (up_to g) (sym (e ∙ ready.rows_are)))

-- ---- one partner
pub partner-self : (x : offers.Pair) (r i j : ℕ) (y : Slot) → y.place ≡ i → partner_of x r i j y ≡ []
unfolding partner_of unless
partner-self x r i j y e = rw (eq-eqb y.place i e)

pub partner-out : {t : List ℕ} {ls : List ℤ} {o : Offer} (x : offers.Pair) (r i j : ℕ) (y : Slot) (T : Taken t ls o y.action) → matches T.query x ≡ false → partner_of x r i j y ≡ []
unfolding partner_of unless when
partner-out x r i j y T h = go (eqb y.place i)
  where
    go : (b : Bool) → unless b (partner_action x r i j y.place y.branch y.rate y.action) ≡ []
    go true = refl
    go false = T.partner-is x r i j y.place y.branch y.rate ∙ rw h

pub partner-in : {t : List ℕ} {ls : List ℤ} {o : Offer} (x : offers.Pair) (r i j : ℕ) (y : Slot) (T : Taken t ls o y.action) → (y.place ≡ i → ⊥) → matches T.query x ≡ true
    → partner_of x r i j y ≡ entry (key kind.handshake i j y.place y.branch 0) (r * y.rate) ∷ []
unfolding partner_of unless when
partner-in x r i j y T n h = rw (ne_eqb y.place i n) (T.partner-is x r i j y.place y.branch y.rate ∙ rw h)

-- a product of two rates fits
pub rates-fit : (a b : ℕ) → a ≤ rate_limit → b ≤ rate_limit → a * b ≤ 1000000000000000000
rates-fit a b p q = le_trans (mul-le-mul p q) (omega arith)
