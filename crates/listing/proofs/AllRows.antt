-- What the branch in a row lists, by its kind, and all rows together. By cases of the action, and from the laws of slots.
use Prim.Native.Nat.{ℕ, zero, suc, ◌+◌, ◌-◌, ◌*◌, ◌≤◌, ◌<◌}
use mathlib.Core.Path.{◌≡◌, refl, sym, ap, ◌∙◌}
use mathlib.Core.List.{List, [], ◌∷◌, ◌++◌, append_assoc}
use mathlib.Core.Option.{none, some, Option-elim}
use native.Mathlib.Omega.{arith}
use lib.IntN.{ℤ}
use lib.ListN.{length, get_elem?, take, drop, length-append}
use Rattle.std.proofs.lemmas.List.{length-take-le}
use lib.Seq.{take-append-le}
use Rattle.model.specs.Resolved
use Rattle.rules.specs.Offers as offers
use Rattle.rules.specs.Rules.{key, rate_weight}
use Rattle.rules.specs.Listing.{Entry, entry, gather, of_action, entries}
use Rattle.machine.specs.State.{State}
use Rattle.machine.specs.Offer.{branches, missing}
use Rattle.machine.specs.Machine.{entry_limit, no, zeroed, counted}
use Rattle.machine.specs.Machine as machine
use Rattle.eval.specs.declared.offer.Offer.{Offer}
use Rattle.eval.specs.Shown as shown
use Rattle.eval.specs.Shown.{bare_offer, ShowsPair, ShowsAction}
use Rattle.state.specs.Read.{process_count}
use Rattle.machine.specs.Evaluate.{rate_limit}
use Rattle.offers.specs.Head.{place_in, branch_in}
use Rattle.offers.specs.Table.{offer_in, locals_of}
use Rattle.offers.specs.Slots.{Slot, partner_of, of_slot, at_number, up_to}
use Rattle.offers.specs.Walk.{slots_of}
use Rattle.std.specs.Prelude.{Err, Ok}
use Rattle.offers.specs.declared.Stop.{Stop}
use Rattle.offers.specs.declared.row.Row.{Row}
use Rattle.offers.specs.Links.{row_at}
use Rattle.offers.specs.Collect as Collect
use Rattle.offers.specs.Collect.{World, Answers}
use Rattle.offers.proofs.Numbered.{append-nil, up_one, at_some, gather-up}
use Rattle.offers.proofs.Rows.{holds-first}
use Rattle.offers.proofs.Slots.{entries-slots, partners-slots}
use Rattle.offers.proofs.Walk.{slots-are}
use Rattle.listing.specs.declared.Refusal.TheVariants as refusal
use Rattle.listing.specs.declared.Stop as listing
use Rattle.listing.specs.Buffer.{rows, image, cut, Adds, of_offers, TriesOver, short}
use Rattle.listing.proofs.Finished.{refused, as-led}
use Rattle.listing.specs.Ready.{Ready}
use Rattle.listing.proofs.Partners.{some-row, row-place}

kind-wait : {r : Offer} → r ≡ bare_offer 36 r.rate → r.kind ≡ 36
unfolding bare_offer
kind-wait e = ap (λ (o : Offer). o.kind) e

-- a wait, a launch or a kill
pub alone_of : {t : List ℕ} {ls : List ℤ} {r : Offer} {a : offers.Action} → r.kind ≤ 38 → ShowsAction t ls r a
    → (m : Resolved.Model) (s : State) (i j n : ℕ) → of_action (branches m) s i j n a ≡ entry (key (r.kind - 35) i j 0 0 0) (rate_weight n) ∷ []
unfolding of_action
alone_of l (shown.wait e) m s i j n = rw (kind-wait e)
alone_of l (shown.launch e p) m s i j n = rw e
alone_of l (shown.kill e p) m s i j n = rw e
alone_of l (shown.receive e p) m s i j n = absurd (omega arith)
alone_of l (shown.bind e p) m s i j n = absurd (omega arith)
alone_of l (shown.check e p) m s i j n = absurd (omega arith)
alone_of l (shown.send e p) m s i j n = absurd (omega arith)
alone_of l (shown.take e p) m s i j n = absurd (omega arith)
alone_of l (shown.take_bind e p) m s i j n = absurd (omega arith)

pub alone-at : {t : List ℕ} {ls : List ℤ} {r : Offer} {a : offers.Action} (k : ℕ) → r.kind ≡ k → k ≤ 38 → ShowsAction t ls r a
    → (m : Resolved.Model) (s : State) (i j n : ℕ) → of_action (branches m) s i j n a ≡ entry (key (k - 35) i j 0 0 0) (rate_weight n) ∷ []
alone-at k e l sh m s i j n = alone_of (omega arith) sh m s i j n ∙ ap (λ (q : ℕ). entry (key (q - 35) i j 0 0 0) (rate_weight n) ∷ []) e

-- a handshake receive is listed at its sender
pub high-of : {t : List ℕ} {ls : List ℤ} {r : Offer} {a : offers.Action} → 42 < r.kind → ShowsAction t ls r a → (m : Resolved.Model) (s : State) (i j n : ℕ) → of_action (branches m) s i j n a ≡ []
unfolding of_action
high-of l (shown.wait e) m s i j n = absurd (omega (arith, kind-wait e))
high-of l (shown.launch e p) m s i j n = absurd (omega arith)
high-of l (shown.kill e p) m s i j n = absurd (omega arith)
high-of l (shown.receive e p) m s i j n = absurd (omega arith)
high-of l (shown.bind e p) m s i j n = absurd (omega arith)
high-of l (shown.check e p) m s i j n = absurd (omega arith)
high-of l (shown.send e p) m s i j n = absurd (omega arith)
high-of l (shown.take e p) m s i j n = refl
high-of l (shown.take_bind e p) m s i j n = refl

-- a handshake send
pub record Sends (t : List ℕ) (ls : List ℤ) (r : Offer) (a : offers.Action) : Type 0 where
  pub pair : offers.Pair
  pub shows : ShowsPair r pair
  pub send-is : (m : Resolved.Model) (s : State) (i j n : ℕ) → of_action (branches m) s i j n a ≡ gather (λ k. partner_of pair n i j) (slots_of m 0 s.processes)

sent-by : (x : offers.Pair) (m : Resolved.Model) (s : State) (i j n : ℕ) → of_action (branches m) s i j n (offers.send x) ≡ gather (λ k. partner_of x n i j) (slots_of m 0 s.processes)
unfolding of_action
sent-by x m s i j n = partners-slots (branches m) x n i j s.processes ∙ ap (λ (ys : List Slot). gather (λ k. partner_of x n i j) ys) (slots-are m s.processes)

pub sends : {t : List ℕ} {ls : List ℤ} {r : Offer} {a : offers.Action} → r.kind ≡ 42 → ShowsAction t ls r a → Sends t ls r a
sends l (shown.wait e) = absurd (omega (arith, kind-wait e))
sends l (shown.launch e p) = absurd (omega arith)
sends l (shown.kill e p) = absurd (omega arith)
sends l (shown.receive e p) = absurd (omega arith)
sends l (shown.bind e p) = absurd (omega arith)
sends l (shown.check e p) = absurd (omega arith)
sends l (shown.send {x} e p) = record { pair = x; shows = p; send-is = sent-by x }
sends l (shown.take e p) = absurd (omega arith)
sends l (shown.take_bind e p) = absurd (omega arith)

-- by a row's numbers
pub slot_of : (m : Resolved.Model) (s : State) (y : Slot) (i j n : ℕ) → i ≡ y.place → j ≡ y.branch → n ≡ y.rate → of_slot (branches m) s y ≡ of_action (branches m) s i j n y.action
unfolding of_slot
slot_of m s y i j n a b c = rw (← a, ← b, ← c)

-- ---- all rows
module _ {t roots scopes : List ℕ} {zs : List ℤ} {rs : List Row} {m : Resolved.Model} {s : State} (ready : Ready t roots scopes zs rs m s) where
  abbrev all : List Slot
  all = slots_of m 0 s.processes

  abbrev g : ℕ → List Entry
  g = at_number (λ k. of_slot (branches m) s) all

  pub entries-up : (k : ℕ) → k ≡ length rs → entries (branches m) s ≡ up_to g k
  entries-up k e =
      entries-slots (branches m) s ∙ ap (λ (ys : List Slot). gather (λ k. of_slot (branches m) s) ys) (slots-are m s.processes)
      ∙ gather-up (λ k. of_slot (branches m) s) all ∙ ap (up_to g) (sym (e ∙ ready.rows_are))

  pub rows_next : (k : ℕ) (y : Slot) → get_elem? all k ≡ some y → up_to g (k + 1) ≡ up_to g k ++ of_slot (branches m) s y
  rows_next k y e = up_one g k ∙ ap (λ z. up_to g k ++ z) (at_some (λ k. of_slot (branches m) s) all k e)

-- ---- past the last entry that there is room for
split : (f : ℕ → List Entry) (a d : ℕ) → (es : List Entry) × (up_to f (a + d) ≡ up_to f a ++ es)
split f a zero = let e : a + 0 ≡ a = omega arith in ([], ap (up_to f) e ∙ sym (append-nil (up_to f a)))
split f a (suc d) =
    let r = split f a d in
    let e : a + suc d ≡ a + d + 1 = omega arith in
    (r.0 ++ f (a + d), ap (up_to f) e ∙ up_one f (a + d) ∙ ap (λ z. z ++ f (a + d)) r.1 ∙ append_assoc (up_to f a) r.0 (f (a + d)))

adds-past : {es : List Entry} {b b' : List ℕ} {n n' : ℕ} (fs : List Entry) → entry_limit < n' → Adds es b n b' n' → Adds (es ++ fs) b n b' n'
unfolding image cut
adds-past {es} fs l p =
    record {
      adds = λ z acc h e f.
          let r = p.adds z acc h e f in
          let long : entry_limit ≤ length (acc ++ es) = omega (arith, r.1) in
          let a = append_assoc acc es fs in
          let q = length-append (acc ++ es) fs in
          let u : take entry_limit (acc ++ es ++ fs) ≡ take entry_limit (acc ++ es) = take-append-le entry_limit (acc ++ es) fs long in
          (rw (← a) (r.0 ∙ sym (ap (λ y. rows y (drop (length y * 7) z)) u)), rw (← a) (omega (arith, r.1)));
      size = p.size;
      most = p.most;
    }

pub adds-stop : {b b' : List ℕ} {n n' : ℕ} (f : ℕ → List Entry) (a c : ℕ) → a ≤ c → entry_limit < n' → Adds (up_to f a) b n b' n' → Adds (up_to f c) b n b' n'
adds-stop f a c l h p =
    let r = split f a (c - a) in
    let e : c ≡ a + (c - a) = omega arith in
    rw (ap (up_to f) e ∙ r.1) (adds-past r.0 h p)

-- ---- 12
pub lacking : (m : Resolved.Model) (s : State) (i j : ℕ) → missing m 0 s.processes ≡ some (i, j) → machine.listing m s ≡ machine.refused_with (no 12 i j zeroed)
unfolding machine.listing Option-elim
lacking m s i j e = rw e

pub not-lacking : (m : Resolved.Model) (s : State) → missing m 0 s.processes ≡ none → machine.listing m s ≡ counted (entries (branches m) s)
unfolding machine.listing Option-elim
not-lacking m s e = rw e

-- ---- a row's numbers
rate-act : (t : List ℕ) (ls : ℕ → List ℤ) (i : ℕ) (r : Offer) (i' : ℕ) (r' : Offer) (a : offers.Action) → i ≡ i' → r ≡ r' → ShowsAction t (ls i') r' a → ShowsAction t (ls i) r a
rate-act t ls i r i' r' a e f s = rw (e, f) s

-- place i, branch j and offer o of a row, which shows the slot y
pub record Acts (t : List ℕ) (ls : ℕ → List ℤ) (y : Slot) (i j : ℕ) (o : Offer) : Type 0 where
  pub place-is : i ≡ y.place
  pub branch-is : j ≡ y.branch
  pub rate-is : o.rate ≡ y.rate
  pub fits : o.rate ≤ rate_limit
  pub shows : ShowsAction t (ls i) o y.action

module _ {t roots scopes : List ℕ} {zs : List ℤ} {rs : List Row} {m : Resolved.Model} {s : State} (ready : Ready t roots scopes zs rs m s) (k i j : ℕ) (o : Offer) (pi : i ≡ place_in (row_at rs k).head)
    (pj : j ≡ branch_in (row_at rs k).head) (po : o ≡ offer_in (row_at rs k)) where
  pub acts : (y : Slot) → get_elem? (slots_of m 0 s.processes) k ≡ some y → Acts t (locals_of s.processes) y i j o
  unfolding offer_in
  acts y at =
      let sh = ready.holds.shown k y at in
      let r : o.rate ≡ y.rate = ap (λ (x : Offer). x.rate) po ∙ sh.rate-is in
      record {
        place-is = pi ∙ sh.place_is;
        branch-is = pj ∙ sh.branch-is;
        rate-is = r;
        fits = omega (arith, r, sh.rate-fits);
        shows = rate-act t (locals_of s.processes) i o _ _ y.action (pi ∙ sh.place_is) po sh.shows;
      }

  pub some-acts : k < length rs → (y : Slot) × Acts t (locals_of s.processes) y i j o × (i < process_count zs)
  some-acts l = let q = some-row ready k l in (q.0, acts q.0 q.1, omega (arith, row-place ready k q.0 q.1))

-- ---- what was collected
pub answered-rows : {t roots scopes : List ℕ} {zs : List ℤ} {m : Resolved.Model} {s : State} {rs : List Row} {n : ℕ} → World t roots scopes zs m s
    → Answers t rs m s.processes (Ok n) → Ready t roots scopes zs (take n rs) m s × (missing m 0 s.processes ≡ none) × (n ≤ length rs)
answered-rows {rs = rs} w (Collect.Answers.all e h l) =
    (record { world = w; holds = holds-first _ _ rs _ _ refl h; rows_are = length-take-le _ rs l }, e, l)

-- 12, or too few rows
pub answered_none : {t : List ℕ} {rs : List Row} {e : Stop} (m : Resolved.Model) (s : State) (b : List ℕ) (n : ℕ) (x : listing.Stop) → x ≡ of_offers e → Answers t rs m s.processes (Err e) → length rs ≡ n
    → TriesOver n (machine.listing m s) b (Err x)
answered_none m s b n x q (Collect.Answers.lacks {i} {j} e) l = as-led n (Err (refusal.Missing i j)) _ (ap Err q) (refused (machine.listing m s) b (refusal.Missing i j) (lacking m s i j e))
answered_none m s b n x q (Collect.Answers.full h) l = short (ap Err q) (omega (arith, l))
