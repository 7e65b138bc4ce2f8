-- Over every state that calls reach, two entries that share no process, neither a launch nor a kill, lead to the same state in either order where both orders are accepted (02,
-- note 14): an accepted step is the entry's own move, and the rules' moves commute.
use mathlib.Core.Path.{◌≡◌, refl, sym, ap, ◌∙◌}
use mathlib.Core.Bool.{true}
use mathlib.Core.List.{List, Memᴰ as In}
use Prim.Native.Nat.{ℕ, ◌<◌}
use native.Mathlib.Omega.{arith}
use Rattle.model.specs.Resolved
use Rattle.rules.specs.Rules.{Nth, Key}
use Rattle.rules.specs.Listing.{Entry, entry, key_of, weight_of, entries}
use Rattle.rules.specs.Carried.{Apart, Quiet, carried}
use Rattle.rules.specs.Independent.{is_independent}
use Rattle.rules.proofs.Once.{nth_in, same-nth}
use Rattle.rules.proofs.Chosen.{chooses-first}
use Rattle.rules.proofs.Draws.{drawn-above}
use Rattle.rules.proofs.Moved.{steps-state}
use Rattle.rules.proofs.Independent.{commutes}
use Rattle.rules.proofs.Judged.{independent-exactly}
use Rattle.machine.specs.Offer.{branches}
use Rattle.machine.specs.State.{State}
use Rattle.machine.specs.Machine.{Shown, as_lent, zeroed, filled, reported, happened, no, listed_as, Listed, entries_are, listing, entry_state, Turn, turn, drawn, choosing, steps_with, Held, moved, Machine, closed, holding, on_state, step', acts, on_machine, Call, after}
use Rattle.machine.specs.Questions.{IsListing, Lists, no12, no13, no14, yes14, Steps, no15, no16, no17, no18, no19, yes19}
use Rattle.machine.specs.Independent.{Takes}
use Rattle.machine.proofs.Listing.{asked, accepted}
use Rattle.machine.proofs.OneListing.{one-listing}
use Rattle.machine.proofs.Stepping as stepping

-- the entries that a listing shows
abbrev shown_in : Shown → List Entry → List Entry
shown_in as_lent es = es
shown_in zeroed es = es
shown_in (filled es) ds = es
shown_in (reported ns) es = es
shown_in (happened ds) es = es

-- all that is held, once the entry with key k is taken: the state is the one that it stands for
abbrev pub after-entry : Held → Key → Held
after-entry h k = moved h (entry_state h.model h.state k)

-- what an accepted step says
record Taken (h : Held) (k : Key) (w : ℕ) (y : Machine) : Type 0 where
  listed : In (entry k w) (entries (branches h.model) h.state)
  above : 0 < w
  leads : y ≡ holding (after-entry h k)

-- a turn of the state, as the machine's
abbrev lifted : Held → Turn State → Turn Machine
lifted h t = turn (holding (moved h t.machine)) t.answer

module _ (held : Held) (d : ℕ) (y : Machine) (c : ℕ) (es : List Entry) where
  abbrev m : Resolved.Model
  m = held.model

  abbrev s : State
  s = held.state

  not-number : {t : Turn Machine} {n : ℕ} {B : Type 0} → t.answer.number ≡ n → 0 < n → t ≡ turn y (listed_as 0 c es) → B
  unfolding listed_as
  not-number e l q = let z = sym e ∙ ap (λ (t : Turn Machine). t.answer.number) q in absurd (omega arith)

  taken_step : {t : Turn State} {ds : List Entry} {k : Key} {w : ℕ} → IsListing m s ds → Steps m s ds d t → lifted held t ≡ turn y (listed_as 0 c es) → Nth es c (entry k w) → Taken held k w y
  unfolding listed_as entry_state key_of weight_of
  taken_step h (no15 e) q n = not-number refl (omega arith) q
  taken_step h (no16 l g) q n = not-number refl (omega arith) q
  taken_step h (no17 o g) q n = not-number refl (omega arith) q
  taken_step h (no18 r l) q n = not-number refl (omega arith) q
  taken_step h (no19 r l f) q n = not-number refl (omega arith) q
  taken_step {ds = ds} {k = k} {w = w} h (yes19 {c = c'} r l f) q n =
      let e : c' ≡ c = ap (λ (t : Turn Machine). t.answer.chosen) q in
      let e' : ds ≡ es = ap (λ (t : Turn Machine). shown_in t.answer.listing ds) q in
      let a : entry r.key r.weight ≡ entry k w = same-nth (rw (e, e') at r.chosen.entry) n in
      let a' : r.key ≡ k = ap key_of a in
      let o = one-listing m s ds h in
      record {
        listed = rw (← o, e') (nth_in n);
        above = rw (ap weight_of a) at (drawn-above d r.chosen.entry ((chooses-first _ _ _).1 r.chosen.first));
        leads = sym (ap (λ (t : Turn Machine). t.machine) q) ∙ ap (λ (z : State). holding (moved held z)) (sym (steps-state (branches m) s r.moves) ∙ ap (entry_state m s) a');
      }

  taken : {k : Key} {w : ℕ} → on_machine (step' d) (holding held) ≡ turn y (listed_as 0 c es) → Nth es c (entry k w) → Taken held k w y
  unfolding on_machine acts on_state steps_with choosing no
  taken {k} {w} q n = go ((asked m s (listing m s)).0 refl) q
    where
      go : {l : Listed} → Lists m s l → lifted held (choosing m s d l) ≡ turn y (listed_as 0 c es) → Taken held k w y
      go (no12 f) q = not-number refl (omega arith) q
      go (no13 e h l) q = not-number refl (omega arith) q
      go (no14 e h l f) q = not-number refl (omega arith) q
      go (yes14 {es = ds} e h l f) q = taken_step h ((stepping.asked m s ds h d (drawn m s ds d)).0 refl) q n

takes : {h : Held} {k : Key} {y : Machine} (t : Takes (holding h) k y) → Taken h k t.weight y
takes {h} {k} {y} t = taken h t.draw y t.number t.shown t.answered t.chosen

-- 02, note 14: what is taken is an entry of the state's listing, above weight zero, and leads to the state that the entry stands for; nothing else that is held moves
pub taken-listed : {h : Held} {k : Key} {y : Machine} (t : Takes (holding h) k y) → In (entry k t.weight) (entries (branches h.model) h.state)
taken-listed t = (takes t).listed

pub taken-above : {h : Held} {k : Key} {y : Machine} (t : Takes (holding h) k y) → 0 < t.weight
taken-above t = (takes t).above

pub taken-leads : {h : Held} {k : Key} {y : Machine} → Takes (holding h) k y → y ≡ holding (after-entry h k)
taken-leads t = (takes t).leads

module _ {h : Held} {k l : Key} (d : Apart k l) (q : Quiet k) (r : Quiet l) where
  -- 02, note 14: once the first is taken, the other is listed at its moved places with the same weight, wherever that listing is accepted
  pub other-listed : {x : Machine} {w : ℕ} {es : List Entry} → Takes (holding h) k x → In (entry l w) (entries (branches h.model) h.state) → listing h.model (entry_state h.model h.state k) ≡ entries_are es
      → In (entry (carried (branches h.model) h.state k l) w) es
  unfolding entry_state
  other-listed {w = w} {es = es} t i e =
      let g = (commutes (branches h.model) h.state k l t.weight w (takes t).listed i d q r).second-listed in
      let o = one-listing h.model (entry_state h.model h.state k) es ((accepted h.model (entry_state h.model h.state k) es).0 e).1 in
      rw o g

  -- 02, note 14: of every state over a model, so of every one that passes 11 (A106), whatever else is held: both orders lead to the same machine
  pub same_after : {x y x' y' : Machine} → Takes (holding h) k x → Takes (holding h) l y → Takes x (carried (branches h.model) h.state k l) x' → Takes y (carried (branches h.model) h.state l k) y' → x' ≡ y'
  unfolding entry_state
  same_after {x} {y} {x'} {y'} a b a' b' =
      let u = (takes a).leads in
      let v = (takes b).leads in
      let g = (commutes (branches h.model) h.state k l a.weight b.weight (takes a).listed (takes b).listed d q r).same in
      (takes {h = after-entry h k} (rw u at a')).leads ∙ ap (λ (z : State). holding (moved h z)) g ∙ sym (takes {h = after-entry h l} (rw v at b')).leads

-- 02, note 14: of every state over a model, so of every one that passes 11, from the test of the two entries
pub independent-entries : (h : Held) (e f : Entry) → is_independent e f ≡ true → {x y x' y' : Machine} → Takes (holding h) (key_of e) x → Takes (holding h) (key_of f) y
    → Takes x (carried (branches h.model) h.state (key_of e) (key_of f)) x' → Takes y (carried (branches h.model) h.state (key_of f) (key_of e)) y' → x' ≡ y'
independent-entries h e f t a b a' b' =
    let i = (independent-exactly e f).0 t in
    same_after i.apart i.quiet.0 i.quiet.1 a b a' b'

-- 02, note 14: over every state that calls reach
pub independent : (cs : List Call) (h : Held) → after closed cs ≡ holding h → {k l : Key} → Apart k l → Quiet k → Quiet l → {x y x' y' : Machine}
    → Takes (after closed cs) k x → Takes (after closed cs) l y → Takes x (carried (branches h.model) h.state k l) x' → Takes y (carried (branches h.model) h.state l k) y' → x' ≡ y'
independent cs h e d q r a b a' b' = same_after d q r (rw e at a) (rw e at b) a' b'
