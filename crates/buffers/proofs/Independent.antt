-- Two steps over any buffers that hold a state over a model leave the same numbers in either order (02, note 14): an accepted step leaves the numbers of the state that its entry
-- stands for, and the rules' moves commute.
use mathlib.Core.Path.{◌≡◌, refl, sym, ap, subst, ◌∙◌}
use mathlib.Core.List.Memᴰ
use mathlib.Core.List.{List, [], ◌∷◌, ◌++◌, map, Memᴰ as In}
use mathlib.Core.Logic.{⊎_elim}
use Prim.Native.Nat.{ℕ, suc, ◌*◌}
use native.Mathlib.Omega.{arith}
use lib.IntN.{ℤ}
use lib.ListN.{length}
use Rattle.model.specs.Resolved
use Rattle.model.specs.Good.{GoodModel}
use Rattle.rules.specs.Rules.{Nth, first, later, Key, key}
use Rattle.rules.specs.Listing.{Entry, entry, key_of, entries}
use Rattle.rules.specs.Carried.{Apart, Quiet, carried}
use Rattle.rules.proofs.Once.{nth_in}
use Rattle.rules.proofs.Moved.{steps-state}
use Rattle.rules.proofs.Independent.{commutes}
use Rattle.machine.specs.Offer.{branches}
use Rattle.machine.specs.State.{State, state_numbers, GoodState}
use Rattle.machine.specs.Machine.{entry_width, listing_length, no, listed_as, entry_state, Turn, Held, Machine, closed, holding, model, state, after}
use Rattle.machine.specs.Questions.{IsListing, no12, no13, no14, yes14, Steps, no15, no16, no17, no18, no19, yes19}
use Rattle.machine.proofs.OneListing.{one-listing}
use Rattle.machine.proofs.Numbers.{state-length}
use Rattle.machine.proofs.Stays.{step-good}
use Rattle.buffers.specs.Listing.{entry_numbers, entries_numbers, listing_numbers}
use Rattle.buffers.specs.Held.{held_in}
use Rattle.buffers.specs.Parts.{Engine, fresh, numbers_of, lent_two, with_state}
use Rattle.buffers.specs.Effect.{Effect}
use Rattle.buffers.specs.Answers as answers
use Rattle.buffers.specs.Answers.{ListsAs, StepsAs}
use Rattle.buffers.specs.Calls as calls
use Rattle.buffers.specs.Calls.{BufferCall, fed, engine_after, Holds}
use Rattle.buffers.specs.Independent.{listed, Passes, row_at, Takes, Shows}
use Rattle.buffers.proofs.Answers.{lists-as, steps-as}
use Rattle.buffers.proofs.Every.{engine-long, every-list}
use Rattle.buffers.proofs.Machines.{over-model, machine-over}

-- ---- rows of a listing buffer

row_in : {es : List Entry} {c : ℕ} {e : Entry} (rest : List ℕ) → Nth es c e → row_at (entries_numbers es ++ rest) c ≡ entry_numbers e
unfolding row_at entries_numbers entry_numbers
row_in rest (first {x = entry (key c i j k m q) w} {xs = es}) = refl
row_in {c = suc n} rest (later {x = entry (key c i j k m q) w} {xs = es} h) =
    let e : suc n * entry_width ≡ suc (suc (suc (suc (suc (suc (suc (n * entry_width))))))) = omega arith in
    rw e (row_in rest h)

-- the row of an entry has its numbers
row-numbers : {es : List Entry} {c : ℕ} {e : Entry} → Nth es c e → row_at (listing_numbers es) c ≡ entry_numbers e
unfolding listing_numbers
row-numbers h = row_in _ h

same-entry : (e f : Entry) → entry_numbers e ≡ entry_numbers f → e ≡ f
unfolding entry_numbers
same-entry (entry (key c i j k m q) w) (entry (key c' i' j' k' m' q') w') e = cc

in-nth : (es : List Entry) {e : Entry} → In e es → (n : ℕ) × Nth es n e
in-nth [] h = absurd (Memᴰ.not-nil h)
in-nth (d ∷ es) h = ⊎_elim (λ q. (0, rw q first)) (λ g. let r = in-nth es g in (suc r.0, later r.1)) (Memᴰ.cases_cons h)

-- ---- an accepted step

module _ (m : Resolved.Model) (s : State) where
  -- what it says of the entry with key k and weight w, and of the state buffer that it leaves
  record Taken (k : Key) (w : ℕ) (left : List ℤ) : Type 0 where
    listed : In (entry k w) (entries (branches m) s)
    numbers : left ≡ state_numbers (entry_state m s k)
    state : GoodState m (entry_state m s k)

  module _ (good : GoodModel m) (g : GoodState m s) where
    drawn-taken : {es : List Entry} {d : ℕ} {t : Turn State} (k : Key) (w : ℕ) → IsListing m s es → Steps m s es d t → t.answer.number ≡ 0
        → row_at (listing_numbers es) t.answer.chosen ≡ entry_numbers (entry k w) → Taken k w (state_numbers t.machine)
    unfolding listed_as entry_state key_of
    drawn-taken k w h (no15 e) z r = absurd (omega arith)
    drawn-taken k w h (no16 l f) z r = absurd (omega arith)
    drawn-taken k w h (no17 o f) z r = absurd (omega arith)
    drawn-taken k w h (no18 o l) z r = absurd (omega arith)
    drawn-taken k w h (no19 o l f) z r = absurd (omega arith)
    drawn-taken {es} k w h (yes19 {c = c} {n = n} {ps = ps} o l f) z r =
        let e : entry o.key o.weight ≡ entry k w = same-entry _ _ (sym (row-numbers o.chosen.entry) ∙ r) in
        let a : o.key ≡ k = ap key_of e in
        let q = sym (steps-state (branches m) s o.moves) ∙ ap (entry_state m s) a in
        record {
          listed = rw (← one-listing m s es h, ← e) (nth_in o.chosen.entry);
          numbers = ap state_numbers q;
          state = subst (GoodState m) q (step-good m good s g o l f);
        }

    step-taken : {x : Engine} {l : List ℕ} {d : ℕ} {e : Effect} (k : Key) (w : ℕ) → StepsAs m s x l d e → e.answer.number ≡ 0
        → row_at e.output e.answer.chosen ≡ entry_numbers (entry k w) → Taken k w (e.left state)
    unfolding no with_state
    step-taken k w (answers.StepsAs.no14 (no12 f)) z r = absurd (omega arith)
    step-taken k w (answers.StepsAs.no14 (no13 e h l)) z r = absurd (omega arith)
    step-taken k w (answers.StepsAs.no14 (no14 e h l f)) z r = absurd (omega arith)
    step-taken k w (answers.StepsAs.drawn (yes14 e h l f) t) z r = drawn-taken k w h t z r

  -- 01, Listing: an accepted listing has a row for every entry
  list-shows : {y : Engine} {l : List ℕ} {e : Effect} {x : Entry} → ListsAs m s y l e → e.answer.number ≡ 0 → In x (entries (branches m) s)
      → (n : ℕ) × (row_at e.output n ≡ entry_numbers x)
  unfolding no
  list-shows (answers.ListsAs.no14 (no12 f)) z i = absurd (omega arith)
  list-shows (answers.ListsAs.no14 (no13 e h l)) z i = absurd (omega arith)
  list-shows (answers.ListsAs.no14 (no14 e h l f)) z i = absurd (omega arith)
  list-shows (answers.ListsAs.yes14 {es = es} (yes14 e h l f)) z i =
      let r = in-nth es (rw (← one-listing m s es h) at i) in
      (r.0, row-numbers r.1)

-- ---- both orders

module _ {bs : List ℕ} {zs : List ℤ} {m : Resolved.Model} {s : State} (h : Passes bs zs m s) where
  takes : {left : List ℤ} {k : Key} (t : Takes bs zs k left) → Taken m s k t.weight left
  unfolding lent_two
  takes {k = k} t =
      let o = machine-over (lent_two bs zs) m s h.state-long h.holds in
      subst (Taken m s k t.weight) t.leaves
      (step-taken m s o.good o.state k t.weight (steps-as (lent_two bs zs) t.listing h.model-long h.state-long m s h.holds t.long t.draw) t.accepted t.chosen)

  -- what is left holds the state that the entry stands for
  next : {left : List ℤ} {k : Key} → Takes bs zs k left → Passes bs left m (entry_state m s k)
  unfolding lent_two
  next {left} {k} t =
      let o = machine-over (lent_two bs zs) m s h.state-long h.holds in
      let u = takes t in
      let long = ap length u.numbers ∙ state-length m o.good (entry_state m s k) u.state in
      record { model-long = h.model-long; state-long = long; holds = over-model (lent_two bs left) m (entry_state m s k) o.model u.numbers u.state }

module _ {bs : List ℕ} {zs : List ℤ} {m : Resolved.Model} {s : State} (h : Passes bs zs m s) {k l : Key} (d : Apart k l) (q : Quiet k) (r : Quiet l) {x y : List ℤ} (a : Takes bs zs k x) (b : Takes bs zs l y) where
  -- 02, note 14: over any buffers that pass 11, the state buffers after the two lists of two steps are equal, number for number
  pub same_numbers : {x' y' : List ℤ} → Takes bs x (carried (branches m) s k l) x' → Takes bs y (carried (branches m) s l k) y' → x' ≡ y'
  unfolding entry_state
  same_numbers a' b' =
      let g = (commutes (branches m) s k l a.weight b.weight (takes h a).listed (takes h b).listed d q r).same in
      (takes (next h a) a').numbers ∙ ap state_numbers g ∙ sym (takes (next h b) b').numbers

  -- 02, note 14: the listing between, where it is accepted, has a row for the other entry, at its moved places and with its weight
  pub other-shown : (n : List ℕ) → length n ≡ listing_length → (listed bs x n).answer.number ≡ 0 → Shows bs x (carried (branches m) s k l) b.weight n
  unfolding entry_state lent_two
  other-shown n room z =
      let v = next h a in
      let g = (commutes (branches m) s k l a.weight b.weight (takes h a).listed (takes h b).listed d q r).second-listed in
      let i = list-shows m (entry_state m s k) (lists-as (lent_two bs x) n v.model-long v.state-long m (entry_state m s k) v.holds room) z g in
      record { number = i.0; row = i.1 }

-- 01, State: the model and state buffers of an engine that holds a model pass 11
held-passes : {x : Engine} {y : Machine} (h : Held) → Holds x y → y ≡ holding h → Passes (x model) (x state) h.model h.state
unfolding numbers_of lent_two
held-passes h (calls.Holds.zeros e) f = absurd (let z : ◌≡◌ {A = ℕ} 0 1 = cc in omega arith)
held-passes {x} h (calls.Holds.held {h = g} text e n good) f =
    let q : g ≡ h = cc in
    let o = calls.Holds.held text e n good in
    rw (← q) (record {
      model-long = engine-long o model;
      state-long = engine-long o state;
      holds = over-model (lent_two (x model) (x state)) g.model g.state (ap held_in (n model) ∙ e) (n state) good.state;
    })

-- 02, note 14: so do those that any list of calls leaves, where the machine holds a model
pub reached-passes : (cs : List BufferCall) (h : Held) → after closed (map fed cs) ≡ holding h → Passes (engine_after fresh cs model) (engine_after fresh cs state) h.model h.state
reached-passes cs h e = held-passes h (every-list cs).1 e

-- so over every list of calls
pub independent-buffers : (cs : List BufferCall) (h : Held) → after closed (map fed cs) ≡ holding h → {k l : Key} → Apart k l → Quiet k → Quiet l
    → {x y x' y' : List ℤ} → let e = engine_after fresh cs in
    Takes (e model) (e state) k x → Takes (e model) (e state) l y → Takes (e model) x (carried (branches h.model) h.state k l) x' → Takes (e model) y (carried (branches h.model) h.state l k) y' → x' ≡ y'
independent-buffers cs h e d q r a b a' b' = same_numbers (reached-passes cs h e) d q r a b a' b'
