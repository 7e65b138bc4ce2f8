-- The entry that a draw takes from the listing buffer, and what a step leaves, as the effect of the call says. By cases of the listing's answer and of the questions 15 to 19.
use mathlib.Core.Path.{◌≡◌, refl, sym, ap, ◌∙◌}
use mathlib.Core.List.{List}
use mathlib.Core.Bool.{Bool, true, false, cond}
use mathlib.Core.Option.{Option, none, some, Option-elim}
use Prim.Native.Nat.{ℕ, ◌-◌, ◌*◌}
use native.Mathlib.Omega.{arith}
use borrow.Author.Tests.{eq-eqb, ne_eqb}
use lib.Dec.{eqb, leb}
use lib.IntN.{ℤ}
use lib.ListN.{length, get_elem?, replicate}
use Rattle.std.specs.Prelude.{Result, Err, Ok, None, Some}
use Rattle.model.specs.Resolved
use Rattle.rules.specs.Rules.{Key}
use Rattle.rules.specs.Listing.{Entry, key_of}
use Rattle.rules.specs.Draw.{weights, total, chosen}
use Rattle.machine.specs.State.{State, state_numbers}
use Rattle.machine.specs.Machine as machine
use Rattle.machine.specs.Machine.{listing_length, total_limit, no, listed_as, Listed, entries_are, refused_with, Turn, refusing, accepting, entry_arguments, entry_state, taken, drawn, turn, choosing, steps_with, on_state, step', acts, two_parts, on_machine}
use Rattle.listing.specs.Buffer.{rows, entry_in, filled_numbers, Answers as Tells, weights_in, chosen_answer, Outcome, Chosen}
use Rattle.listing.specs.Buffer as buffer
use Rattle.step.specs.declared.Refusal.TheVariants.{Arguments, Processes, Pairs}
use Rattle.step.specs.Enter.{verdict, refusal_number, Answers, Taken}
use Rattle.step.specs.Entries.{Counted, Row}
use Rattle.step.proofs.Rows.{chose, chose_none}
use Rattle.step.proofs.Answered.{taken-state}
use Rattle.buffers.specs.Listing.{shown}
use Rattle.buffers.specs.Parts.{lent_two}
use Rattle.buffers.specs.Effect.{machine_over, leaves, requested}
use Rattle.engine.specs.declared.Answer.{Answer}
use Rattle.engine.specs.declared.Told.{Told}
use Rattle.engine.specs.declared.Refusal.{Refusal}
use Rattle.engine.specs.declared.Refusal.TheVariants.{NotHeld, Listing}
use Rattle.engine.specs.Gives.{Gives, filled, refusal_answer}
use Rattle.store.specs.Tables.{Tables, Whole}
use Rattle.engine.specs.Tables.{told_by, Finds, closed, holding}
use Rattle.engine.specs.Steps.{Left}
use Rattle.store.proofs.Tables.{left-two}
use Rattle.engine.proofs.Shows.{filled-numbers, Refuses, entries as entries_of, refuses, listing-is, eleven-gives}

-- what was told
pub told_is : {t u : Told} → ◌≡◌ {A = Result Told Refusal} (Ok t) (Ok u) → t ≡ u
told_is e = cc e

-- 01, Listing and stepping: acceptance, with the entry that was taken, or 17 to 19
abbrev pub taken_answer : Taken → (count sum chosen : ℕ) → Answer
taken_answer (Ok u) count sum chosen = filled 0 count sum chosen
taken_answer (Err r) count sum chosen = filled (refusal_number r) count sum 0

-- ---- 15, 16 and the entry that the draw chooses
module _ (m : Resolved.Model) (s : State) (es : List Entry) (d : ℕ) where
  pub draw-15 : total (weights es) ≡ 0 → drawn m s es d ≡ refusing s es 15
  unfolding drawn
  draw-15 e = rw (eq-eqb (total (weights es)) 0 e)

  draw-16 : (total (weights es) ≡ 0 → ⊥) → chosen (weights es) d ≡ none → drawn m s es d ≡ refusing s es 16
  unfolding drawn Option-elim
  draw-16 n e = rw (ne_eqb (total (weights es)) 0 n, e)

  draw-entry : (total (weights es) ≡ 0 → ⊥) → (c : ℕ) (e : Entry) → chosen (weights es) d ≡ some c → get_elem? es c ≡ some e → drawn m s es d ≡ taken m s es c (key_of e)
  unfolding drawn Option-elim
  draw-entry n c e q g = rw (ne_eqb (total (weights es)) 0 n, q, g)

refusing-left : (s : State) (es : List Entry) (n : ℕ) (zs : List ℤ) → zs ≡ state_numbers s → Left (refusing s es n) (filled n (length es) (total (weights es)) 0) zs
unfolding listed_as
refusing-left s es n zs e = record { answer = refl; state = e }

asked : (a b d : Bool) (s s' : State) (es : List Entry) (c : ℕ)
    → let t = cond a (cond b (cond d (accepting s' es c) (refusing s es 19)) (refusing s es 18)) (refusing s es 17) in
    let r = cond {A = Taken} a (cond b (cond d (Ok tt) (Err Pairs)) (Err Processes)) (Err Arguments) in
    taken_answer r (length es) (total (weights es)) c ≡ filled t.answer.number t.answer.count t.answer.total t.answer.chosen
unfolding listed_as
asked true true true s s' es c = refl
asked true true false s s' es c = refl
asked true false d s s' es c = refl
asked false b d s s' es c = refl

taken-said : (m : Resolved.Model) (s : State) (es : List Entry) (c : ℕ) (k : Key) → let t = taken m s es c k in
    taken_answer (verdict (entry_arguments m s k) (entry_state m s k)) (length es) (total (weights es)) c ≡ filled t.answer.number t.answer.count t.answer.total t.answer.chosen
unfolding taken verdict
taken-said m s es c k = asked (entry_arguments m s k) (leb (length (entry_state m s k).processes) 256) (leb (length (entry_state m s k).pairs) 256) s (entry_state m s k) es c

taken-left : (m : Resolved.Model) (s : State) (es : List Entry) (c : ℕ) (k : Key) (r : Taken) (zs : List ℤ)
    → Answers (entry_arguments m s k) s (entry_state m s k) r zs → Left (taken m s es c k) (taken_answer r (length es) (total (weights es)) c) zs
taken-left m s es c k r zs h = record { answer = ap (λ (x : Taken). taken_answer x (length es) (total (weights es)) c) h.is ∙ taken-said m s es c k; state = taken-state m s es c k r zs h }

module _ {t roots scopes : List ℕ} {root variables : ℕ} {zs : List ℤ} {l : List ℕ} {count sum : ℕ} {m : Resolved.Model} {s : State} {es : List Entry} (h : Counted t roots scopes root variables zs l count sum m s es) where
  pub left-15 : (d : ℕ) → sum ≡ 0 → Left (drawn m s es d) (filled 15 count sum 0) zs
  left-15 d e = rw (draw-15 m s es d (sym h.sum_is ∙ e), h.count-is, h.sum_is) (refusing-left s es 15 zs h.listing.lent.stands.numbers)

  pub left-16 : (d : ℕ) (r : Chosen) → (sum ≡ 0 → ⊥) → r ≡ chosen_answer (chosen (weights_in l count) d) → r ≡ None → Left (drawn m s es d) (filled 16 count sum 0) zs
  left-16 d r n q g =
      let p : chosen (weights es) d ≡ none = chose_none h r d q g in
      rw (draw-16 m s es d (λ e. n (h.sum_is ∙ e)) p, h.count-is, h.sum_is) (refusing-left s es 16 zs h.listing.lent.stands.numbers)

  pub left-taken : (d c : ℕ) (e : Entry) (r : Chosen) (x : Taken) (ys : List ℤ) → (sum ≡ 0 → ⊥) → r ≡ chosen_answer (chosen (weights_in l count) d) → r ≡ Some c → Row t roots scopes root variables zs l c m s es e
      → Answers (entry_arguments m s (key_of e)) s (entry_state m s (key_of e)) x ys → Left (drawn m s es d) (taken_answer x count sum c) ys
  left-taken d c e r x ys n q g k a =
      let p : chosen (weights es) d ≡ some c = chose h r d q c g in
      rw (draw-entry m s es d (λ z. n (h.sum_is ∙ z)) c e p k.at, h.count-is, h.sum_is) (taken-left m s es c (key_of e) x ys a)

-- ---- what a step gives

-- 01, Listing and stepping: 15 to 19 and acceptance carry no place, and leave the listing filled
record Fills (es : List Entry) (t : Turn State) : Type 0 where
  place : t.answer.place ≡ 0
  branch : t.answer.branch ≡ 0
  listing : t.answer.listing ≡ machine.filled es

listed-fills : (s : State) (es : List Entry) (n c : ℕ) → Fills es (record { machine = s; answer = listed_as n c es })
unfolding listed_as
listed-fills s es n c = record { place = refl; branch = refl; listing = refl }

taken-fills : (m : Resolved.Model) (s : State) (es : List Entry) (c : ℕ) (k : Key) → Fills es (taken m s es c k)
unfolding taken
taken-fills m s es c k = go (entry_arguments m s k) (leb (length (entry_state m s k).processes) 256) (leb (length (entry_state m s k).pairs) 256)
  where
    go : (a b d : Bool) → Fills es (cond a (cond b (cond d (accepting (entry_state m s k) es c) (refusing s es 19)) (refusing s es 18)) (refusing s es 17))
    go true true true = listed-fills (entry_state m s k) es 0 c
    go true true false = listed-fills s es 19 0
    go true false d = listed-fills s es 18 0
    go false b d = listed-fills s es 17 0

drawn-fills : (m : Resolved.Model) (s : State) (es : List Entry) (d : ℕ) → Fills es (drawn m s es d)
unfolding drawn Option-elim
drawn-fills m s es d = go (eqb (total (weights es)) 0) (chosen (weights es) d)
  where
    at : (c : ℕ) (o : Option Entry) → Fills es (Option-elim o (refusing s es 16) (λ e. taken m s es c (key_of e)))
    at c none = listed-fills s es 16 0
    at c (some e) = taken-fills m s es c (key_of e)

    go : (b : Bool) (o : Option ℕ) → Fills es (cond b (refusing s es 15) (Option-elim o (refusing s es 16) (λ c. Option-elim (get_elem? es c) (refusing s es 16) (λ e. taken m s es c (key_of e)))))
    go true o = listed-fills s es 15 0
    go false none = listed-fills s es 16 0
    go false (some c) = at c (get_elem? es c)

module _ (bs : List ℕ) (zs : List ℤ) (l : List ℕ) (d : ℕ) where
  turn-gives : (m : Resolved.Model) (es : List Entry) (t : Turn State) (r : Answer) (ys : List ℤ) (b : List ℕ) → Fills es t → Left t r ys → b ≡ filled_numbers es
      → Gives (leaves two_parts (lent_two bs zs) l (turn (machine.holding (machine.held m t.machine)) t.answer)) r (lent_two bs ys) b
  unfolding leaves shown
  turn-gives m es t r ys b f h e = rw h.answer (record {
    number = refl;
    place = sym f.place;
    branch = sym f.branch;
    count = refl;
    total = refl;
    chosen = refl;
    buffers = left-two bs zs ys m t.machine h.state;
    output = e ∙ filled-numbers es ∙ ap (λ (x : machine.Shown). shown x l) (sym f.listing);
  })

  -- 01, 12 to 14: zero the listing
  choosing-gives : length l ≡ listing_length → (m : Resolved.Model) (s : State) {x : Listed} → Refuses x → state_numbers s ≡ zs → (r : Refusal) (y : Outcome) (b : List ℕ) → Err r ≡ told_by y → Tells x y → b ≡ buffer.listing_numbers x
      → Gives (leaves two_parts (lent_two bs zs) l (turn (machine.holding (machine.held m (choosing m s d x).machine)) (choosing m s d x).answer)) (refusal_answer r) (lent_two bs zs) b
  unfolding leaves choosing no shown buffer.listing_numbers
  choosing-gives long m s entries_of e r y b q (buffer.Answers.counts n t) f = let z : ◌≡◌ {A = ℕ} 0 1 = cc in absurd (omega arith)
  choosing-gives long m s (refuses i j k) e r y b q (buffer.Answers.refuses {r = w} a) f =
      let p : r ≡ Listing w = cc q in
      rw p (record { number = a.number; place = a.place; branch = a.branch; count = refl; total = refl; chosen = refl; buffers = left-two bs zs zs m s (sym e); output = f ∙ ap (λ (i : ℕ). replicate i 0) (sym long) })

  pub refused-gives : length l ≡ listing_length → (m : Resolved.Model) (r : Refusal) (b : List ℕ) → Finds m zs l (Err r) b → Gives (requested (step' d) (lent_two bs zs) l (some m)) (refusal_answer r) (lent_two bs zs) b
  unfolding requested on_machine acts on_state steps_with
  refused-gives long m r b (closed e q f) =
      let p : r ≡ NotHeld = cc q in
      rw (e bs, p, f) (eleven-gives (step' d) (lent_two bs zs) l)
  refused-gives long m r b (holding {s} {x} e g z q h) = rw (e bs) (choosing-gives long m s (listing-is m s) (sym z) r x b q h.answer h.numbers)

-- ---- a listing that is found
pub record Found (t roots scopes : List ℕ) (root variables : ℕ) (zs : List ℤ) (b : List ℕ) (count sum : ℕ) (m : Resolved.Model) : Type 0 where
  pub state : State
  pub entries : List Entry
  pub holds : (bs : List ℕ) → machine_over two_parts (lent_two bs zs) (some m) ≡ machine.holding (machine.held m state)
  pub counted : Counted t roots scopes root variables zs b count sum m state entries
  pub filled : b ≡ filled_numbers entries

module _ (t roots scopes : List ℕ) (root variables sums channels : ℕ) (m : Resolved.Model) (w : Whole t roots scopes root variables sums channels m) where
  pub tables-of : Tables t roots scopes sums channels m
  tables-of = record { root = root; variables = variables; definitions = w.definitions; represents = w.represents; good = w.good }

  pub found : (zs : List ℤ) (l : List ℕ) (y : Told) (b : List ℕ) → Finds m zs l (Ok y) b → Found t roots scopes root variables zs b y.listed.count y.listed.total m
  unfolding buffer.listing_numbers filled_numbers
  found zs l y b (closed e q f) = let z : ◌≡◌ {A = ℕ} 0 1 = cc in absurd (omega arith)
  found zs l y b (holding {s} {x} e g z q h) = go (machine.listing m s) refl h.numbers x h.answer q
    where
      go : (v : Listed) → machine.listing m s ≡ v → b ≡ buffer.listing_numbers v → (x : Outcome) → Tells v x → Ok y ≡ told_by x → Found t roots scopes root variables zs b y.listed.count y.listed.total m
      go (refused_with a) q f x (buffer.Answers.refuses d) k = let z : ◌≡◌ {A = ℕ} 0 1 = cc in absurd (omega arith)
      go (entries_are es) q f x (buffer.Answers.counts n u) k = record {
        state = s;
        entries = es;
        holds = e;
        counted = record {
          listing = record {
            lent = record { definitions = w.definitions; sums = sums; channels = channels; represents = w.represents; stands = record { good = w.good; state = g; numbers = z } };
            listed = q;
            rest = replicate (listing_length - length es * 7) 0;
            numbers = f;
          };
          count-is = ap (λ (t : Told). t.listed.count) (told_is k) ∙ n;
          sum_is = ap (λ (t : Told). t.listed.total) (told_is k) ∙ u;
        };
        filled = f;
      }

pub found-gives : (bs : List ℕ) {t roots scopes : List ℕ} {root variables : ℕ} {zs : List ℤ} {b : List ℕ} {count sum : ℕ} {m : Resolved.Model} (l : List ℕ) (d : ℕ) (f : Found t roots scopes root variables zs b count sum m) (r : Answer) (ys : List ℤ)
    → Left (drawn m f.state f.entries d) r ys → Gives (requested (step' d) (lent_two bs zs) l (some m)) r (lent_two bs ys) b
unfolding requested on_machine acts on_state steps_with choosing
found-gives bs {zs = zs} {b = b} {m = m} l d f r ys h = rw (f.holds bs, f.counted.listing.listed) (turn-gives bs zs l d m f.entries (drawn m f.state f.entries d) r ys b (drawn-fills m f.state f.entries d) h f.filled)
