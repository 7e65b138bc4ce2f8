-- What a timed step leaves. By cases of questions 15 to 19 and 23 to 25.
use mathlib.Core.Path.{◌≡◌, refl, sym, ap, ◌∙◌}
use mathlib.Core.List.{List}
use mathlib.Core.Bool.{Bool, true, false, cond}
use mathlib.Core.Option.{none, some, Option-elim}
use Prim.Native.Nat.{ℕ, ◌-◌, ◌<◌}
use native.Mathlib.Omega.{arith}
use borrow.Author.Tests.{ne_eqb}
use lib.Dec.{leb}
use lib.IntN.{ℤ}
use lib.ListN.{length, get_elem?, take, drop, length-drop}
use lib.Seq.{take_all}
use Rattle.std.specs.Prelude.{None, Some, Err, Ok, is_ok}
use Rattle.clock.specs.declared.Clock.{Clock}
use Rattle.clock.specs.declared.Late.{Late}
use Rattle.clock.specs.Clock.{Brought, brought_by}
use Rattle.model.specs.Resolved
use Rattle.rules.specs.Rules.{Key}
use Rattle.rules.specs.Listing.{Entry, key_of}
use Rattle.rules.specs.Draw.{weights, total, chosen}
use Rattle.machine.specs.State.{State, state_numbers}
use Rattle.machine.specs.Machine.{listed_as, refusing, accepting, entry_arguments, entry_state, taken, drawn, refused_as, with_wait, steps_in}
use Rattle.listing.specs.Buffer.{weights_in, chosen_answer, Chosen}
use Rattle.step.specs.declared.Refusal as step
use Rattle.step.specs.declared.Refusal.TheVariants.{Arguments, Processes, Pairs}
use Rattle.step.specs.Enter.{verdict, state_of, Answers, Taken}
use Rattle.step.specs.Entries.{Counted}
use Rattle.step.proofs.Rows.{chose, chose_none}
use Rattle.running.specs.declared.Refusal.TheVariants.{Draw, Step}
use Rattle.running.specs.Taking.{Stepped, stepped_by, StepsTo}

-- ---- the rest of a slice
pub rest_of : (n : ℕ) (xs : List ℕ) → take (length xs - n) (drop n xs) ≡ drop n xs
rest_of n xs = take_all (length xs - n) (drop n xs) (omega (arith, length-drop n xs))

-- ---- what a timed step leaves
module _ (s s' : State) (es : List Entry) (c : ℕ) (k : Clock) (ds : List ℕ) where
  abbrev b : Brought
  b = brought_by k ds (total (weights es))

  -- 17, 18, 19 answered so, and 23 to 25
  steps-by : (x y z : Bool) (w : Brought) (zs : List ℤ) → b ≡ w
      → let v : Taken = cond x (cond y (cond z (Ok tt) (Err Pairs)) (Err Processes)) (Err Arguments) in
      let t = cond x (cond y (cond z (accepting s' es c) (refusing s es 19)) (refusing s es 18)) (refusing s es 17) in
      zs ≡ state_numbers (cond (is_ok w) (state_of v s s') s) → StepsTo (steps_in k ds s t) k (stepped_by v c b) zs
  unfolding steps_in with_wait stepped_by listed_as refused_as state_of
  steps-by true true true (Ok n) zs e f = rw e (record { number = refl; chosen = refl; clock = refl; state = f })
  steps-by true true true (Err l) zs e f = rw e (record { number = refl; chosen = refl; clock = refl; state = f })
  steps-by true true false (Ok n) zs e f = record { number = refl; chosen = refl; clock = refl; state = f }
  steps-by true true false (Err l) zs e f = record { number = refl; chosen = refl; clock = refl; state = f }
  steps-by true false z (Ok n) zs e f = record { number = refl; chosen = refl; clock = refl; state = f }
  steps-by true false z (Err l) zs e f = record { number = refl; chosen = refl; clock = refl; state = f }
  steps-by false y z (Ok n) zs e f = record { number = refl; chosen = refl; clock = refl; state = f }
  steps-by false y z (Err l) zs e f = record { number = refl; chosen = refl; clock = refl; state = f }

module _ (m : Resolved.Model) (s : State) (es : List Entry) (c : ℕ) (i : Key) (k : Clock) (ds : List ℕ) where
  abbrev B : Brought
  B = brought_by k ds (total (weights es))

  ruled : Taken
  ruled = verdict (entry_arguments m s i) (entry_state m s i)

  steps : (w : Brought) (zs : List ℤ) → B ≡ w → zs ≡ state_numbers (cond (is_ok w) (state_of ruled s (entry_state m s i)) s) → StepsTo (steps_in k ds s (taken m s es c i)) k (stepped_by ruled c B) zs
  unfolding ruled taken verdict
  steps w zs e f = steps-by s (entry_state m s i) es c k ds (entry_arguments m s i) (leb (length (entry_state m s i).processes) 256) (leb (length (entry_state m s i).pairs) 256) w zs e f

  module _ (b : Brought) (sum : ℕ) (v : Taken) (zs : List ℤ) (q : b ≡ brought_by k ds sum) (p : sum ≡ total (weights es)) where
    is-B : b ≡ B
    is-B = q ∙ ap (λ (n : ℕ). brought_by k ds n) p

    -- the wait is accepted, and the entry taken or not
    pub waited : (n : Clock) (w : Taken) → b ≡ Ok n → v ≡ w → Answers (entry_arguments m s i) s (entry_state m s i) v zs → StepsTo (steps_in k ds s (taken m s es c i)) k (stepped_by w c (Ok n)) zs
    unfolding ruled
    waited n w z u a =
        rw (← u, ← z, a.is, is-B) (steps (Ok n) zs (sym is-B ∙ z) (a.numbers ∙ ap (λ (x : Taken). state_numbers (state_of x s (entry_state m s i))) a.is))

    -- the wait is refused, if the entry isn't
    pub unwaited : (l : Late) (w : Taken) → b ≡ Err l → v ≡ w → v ≡ verdict (entry_arguments m s i) (entry_state m s i) → zs ≡ state_numbers s → StepsTo (steps_in k ds s (taken m s es c i)) k (stepped_by w c (Err l)) zs
    unfolding ruled
    unwaited l w z u a h = rw (← u, ← z, a, is-B) (steps (Err l) zs (sym is-B ∙ z) h)

  -- the entry is refused, whatever the waiting draws come to
  module _ (v : Taken) (r : step.Refusal) (zs : List ℤ) (u : v ≡ Err r) (a : Answers (entry_arguments m s i) s (entry_state m s i) v zs) where
    refused-by : (w : Brought) → B ≡ w → StepsTo (steps_in k ds s (taken m s es c i)) k (Err (Step r)) zs
    unfolding stepped_by state_of
    refused-by (Ok n) z = waited B (total (weights es)) v zs refl refl n (Err r) z u a
    refused-by (Err l) z = unwaited B (total (weights es)) v zs refl refl l (Err r) z u a.is (rw u at a.numbers)

    pub refused : StepsTo (steps_in k ds s (taken m s es c i)) k (Err (Step r)) zs
    refused = refused-by B refl

-- ---- 16, and the entry that the draw chooses
module _ {t roots scopes : List ℕ} {root variables : ℕ} {zs : List ℤ} {l : List ℕ} {count sum : ℕ} {m : Resolved.Model} {s : State} {es : List Entry} (h : Counted t roots scopes root variables zs l count sum m s es) (above : 0 < sum) (k : Clock) (ds : List ℕ) (d : ℕ) where
  some-total : total (weights es) ≡ 0 → ⊥
  some-total e = omega (arith, h.sum_is)

  pub none-chosen : (r : Chosen) → r ≡ chosen_answer (chosen (weights_in l count) d) → r ≡ None → StepsTo (steps_in k ds s (drawn m s es d)) k (Err Draw) zs
  unfolding drawn Option-elim steps_in listed_as
  none-chosen r q g =
      let p : chosen (weights es) d ≡ none = chose_none h r d q g in
      rw (ne_eqb (total (weights es)) 0 some-total, p) (record { number = refl; chosen = refl; clock = refl; state = h.listing.lent.stands.numbers })

  pub entry-chosen : (r : Chosen) (c : ℕ) (e : Entry) (x : Stepped) (ys : List ℤ) → r ≡ chosen_answer (chosen (weights_in l count) d) → r ≡ Some c → get_elem? es c ≡ some e
      → StepsTo (steps_in k ds s (taken m s es c (key_of e))) k x ys → StepsTo (steps_in k ds s (drawn m s es d)) k x ys
  entry-chosen r c e x ys q g a b =
      let p : drawn m s es d ≡ taken m s es c (key_of e) = unfold drawn Option-elim in rw (ne_eqb (total (weights es)) 0 some-total, chose h r d q c g, a) refl in
      rw p b
