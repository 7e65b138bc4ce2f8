-- What a save, a return and a forget give over buffers of right lengths: 11, or what the numbers say, which is what the rule machine's turn leaves.
use mathlib.Core.Path.{◌≡◌, refl, sym, ap, ap₂, ◌∙◌}
use mathlib.Core.Bool.{Bool, true, false, cond, ◌&&◌}
use mathlib.Core.List.{List, []}
use mathlib.Core.Option.{Option, none, some, Option-elim}
use Prim.Native.Nat.{ℕ}
use native.Mathlib.Omega.{arith}
use borrow.Author.Tests.{eq-eqb, ne_eqb}
use lib.Dec.{eqb, ltb}
use lib.IntN.{ℤ, pos}
use lib.ListN.{length, take, drop, replicate}
use lib.Seq.{take_at, drop_at}
use Rattle.clock.specs.declared.Clock.{Clock}
use Rattle.clock.specs.Clock.{fresh_clock, InRange, is_in_range}
use Rattle.clock.proofs.Bringing.{both-in}
use Rattle.value.proofs.Kit.{true-not-false, false-not-true}
use Rattle.model.specs.Resolved
use Rattle.machine.specs.State.{State, state_length, state_numbers}
use Rattle.machine.specs.Timed.{Timed, timed, GoodTimed}
use Rattle.machine.proofs.Numbers.{state-length}
use Rattle.machine.proofs.Saves.{returning-holds, StoredAnswers, accepts, refuses, returning-answers}
use Rattle.state.specs.Test.{at}
use Rattle.machine.specs.Saves.{is_name, Saves, save_limit, place_of, place_for, kept_under, place_width, timed_length, saves_length, Stored, stored, replaced, removed, saving, returning, forgetting}
use Rattle.machine.specs.Machine.{no, Held, held_all, Machine, closed, holding, on_saves, Request, save', return', forget', on', acts, Part, model, state, saves, clock, search, three_parts, four_parts, uses, is_lent, all_parts, on_machine}
use Rattle.state.specs.Fits.{scopes_of}
use Rattle.state.specs.Test.{is_state}
use Rattle.state.proofs.Over.{few-scopes}
use Rattle.saves.specs.Keys.{key_numbers}
use Rattle.saves.proofs.Clocks.{last-two}
use Rattle.saves.specs.Kept.{clock_place, besides, kept_numbers, is_natural, clock_at}
use Rattle.saves.specs.Places.{saves_numbers, is_saves}
use Rattle.std.specs.Prelude.{Result, Err}
use Rattle.saves.specs.declared.Refusal.{Refusal}
use Rattle.saves.specs.declared.Refusal.TheVariants.{NotAName, NotSaved, Full}
use Rattle.saves.specs.Change.{refusal_number, number_of, place_with, with_row, Written, written, saving_numbers, returning_numbers, forgetting_numbers, stored_numbers, Stores}
use Rattle.saves.proofs.Over.{saves-fit}
use Rattle.saves.proofs.Change.{saving-numbers, returning-numbers, forgetting-numbers}
use Rattle.buffers.specs.Held.{held_in}
use Rattle.buffers.specs.Parts.{Engine, clock_numbers, is_part, read_held, lent_three, lent_all, with_stored, with_kept}
use Rattle.buffers.specs.Effect.{machine_over, machine_in, leaves, requested, answered}
use Rattle.buffers.specs.Answers.{stores_as, keeps_as}
use Rattle.buffers.proofs.Clocks as clocks
use Rattle.buffers.proofs.Clocks.{clocked}
use Rattle.buffers.proofs.Four.{four-in, keeps}
use Rattle.buffers.proofs.Three.{InThree, nothing, all, in_three, Over, machine-over, tested, stores}
use Rattle.engine.specs.declared.Answer as result
use Rattle.engine.specs.declared.Timed as results
use Rattle.engine.specs.Gives.{Gives, bare, is_holding}
use Rattle.engine.specs.Waited.{Keeping, Returned}
use Rattle.store.specs.Tables.{Tables}
use Rattle.store.proofs.Tables.{scopes-are}
use Rattle.engine.proofs.Shows.{eleven-gives}

-- ---- question 11

pub no_text : (x : Engine) (o : Option Resolved.Model) → o ≡ none → is_holding (machine_over three_parts x o) ≡ false
unfolding machine_over is_holding
no_text x o e = ap (λ (o : Option Resolved.Model). is_holding (machine_over three_parts x o)) e

holding-test : (b : Bool) (h : Held) → b ≡ is_holding (cond b (holding h) closed)
unfolding is_holding
holding-test true h = refl
holding-test false h = refl

-- the tests over the tables of a model decide it
pub tables-hold : (t roots scopes : List ℕ) (sums channels : ℕ) (m : Resolved.Model) → Tables t roots scopes sums channels m → (bs : List ℕ) (zs ss : List ℤ)
    → (is_state (take sums scopes) channels zs && is_saves (take sums scopes) channels ss) ≡ is_holding (machine_over three_parts (lent_three bs zs ss) (some m))
unfolding lent_three
tables-hold t roots scopes sums channels m h bs zs ss =
    ap₂ (λ (a : List ℕ) (c : ℕ). is_state a c zs && is_saves a c ss) (scopes-are t roots scopes sums channels m h) h.represents.channels-are
    ∙ holding-test (is_state (scopes_of m) m.channels zs && is_saves (scopes_of m) m.channels ss) _
    ∙ sym (ap is_holding (tested (lent_three bs zs ss) m))

is-closed : (y : Machine) → is_holding y ≡ false → y ≡ closed
unfolding is_holding
is-closed closed e = refl
is-closed (holding h) e = true-not-false e

-- ---- what a forget gives

module _ (n : List ℕ) (bs : List ℕ) (zs ss : List ℤ) where
  asked-three : answered (on' (forget' n)) (lent_three bs zs ss) [] ≡ leaves three_parts (lent_three bs zs ss) [] (on_machine (forget' n) (machine_in three_parts (lent_three bs zs ss)))
  unfolding answered requested machine_in
  asked-three = refl

  -- 11 changes nothing
  pub unheld-gives : is_holding (machine_in three_parts (lent_three bs zs ss)) ≡ false → Gives (answered (on' (forget' n)) (lent_three bs zs ss) []) (bare 11 0 0) (lent_three bs zs ss) []
  unheld-gives e = rw (asked-three, is-closed _ e) (eleven-gives (forget' n) (lent_three bs zs ss) [])

-- a forget reads neither state nor clock, and leaves both
forget-numbers : (n : List ℕ) (ks zs ss : List ℤ)
    → ((forgetting_numbers n ks ss).number ≡ (forgetting_numbers n zs ss).number) × ((forgetting_numbers n ks ss).saves ≡ (forgetting_numbers n zs ss).saves) × ((forgetting_numbers n ks ss).kept ≡ ks)
unfolding forgetting_numbers
forget-numbers n ks zs ss = by (is_name n) (ltb (place_with (key_numbers n) ss) save_limit)
  where
    T : List ℤ → Bool → Bool → Written
    T ks b c = cond b (cond c (written 0 ks (with_row (place_with (key_numbers n) ss) (replicate place_width (pos 0)) ss)) (written 21 ks ss)) (written 20 ks ss)

    by : (b c : Bool) → ((T ks b c).number ≡ (T zs b c).number) × ((T ks b c).saves ≡ (T zs b c).saves) × ((T ks b c).kept ≡ ks)
    by true true = (refl, refl, refl)
    by true false = (refl, refl, refl)
    by false c = (refl, refl, refl)

forget-kept : (n : List ℕ) (t : Timed) (rs : Saves) → (forgetting n t rs).kept ≡ t
unfolding forgetting
forget-kept n t rs = by (is_name n) (ltb (place_of n rs) save_limit)
  where
    by : (b c : Bool) → (cond b (cond c (stored 0 t (removed n rs)) (stored 21 t rs)) (stored 20 t rs)).kept ≡ t
    by true true = refl
    by true false = refl
    by false c = refl

module _ (n : List ℕ) (bs : List ℕ) (zs ss : List ℤ) (long : length zs ≡ state_length) (wide : length ss ≡ saves_length) (e : is_holding (machine_in three_parts (lent_three bs zs ss)) ≡ true) (k : ℕ) (zs' ss' : List ℤ) where
  pub forget_gives : Stores (forgetting_numbers n zs ss) k zs' ss' → Gives (answered (on' (forget' n)) (lent_three bs zs ss) []) (bare k 0 0) (lent_three bs zs' ss') []
  unfolding is_holding lent_three acts
  forget_gives w = by (in_three (lent_three bs zs ss)) refl
    where
      given : (s : State) (rs : Saves) → forgetting_numbers n (kept_numbers (timed s fresh_clock)) ss ≡ stored_numbers (forgetting n (timed s fresh_clock) rs) → zs ≡ state_numbers s
          → Gives (stores_as (lent_three bs zs ss) [] (forgetting n (timed s fresh_clock) rs)) (bare k 0 0) (lent_three bs zs' ss') []
      given s rs q z = unfold stores_as no stored_numbers in record {
        number = w.number ∙ (forget-numbers n zs (kept_numbers (timed s fresh_clock)) ss).0 ∙ ap (λ (k : Written). k.number) q;
        place = refl;
        branch = refl;
        count = refl;
        total = refl;
        chosen = refl;
        buffers = at;
        output = refl;
      }
        where
          t : Stored
          t = forgetting n (timed s fresh_clock) rs

          at : (p : Part) → lent_three bs zs' ss' p ≡ with_stored (lent_three bs zs ss) (state_numbers t.kept.state) (saves_numbers t.saves) p
          at model = unfold lent_three with_stored in refl
          at state = unfold lent_three with_stored in w.kept ∙ (forget-numbers n zs zs ss).2 ∙ z ∙ sym (ap (λ (t : Timed). state_numbers t.state) (forget-kept n (timed s fresh_clock) rs))
          at saves = unfold lent_three with_stored stored_numbers in w.saves ∙ (forget-numbers n zs (kept_numbers (timed s fresh_clock)) ss).1 ∙ ap (λ (k : Written). k.saves) q
          at clock = unfold lent_three with_stored in refl
          at search = unfold lent_three with_stored in refl

      by : {y : Machine} → InThree y → machine_in three_parts (lent_three bs zs ss) ≡ y → Gives (answered (on' (forget' n)) (lent_three bs zs ss) []) (bare k 0 0) (lent_three bs zs' ss') []
      by nothing q = false-not-true (sym (ap is_holding q) ∙ e)
      by (all m s rs) q =
          let o = machine-over (lent_three bs zs ss) m s rs long wide q in
          let l = forgetting-numbers (scopes_of m) (few-scopes m o.good) m.channels rs (saves-fit m o.good rs o.saves) n (timed s fresh_clock) in
          rw (asked-three n bs zs ss, stores (forget' n) (forgetting n) (λ h. refl) refl (lent_three bs zs ss) [] m s rs q)
          (given s rs (ap (forgetting_numbers n (kept_numbers (timed s fresh_clock))) (sym o.saved) ∙ l) (sym o.numbers))

-- ---- 11 of the four

module _ (bs : List ℕ) (zs ss : List ℤ) (c : Clock) where
  abbrev X : Engine
  X = lent_all bs zs ss c

  three-same : machine_in three_parts X ≡ machine_in three_parts (lent_three bs zs ss)
  unfolding machine_in machine_over lent_all lent_three
  three-same = by (held_in bs)
    where
      by : (o : Option Resolved.Model) → machine_over three_parts X o ≡ machine_over three_parts (lent_three bs zs ss) o
      by none = refl
      by (some m) = unfold all_parts is_part read_held is_lent in refl

  four_is : machine_in four_parts X ≡ clocked (machine_in three_parts (lent_three bs zs ss)) (clock_numbers c)
  unfolding lent_all
  four_is = four-in X ∙ ap (λ (y : Machine). clocked y (clock_numbers c)) three-same

  pub out_of_range : is_in_range c ≡ false → is_holding (machine_in four_parts X) ≡ false
  unfolding is_holding
  out_of_range e = ap is_holding (four_is ∙ by (machine_in three_parts (lent_three bs zs ss)))
    where
      by : (y : Machine) → clocked y (clock_numbers c) ≡ closed
      by closed = unfold clocked in refl
      by (holding h) = unfold clocked in rw e refl

  pub in-range : is_in_range c ≡ true → is_holding (machine_in four_parts X) ≡ is_holding (machine_in three_parts (lent_three bs zs ss))
  in-range e = ap is_holding four_is ∙ by (machine_in three_parts (lent_three bs zs ss))
    where
      by : (y : Machine) → is_holding (clocked y (clock_numbers c)) ≡ is_holding y
      by closed = unfold clocked is_holding in refl
      by (holding h) = unfold clocked is_holding in rw e refl

-- ---- what a save and a return give

saving-kept : (n : List ℕ) (t : Timed) (rs : Saves) → (saving n t rs).kept ≡ t
unfolding saving
saving-kept n t rs = by (is_name n) (ltb (place_for n rs) save_limit)
  where
    by : (b c : Bool) → (cond b (cond c (stored 0 t (replaced n t rs)) (stored 22 t rs)) (stored 20 t rs)).kept ≡ t
    by true true = refl
    by true false = refl
    by false c = refl

returning-saves : (n : List ℕ) (t : Timed) (rs : Saves) → (returning n t rs).saves ≡ rs
unfolding returning Option-elim
returning-saves n t rs = by (is_name n) (kept_under n rs)
  where
    by : (b : Bool) (o : Option Timed) → (cond b (Option-elim o (stored 21 t rs) (λ k. stored 0 k rs)) (stored 20 t rs)).saves ≡ rs
    by true none = refl
    by true (some k) = refl
    by false o = refl

module _ (bs : List ℕ) (zs ss : List ℤ) (c : Clock) where
  abbrev Y : Engine
  Y = lent_all bs zs ss c

  asked-four : (r : Request) → uses r ≡ four_parts → answered (on' r) Y [] ≡ leaves four_parts Y [] (on_machine r (machine_in four_parts Y))
  unfolding answered requested machine_in
  asked-four r u = ap (λ (ps : List Part). leaves ps Y [] (on_machine r (machine_over ps Y (held_in (Y model))))) u

  -- 11 changes nothing
  pub unheld-four : (r : Request) → uses r ≡ four_parts → is_holding (machine_in four_parts Y) ≡ false → Gives (answered (on' r) Y []) (bare 11 0 0) Y []
  unheld-four r u e = rw (asked-four r u, is-closed _ e, ← u) (eleven-gives r Y [])

  module _ (long : length zs ≡ state_length) (wide : length ss ≡ saves_length) (e : is_holding (machine_in four_parts Y) ≡ true) where
    -- what is held
    record Facts : Type 0 where
      m : Resolved.Model
      s : State
      rs : Saves
      held_all_lem : machine_in four_parts Y ≡ holding (held_all m s rs c)
      over : Over (lent_three bs zs ss) m s rs
      range : InRange c

    pub range-so : InRange c
    range-so = by (is_in_range c) refl
      where
        by : (b : Bool) → is_in_range c ≡ b → InRange c
        by true q = clocks.in-range c q
        by false q = false-not-true (sym (out_of_range bs zs ss c q) ∙ e)

    facts : Facts
    unfolding is_holding lent_three
    facts = by (in_three (lent_three bs zs ss)) refl
      where
        in_c : is_in_range c ≡ true
        in_c = sym (both-in c range-so.ticks range-so.draws)

        by : {y : Machine} → InThree y → machine_in three_parts (lent_three bs zs ss) ≡ y → Facts
        by nothing q = false-not-true (sym (in-range bs zs ss c in_c ∙ ap is_holding q) ∙ e)
        by (all m s rs) q = record {
          m = m;
          s = s;
          rs = rs;
          held_all_lem = four_is bs zs ss c ∙ ap (λ (y : Machine). clocked y (clock_numbers c)) q ∙ (unfold clocked in rw in_c refl);
          over = machine-over (lent_three bs zs ss) m s rs long wide q;
          range = range-so;
        }

    abbrev m : Resolved.Model
    m = facts.m

    abbrev s : State
    s = facts.s

    abbrev rs : Saves
    rs = facts.rs

    abbrev o : Over (lent_three bs zs ss) m s rs
    o = facts.over

    state-so : zs ≡ state_numbers s
    unfolding lent_three
    state-so = sym o.numbers

    saves-so : ss ≡ saves_numbers rs
    unfolding lent_three
    saves-so = sym o.saved

    kept-so : besides zs c ≡ kept_numbers (timed s c)
    unfolding kept_numbers
    kept-so = ap (λ (l : List ℤ). besides l c) state-so

    -- numbers that are those of a turn
    given : (r : Request) (f : Timed → Saves → Stored) → ((h : Held) → acts r h ≡ on_saves f h) → uses r ≡ four_parts → (k : ℕ) (ys ss' : List ℤ) (c' : Clock)
        → k ≡ (f (timed s c) rs).number → ys ≡ state_numbers (f (timed s c) rs).kept.state → ss' ≡ saves_numbers (f (timed s c) rs).saves → c' ≡ (f (timed s c) rs).kept.clock
        → Gives (answered (on' r) Y []) (bare k 0 0) (lent_all bs ys ss' c') []
    unfolding keeps_as no
    given r f q u k ys ss' c' a b d g =
        rw (asked-four r u, keeps r f q u Y [] m s rs c facts.held_all_lem)
        (record { number = a; place = refl; branch = refl; count = refl; total = refl; chosen = refl; buffers = at; output = refl })
      where
        at : (p : Part) → lent_all bs ys ss' c' p ≡ with_kept Y (state_numbers (f (timed s c) rs).kept.state) (saves_numbers (f (timed s c) rs).saves) (f (timed s c) rs).kept.clock p
        at model = unfold lent_all with_kept in refl
        at state = unfold lent_all with_kept in b
        at saves = unfold lent_all with_kept in d
        at clock = unfold lent_all with_kept in ap clock_numbers g
        at search = unfold lent_all with_kept in refl

    pub save-gives : (n : List ℕ) (k : ℕ) (ks ss' : List ℤ) → Stores (saving_numbers n (besides zs c) ss) k ks ss' → Gives (answered (on' (save' n)) Y []) (bare k 0 0) (lent_all bs zs ss' c) []
    unfolding acts stored_numbers
    save-gives n k ks ss' w =
        let q : saving_numbers n (besides zs c) ss ≡ stored_numbers (saving n (timed s c) rs) = ap₂ (saving_numbers n) kept-so saves-so ∙ saving-numbers (scopes_of m) (few-scopes m o.good) m.channels rs (saves-fit m o.good rs o.saves) n (timed s c) in
        let t = sym (saving-kept n (timed s c) rs) in
        given (save' n) (saving n) (λ h. refl) refl k zs ss' c (w.number ∙ ap (λ (k : Written). k.number) q) (state-so ∙ ap (λ (t : Timed). state_numbers t.state) t) (w.saves ∙ ap (λ (k : Written). k.saves) q) (ap (λ (t : Timed). t.clock) t)

    -- ---- a return

    module _ (n : List ℕ) where
      abbrev Vn : Written
      Vn = returning_numbers n (besides zs c) ss

      abbrev t : Stored
      t = returning n (timed s c) rs

      found : Vn ≡ stored_numbers t
      found = ap₂ (returning_numbers n) kept-so saves-so ∙ returning-numbers (scopes_of m) (few-scopes m o.good) m.channels rs (saves-fit m o.good rs o.saves) n (timed s c)

      kept-good : GoodTimed m t.kept
      kept-good = (returning-holds (GoodTimed m) n (timed s c) rs (record { state = o.state; clock = range-so }) o.saves).kept

      kept-long : length (state_numbers t.kept.state) ≡ state_length
      kept-long = state-length m o.good t.kept.state kept-good.state

      kept-is : Vn.kept ≡ kept_numbers t.kept
      unfolding stored_numbers
      kept-is = ap (λ (k : Written). k.kept) found

      clock-part : drop state_length Vn.kept ≡ clock_place t.kept.clock
      unfolding kept_numbers
      clock-part = ap (drop state_length) kept-is ∙ drop_at (state_numbers t.kept.state) (clock_place t.kept.clock) state_length kept-long

      state-part : take state_length Vn.kept ≡ state_numbers t.kept.state
      unfolding kept_numbers
      state-part = ap (take state_length) kept-is ∙ take_at (state_numbers t.kept.state) (clock_place t.kept.clock) state_length kept-long

      pub keeping : Keeping n (besides zs c) ss
      unfolding is_natural
      keeping = record { ticks = λ z. ap (λ (l : List ℤ). is_natural (at l 0)) clock-part; draws = λ z. ap (λ (l : List ℤ). is_natural (at l 1)) clock-part }

      pub return-gives : (r : results.Timed) (ys : List ℤ) → Returned Vn zs c r ys → Gives (answered (on' (return' n)) Y []) r.answer (lent_all bs ys ss r.clock) []
      unfolding acts stored_numbers
      return-gives r ys w =
          rw w.answer
          (given (return' n) (returning n) (λ h. refl) refl Vn.number ys ss r.clock number (w.state ∙ state-at (eqb Vn.number 0) refl) (saves-so ∙ ap saves_numbers (sym (returning-saves n (timed s c) rs))) (w.clock ∙ clock-at (eqb Vn.number 0) refl))
        where
          number : Vn.number ≡ t.number
          number = unfold stored_numbers in ap (λ (k : Written). k.number) found

          -- refused, it leaves all
          same : eqb Vn.number 0 ≡ false → t.kept ≡ timed s c
          same q = by (returning-answers n (timed s c) rs)
            where
              by : StoredAnswers (timed s c) rs t → t.kept ≡ timed s c
              by (accepts z) = true-not-false (sym (eq-eqb Vn.number 0 (number ∙ z)) ∙ q)
              by (refuses a b k) = k.0

          state-at : (b : Bool) → eqb Vn.number 0 ≡ b → cond b (take state_length Vn.kept) zs ≡ state_numbers t.kept.state
          state-at true q = state-part
          state-at false q = state-so ∙ sym (ap (λ (k : Timed). state_numbers k.state) (same q))

          clock-at : (b : Bool) → eqb Vn.number 0 ≡ b → cond b (clock_at (drop state_length Vn.kept)) c ≡ t.kept.clock
          clock-at true q = ap clock_at clock-part
          clock-at false q = sym (ap (λ (k : Timed). k.clock) (same q))

-- ---- the functions' cases

pub stores-from : (n : List ℕ) (ss : List ℤ) {ks zs : List ℤ} {k : ℕ} {ss' : List ℤ} → ks ≡ zs → Stores (saving_numbers n ks ss) k ks ss' → Stores (saving_numbers n zs ss) k zs ss'
stores-from n ss e w = rw e at w

pub refused-stores : {w : Written} {d : Result (Unit {0}) Refusal} {r : Refusal} {k : ℕ} {zs ss : List ℤ} → k ≡ refusal_number r → d ≡ Err r → Stores w (number_of d) zs ss → Stores w k zs ss
refused-stores e f w = rw (ap number_of f ∙ sym e) at w

pub refusal-positive : (r : Refusal) → refusal_number r ≡ 0 → ⊥
refusal-positive NotAName = λ e. omega arith
refusal-positive NotSaved = λ e. omega arith
refusal-positive Full = λ e. omega arith

pub returned-no : (n : List ℕ) (zs ss : List ℤ) (c : Clock) (ks ks' ss' : List ℤ) (k : ℕ) (a : result.Answer) (r : results.Timed) → r ≡ record { answer = a; clock = c } → a ≡ bare k 0 0 → ks ≡ besides zs c
    → Stores (returning_numbers n ks ss) k ks' ss' → (k ≡ 0 → ⊥) → Returned (returning_numbers n (besides zs c) ss) zs c r zs
returned-no n zs ss c ks ks' ss' k a r p q e w z =
    let i : k ≡ (returning_numbers n (besides zs c) ss).number = w.number ∙ ap (λ (l : List ℤ). (returning_numbers n l ss).number) e in
    let b : eqb (returning_numbers n (besides zs c) ss).number 0 ≡ false = ne_eqb _ 0 (λ y. z (i ∙ y)) in
    record { answer = ap (λ (t : results.Timed). t.answer) p ∙ q ∙ ap (λ (k : ℕ). bare k 0 0) i; state = rw b refl; clock = rw b (ap (λ (t : results.Timed). t.clock) p) }

pub returned-yes : (n : List ℕ) (zs ss : List ℤ) (c : Clock) (ks ks' ss' : List ℤ) (k : ℕ) (a : result.Answer) (b : Clock) (r : results.Timed) (ys : List ℤ) → r ≡ record { answer = a; clock = b } → a ≡ bare 0 0 0 → ks ≡ besides zs c
    → Stores (returning_numbers n ks ss) k ks' ss' → k ≡ 0 → b ≡ clock_at (drop state_length ks') → ys ≡ take state_length ks' → Returned (returning_numbers n (besides zs c) ss) zs c r ys
returned-yes n zs ss c ks ks' ss' k a b r ys p q e w z f g =
    let w' : Stores (returning_numbers n (besides zs c) ss) k ks' ss' = rw e at w in
    let i : eqb (returning_numbers n (besides zs c) ss).number 0 ≡ true = eq-eqb _ 0 (sym w'.number ∙ z) in
    record {
      answer = ap (λ (t : results.Timed). t.answer) p ∙ q ∙ ap (λ (k : ℕ). bare k 0 0) (sym z ∙ w'.number);
      state = rw i (g ∙ ap (take state_length) w'.kept);
      clock = rw i (ap (λ (t : results.Timed). t.clock) p ∙ f ∙ ap (λ (l : List ℤ). clock_at (drop state_length l)) w'.kept);
    }

pub readable : (n : List ℕ) (zs ss : List ℤ) (c : Clock) {ks ks' ss' : List ℤ} {k : ℕ} → ks ≡ besides zs c → Stores (returning_numbers n ks ss) k ks' ss' → k ≡ 0 → Keeping n (besides zs c) ss → length ks' ≡ timed_length
    → (is_natural (at ks' 5122) ≡ true) × (is_natural (at ks' 5123) ≡ true)
readable n zs ss c {ks} {ks'} {ss'} {k} e w z g h =
    let w' : Stores (returning_numbers n (besides zs c) ss) k ks' ss' = rw e at w in
    let y = sym w'.number ∙ z in
    let q = sym (last-two ks' state_length h) ∙ ap (drop state_length) w'.kept in
    (ap (λ (l : List ℤ). is_natural (at l 0)) q ∙ g.ticks y, ap (λ (l : List ℤ). is_natural (at l 1)) q ∙ g.draws y)
