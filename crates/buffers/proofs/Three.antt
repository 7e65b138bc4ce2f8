-- The model, state and saves buffers hold a machine exactly where they are the bytes of a text that holds its model, and the numbers of a state and of saves over it; and what a
-- forget leaves over them: from the exact tests.
use mathlib.Core.Path.{◌≡◌, refl, sym, ap, ap₂, ◌∙◌}
use mathlib.Core.Bool.{Bool, true, false, cond, ◌&&◌, and-true}
use mathlib.Core.List.{List}
use mathlib.Core.Logic.{◌↔◌}
use mathlib.Core.Option.{Option, none, some}
use Prim.Native.Nat.{ℕ, ◌<◌}
use native.Mathlib.Omega.{arith}
use lib.ListN.{length, get_or}
use Rattle.model.specs.Resolved.{Model}
use Rattle.model.specs.Held.{held}
use Rattle.model.specs.Good.{GoodModel}
use Rattle.clock.specs.Clock.{fresh_clock}
use Rattle.machine.specs.State.{State, state_length, state_numbers, GoodState}
use Rattle.machine.specs.Timed.{Timed, timed}
use Rattle.machine.specs.Saves.{Saves, saves_length, GoodSaves, Stored}
use Rattle.machine.specs.Machine as machine
use Rattle.machine.specs.Machine.{model_length, as_lent, no, Turn, Held, held_with, stored_in, Machine, closed, holding, on_saves, Request, acts, Part, model, state, saves, clock, search, three_parts, uses, is_lent, all_parts, on_machine}
use Rattle.state.specs.Fits.{scopes_of}
use Rattle.state.specs.Test.{is_state}
use Rattle.state.specs.Decode.{decode}
use Rattle.state.proofs.Over.{good-fits, fits-good, few-scopes}
use Rattle.state.proofs.Image.{decode-fits, decode-numbers, numbers-pass, decode-back}
use Rattle.state.proofs.Tests.{both}
use Rattle.saves.specs.Places.{saves_numbers, is_saves, saves_in}
use Rattle.saves.proofs.Over.{saves-fit, fit-saves}
use Rattle.saves.proofs.Places.{saves-pass, saves-back, saves-good, saves-numbers}
use Rattle.buffers.specs.Held.{model_bytes, held_in}
use Rattle.buffers.specs.Listing.{shown}
use Rattle.buffers.specs.Parts.{Engine, numbers_of, is_part, read_held, with_stored}
use Rattle.buffers.specs.Effect.{machine_over, machine_in, left_in, leaves}
use Rattle.buffers.specs.Answers.{stores_as}
use Rattle.buffers.proofs.Held.{text-held, held-exactly, held_fits}
use Rattle.buffers.proofs.Lent.{same-engine}

-- ---- 11 over the model, the state and the saves

module _ (x : Engine) (m : Model) where
  abbrev scopes : List ℕ
  scopes = scopes_of m

  abbrev read : Machine
  read = holding (held_with m (decode scopes (x state)) (saves_in scopes (x saves)))

  -- both tests, as one
  abbrev test : Bool
  test = is_state scopes m.channels (x state) && is_saves scopes m.channels (x saves)

  pub tested : machine_over three_parts x (some m) ≡ cond test read closed
  unfolding machine_over all_parts is_part read_held is_lent
  tested = ap (λ (b : Bool). cond (is_state scopes m.channels (x state) && b) read closed) (and-true (is_saves scopes m.channels (x saves)))

  pub passed : is_state scopes m.channels (x state) ≡ true → is_saves scopes m.channels (x saves) ≡ true → machine_over three_parts x (some m) ≡ read
  passed e f = tested ∙ ap₂ (λ (a b : Bool). cond (a && b) read closed) e f

  pub no-state : is_state scopes m.channels (x state) ≡ false → machine_over three_parts x (some m) ≡ closed
  no-state e = tested ∙ ap (λ (b : Bool). cond (b && is_saves scopes m.channels (x saves)) read closed) e

  pub no-saves : is_state scopes m.channels (x state) ≡ true → is_saves scopes m.channels (x saves) ≡ false → machine_over three_parts x (some m) ≡ closed
  no-saves e f = tested ∙ ap₂ (λ (a b : Bool). cond (a && b) read closed) e f

-- a model, a state and saves, or nothing, are all that three buffers hold
pub data InThree : Machine → Type 0 where
  nothing : InThree closed
  all : (m : Model) (s : State) (ss : Saves) → InThree (holding (held_with m s ss))

pub in_three : (x : Engine) → InThree (machine_in three_parts x)
unfolding machine_in machine_over
in_three x = by (held_in (x model))
  where
    tests : (m : Model) (b : Bool) → InThree (cond b (read x m) closed)
    tests m true = all m (decode (scopes_of m) (x state)) (saves_in (scopes_of m) (x saves))
    tests m false = nothing

    by : (o : Option Model) → InThree (machine_over three_parts x o)
    by none = nothing
    by (some m) = rw (tested x m) (tests m (test x m))

-- the numbers of a state and of saves over a model that a buffer holds
over-model : (x : Engine) (m : Model) (s : State) (ss : Saves) → held_in (x model) ≡ some m → x state ≡ state_numbers s → x saves ≡ saves_numbers ss → GoodState m s → GoodSaves m ss
    → machine_in three_parts x ≡ holding (held_with m s ss)
unfolding machine_in
over-model x m s ss e n k g h =
    let good = held_fits (x model) m e in
    let few = few-scopes m good in
    let fits = good-fits m s good g in
    let fit = saves-fit m good ss h in
    ap (machine_over three_parts x) e
    ∙ passed x m (ap (is_state (scopes_of m) m.channels) n ∙ numbers-pass (scopes_of m) few m.channels s fits) (ap (is_saves (scopes_of m) m.channels) k ∙ saves-pass (scopes_of m) few m.channels ss fit)
    ∙ ap₂ (λ (r : State) (rs : Saves). holding (held_with m r rs)) (ap (decode (scopes_of m)) n ∙ decode-back (scopes_of m) few m.channels s fits) (ap (saves_in (scopes_of m)) k ∙ saves-back (scopes_of m) few m.channels ss fit)

pub text-machine : (x : Engine) (text : List ℕ) (m : Model) (s : State) (ss : Saves) → x model ≡ model_bytes text → held text ≡ some m → x state ≡ state_numbers s → x saves ≡ saves_numbers ss → GoodState m s → GoodSaves m ss
    → machine_in three_parts x ≡ holding (held_with m s ss)
text-machine x text m s ss b e n k g h = over-model x m s ss (ap held_in b ∙ text-held text m e) n k g h

-- what the buffers are that hold a machine
pub record Over (x : Engine) (m : Model) (s : State) (ss : Saves) : Type 0 where
  pub model : held_in (x model) ≡ some m
  pub good : GoodModel m
  pub state : GoodState m s
  pub saves : GoodSaves m ss
  pub numbers : state_numbers s ≡ x machine.state
  pub saved : saves_numbers ss ≡ x machine.saves

-- 11: nothing else passes the tests
pub machine-over : (x : Engine) (m : Model) (s : State) (ss : Saves) → length (x state) ≡ state_length → length (x saves) ≡ saves_length → machine_in three_parts x ≡ holding (held_with m s ss) → Over x m s ss
unfolding machine_in machine_over
machine-over x m s ss l w e = by (held_in (x model)) refl e
  where
    tests : (n : Model) → held_in (x model) ≡ some n → (b : Bool) → test x n ≡ b → cond b (read x n) closed ≡ holding (held_with m s ss) → Over x m s ss
    tests n h false f e = absurd (let z : ◌≡◌ {A = ℕ} 0 1 = cc in omega arith)
    tests n h true f e =
        let k : held_with n (decode (scopes_of n) (x state)) (saves_in (scopes_of n) (x saves)) ≡ held_with m s ss = cc in
        let p : n ≡ m = ap (λ (h : Held). h.model) k in
        let q : decode (scopes_of n) (x state) ≡ s = ap (λ (h : Held). h.state) k in
        let r : saves_in (scopes_of n) (x saves) ≡ ss = ap (λ (h : Held). h.saves) k in
        let good = held_fits (x model) n h in
        let few = few-scopes n good in
        let b = both (is_state (scopes_of n) n.channels (x state)) _ f in
        rw (← p, ← q, ← r) (record {
          model = h;
          good = good;
          state = fits-good n (decode (scopes_of n) (x state)) good (decode-fits (scopes_of n) few n.channels (x state) l b.0);
          saves = fit-saves n good (saves_in (scopes_of n) (x saves)) (saves-good (scopes_of n) few n.channels (x saves) w b.1);
          numbers = decode-numbers (scopes_of n) few n.channels (x state) l b.0;
          saved = saves-numbers (scopes_of n) few n.channels (x saves) w b.1;
        })

    by : (o : Option Model) → held_in (x model) ≡ o → machine_over three_parts x o ≡ holding (held_with m s ss) → Over x m s ss
    by none h e = absurd (let z : ◌≡◌ {A = ℕ} 0 1 = cc in omega arith)
    by (some n) h e = tests n h (test x n) refl (sym (tested x n) ∙ e)

-- 11, exactly, of buffers of right lengths: a text that holds the model, and the numbers of a state and of saves over it
pub eleven-exactly : (x : Engine) (m : Model) (s : State) (ss : Saves) → length (x model) ≡ model_length → get_or (x model) 0 0 < 256 → length (x state) ≡ state_length → length (x saves) ≡ saves_length
    → (machine_in three_parts x ≡ holding (held_with m s ss))
    ↔ ((text : List ℕ) × (x model ≡ model_bytes text) × (held text ≡ some m) × GoodState m s × (x state ≡ state_numbers s) × GoodSaves m ss × (x saves ≡ saves_numbers ss))
eleven-exactly x m s ss long byte numbers wide = (there, back)
  where
    there : machine_in three_parts x ≡ holding (held_with m s ss)
        → ((text : List ℕ) × (x model ≡ model_bytes text) × (held text ≡ some m) × GoodState m s × (x state ≡ state_numbers s) × GoodSaves m ss × (x saves ≡ saves_numbers ss))
    there e =
        let o = machine-over x m s ss numbers wide e in
        let t = (held-exactly (x model) m long byte).0 o.model in
        (t.0, t.1, t.2, o.state, sym o.numbers, o.saves, sym o.saved)

    back : ((text : List ℕ) × (x model ≡ model_bytes text) × (held text ≡ some m) × GoodState m s × (x state ≡ state_numbers s) × GoodSaves m ss × (x saves ≡ saves_numbers ss))
        → machine_in three_parts x ≡ holding (held_with m s ss)
    back h = text-machine x h.0 m s ss h.1 h.2 h.4 h.6 h.3 h.5

-- ---- what a request on the saves leaves

-- one that is lent the three
pub stores : (r : Request) (f : Timed → Saves → Stored) → ((h : Held) → acts r h ≡ on_saves f h) → uses r ≡ three_parts → (x : Engine) (l : List ℕ) (m : Model) (s : State) (ss : Saves)
    → machine_in three_parts x ≡ holding (held_with m s ss) → leaves three_parts x l (on_machine r (machine_in three_parts x)) ≡ stores_as x l (f (timed s fresh_clock) ss)
unfolding on_machine leaves left_in on_saves stores_as shown no
stores r f q u x l m s ss e =
    ap (λ (y : Machine). leaves three_parts x l (on_machine r y)) e
    ∙ ap (λ (t : Turn Held). record { answer = t.answer; left = left_in three_parts x (holding t.machine); output = shown t.answer.listing l }) (q (held_with m s ss))
    ∙ ap (λ (z : Engine). record { answer = no (f (timed s fresh_clock) ss).number 0 0 as_lent; left = z; output = l }) (same-engine at)
  where
    t : Stored
    t = f (timed s fresh_clock) ss

    at : (p : Part) → left_in three_parts x (holding (stored_in (held_with m s ss) t)) p ≡ with_stored x (state_numbers t.kept.state) (saves_numbers t.saves) p
    at model = unfold left_in is_lent numbers_of with_stored in refl
    at state = unfold left_in is_lent numbers_of with_stored in refl
    at saves = unfold left_in is_lent numbers_of with_stored in refl
    at clock = unfold left_in is_lent numbers_of with_stored in refl
    at search = unfold left_in is_lent numbers_of with_stored in refl
