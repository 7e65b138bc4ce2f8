-- The model and state buffers hold a machine exactly where they are the bytes of a text that holds its model, and the numbers of a state over it: from the laws of model buffers and of the state's test.
use mathlib.Core.Path.{◌≡◌, refl, sym, ap, ◌∙◌}
use mathlib.Core.Bool.{Bool, true, false, cond, and-true}
use mathlib.Core.List.{List}
use mathlib.Core.Logic.{◌↔◌}
use mathlib.Core.Option.{Option, none, some}
use Prim.Native.Nat.{ℕ, ◌<◌}
use native.Mathlib.Omega.{arith}
use lib.ListN.{length, get_or}
use Rattle.model.specs.Resolved.{Model}
use Rattle.model.specs.Held.{held}
use Rattle.model.specs.Good.{GoodModel}
use Rattle.machine.specs.State.{State, state_length, state_numbers, GoodState}
use Rattle.machine.specs.Machine as machine
use Rattle.machine.specs.Machine.{model_length, Held, Machine, closed, holding, Part, model, state, two_parts, all_parts, is_lent}
use Rattle.state.specs.Test.{is_state}
use Rattle.state.specs.Decode.{decode}
use Rattle.state.proofs.Over.{good-fits, fits-good, few-scopes}
use Rattle.state.proofs.Image.{decode-fits, decode-numbers, numbers-pass, decode-back}
use Rattle.buffers.specs.Held.{model_bytes, held_in}
use Rattle.state.specs.Fits.{scopes_of}
use Rattle.buffers.specs.Parts.{Engine, fresh, is_part, read_held}
use Rattle.buffers.specs.Effect.{machine_over, machine_in}
use Rattle.buffers.proofs.Held.{text-held, held-exactly, held_fits, fresh-holds-none}

-- ---- 11 over the model and the state

module _ (x : Engine) (m : Model) where
  tested : machine_over two_parts x (some m) ≡ cond (is_state (scopes_of m) m.channels (x state)) (holding (machine.held m (decode (scopes_of m) (x state)))) closed
  unfolding machine_over all_parts is_part read_held is_lent
  tested = ap (λ (b : Bool). cond b (holding (machine.held m (decode (scopes_of m) (x state)))) closed) (and-true (is_state (scopes_of m) m.channels (x state)))

  pub passed : is_state (scopes_of m) m.channels (x state) ≡ true → machine_over two_parts x (some m) ≡ holding (machine.held m (decode (scopes_of m) (x state)))
  passed e = tested ∙ ap (λ (b : Bool). cond b (holding (machine.held m (decode (scopes_of m) (x state)))) closed) e

  pub failed : is_state (scopes_of m) m.channels (x state) ≡ false → machine_over two_parts x (some m) ≡ closed
  failed e = tested ∙ ap (λ (b : Bool). cond b (holding (machine.held m (decode (scopes_of m) (x state)))) closed) e

-- a model and a state, or nothing, are all that two buffers hold
pub data InTwo : Machine → Type 0 where
  nothing : InTwo closed
  both : (m : Model) (s : State) → InTwo (holding (machine.held m s))

pub in_two : (x : Engine) → InTwo (machine_in two_parts x)
unfolding machine_in machine_over
in_two x = by (held_in (x model))
  where
    tests : (m : Model) (b : Bool) → InTwo (cond b (holding (machine.held m (decode (scopes_of m) (x state)))) closed)
    tests m true = both m (decode (scopes_of m) (x state))
    tests m false = nothing

    by : (o : Option Model) → InTwo (machine_over two_parts x o)
    by none = nothing
    by (some m) = rw (tested x m) (tests m (is_state (scopes_of m) m.channels (x state)))

-- the numbers of a state over a model that a buffer holds
pub over-model : (x : Engine) (m : Model) (s : State) → held_in (x model) ≡ some m → x state ≡ state_numbers s → GoodState m s → machine_in two_parts x ≡ holding (machine.held m s)
unfolding machine_in
over-model x m s e n g =
    let few = few-scopes m (held_fits (x model) m e) in
    let fits = good-fits m s (held_fits (x model) m e) g in
    ap (machine_over two_parts x) e
    ∙ passed x m (ap (is_state (scopes_of m) m.channels) n ∙ numbers-pass (scopes_of m) few m.channels s fits)
    ∙ ap (λ (r : State). holding (machine.held m r)) (ap (decode (scopes_of m)) n ∙ decode-back (scopes_of m) few m.channels s fits)

-- 01, State: a text that holds the model, and the numbers of a state over it
pub text-machine : (x : Engine) (text : List ℕ) (m : Model) (s : State) → x model ≡ model_bytes text → held text ≡ some m → x state ≡ state_numbers s → GoodState m s → machine_in two_parts x ≡ holding (machine.held m s)
text-machine x text m s b e n g = over-model x m s (ap held_in b ∙ text-held text m e) n g

-- what the buffers are that hold a machine
pub record Over (x : Engine) (m : Model) (s : State) : Type 0 where
  pub model : held_in (x model) ≡ some m
  pub good : GoodModel m
  pub state : GoodState m s
  pub numbers : state_numbers s ≡ x machine.state

-- 01, Listing, 11: nothing else passes the tests
pub machine-over : (x : Engine) (m : Model) (s : State) → length (x state) ≡ state_length → machine_in two_parts x ≡ holding (machine.held m s) → Over x m s
unfolding machine_in machine_over
machine-over x m s l e = by (held_in (x model)) refl e
  where
    test : (n : Model) → held_in (x model) ≡ some n → (b : Bool) → is_state (scopes_of n) n.channels (x state) ≡ b → cond b (holding (machine.held n (decode (scopes_of n) (x state)))) closed ≡ holding (machine.held m s) → Over x m s
    test n h false f e = absurd (let z : ◌≡◌ {A = ℕ} 0 1 = cc in omega arith)
    test n h true f e =
        let k : machine.held n (decode (scopes_of n) (x state)) ≡ machine.held m s = cc in
        let p : n ≡ m = ap (λ (h : Held). h.model) k in
        let q : decode (scopes_of n) (x state) ≡ s = ap (λ (h : Held). h.state) k in
        let good = held_fits (x model) n h in
        let few = few-scopes n good in
        rw (← p, ← q) (record {
          model = h;
          good = good;
          state = fits-good n (decode (scopes_of n) (x state)) good (decode-fits (scopes_of n) few n.channels (x state) l f);
          numbers = decode-numbers (scopes_of n) few n.channels (x state) l f;
        })

    by : (o : Option Model) → held_in (x model) ≡ o → machine_over two_parts x o ≡ holding (machine.held m s) → Over x m s
    by none h e = absurd (let z : ◌≡◌ {A = ℕ} 0 1 = cc in omega arith)
    by (some n) h e = test n h (is_state (scopes_of n) n.channels (x state)) refl (sym (tested x n) ∙ e)

-- 01, Listing, 11, exactly: buffers of right lengths hold the model m and the state s where the model buffer is that of a text which holds m, s is a state over m, and the state
-- buffer is its numbers
pub eleven-exactly : (x : Engine) (m : Model) (s : State) → length (x model) ≡ model_length → get_or (x model) 0 0 < 256 → length (x state) ≡ state_length
    → (machine_in two_parts x ≡ holding (machine.held m s)) ↔ ((text : List ℕ) × (x model ≡ model_bytes text) × (held text ≡ some m) × GoodState m s × (x state ≡ state_numbers s))
eleven-exactly x m s long byte numbers = (there, back)
  where
    there : machine_in two_parts x ≡ holding (machine.held m s) → ((text : List ℕ) × (x model ≡ model_bytes text) × (held text ≡ some m) × GoodState m s × (x state ≡ state_numbers s))
    there e =
        let o = machine-over x m s numbers e in
        let t = (held-exactly (x model) m long byte).0 o.model in
        (t.0, t.1, t.2, o.state, sym o.numbers)

    back : ((text : List ℕ) × (x model ≡ model_bytes text) × (held text ≡ some m) × GoodState m s × (x state ≡ state_numbers s)) → machine_in two_parts x ≡ holding (machine.held m s)
    back h = text-machine x h.0 m s h.1 h.2 h.4 h.3

-- 01, Fresh: zeros hold no machine
pub fresh-closed : (ps : List Part) (x : Engine) → x model ≡ fresh model → machine_in ps x ≡ closed
unfolding machine_in machine_over fresh
fresh-closed ps x e = ap (machine_over ps x) (ap held_in e ∙ fresh-holds-none)
