-- The model, the state, the saves and the clock hold a machine exactly where the first three do and the clock is in its range; and what a save and a return leave over them. From what is proved of
-- the three.
use mathlib.Core.Path.{◌≡◌, refl, sym, ap, ◌∙◌}
use mathlib.Core.Bool.{Bool, true, false, cond, ◌&&◌}
use mathlib.Core.List.{List}
use mathlib.Core.Logic.{◌↔◌}
use mathlib.Core.Option.{Option, none, some}
use Prim.Native.Nat.{ℕ, ◌<◌}
use native.Mathlib.Omega.{arith}
use lib.ListN.{length, get_or}
use Rattle.clock.specs.declared.Clock.{Clock}
use Rattle.clock.specs.Clock.{InRange, is_in_range}
use Rattle.clock.proofs.Bringing.{both-in}
use Rattle.model.specs.Resolved.{Model}
use Rattle.model.specs.Held.{held}
use Rattle.machine.specs.State.{State, state_length, state_numbers, GoodState}
use Rattle.machine.specs.Timed.{Timed, timed}
use Rattle.machine.specs.Saves.{Saves, saves_length, GoodSaves, Stored}
use Rattle.machine.specs.Machine.{model_length, as_lent, no, Turn, Held, held_all, held_with, stored_in, Machine, closed, holding, on_saves, Request, acts, Part, model, state, saves, clock, size, three_parts, four_parts, uses, is_lent, all_parts, on_machine, search}
use Rattle.state.specs.Fits.{scopes_of}
use Rattle.state.specs.Test.{is_state}
use Rattle.state.specs.Decode.{decode}
use Rattle.saves.specs.Places.{saves_numbers, is_saves, saves_in}
use Rattle.buffers.specs.Held.{model_bytes, held_in}
use Rattle.buffers.specs.Listing.{shown}
use Rattle.buffers.specs.Parts.{Engine, clock_numbers, clock_in, numbers_of, is_part, read_held, with_kept}
use Rattle.buffers.specs.Effect.{machine_over, machine_in, left_in, leaves}
use Rattle.buffers.specs.Answers.{keeps_as}
use Rattle.buffers.proofs.Lent.{same-engine}
use Rattle.buffers.proofs.Clocks.{clocked, in-range, two-numbers}
use Rattle.buffers.proofs.Three as three
use Rattle.buffers.proofs.Three.{InThree, in_three}

-- ---- 11

pub four-over : (x : Engine) (o : Option Model) → machine_over four_parts x o ≡ clocked (machine_over three_parts x o) (x clock)
unfolding machine_over all_parts is_part read_held is_lent clocked
four-over x none = refl
four-over x (some m) = by (is_state (scopes_of m) m.channels (x state)) (is_saves (scopes_of m) m.channels (x saves)) (is_in_range (clock_in (x clock))) refl
  where
    by : (a b c : Bool) → is_in_range (clock_in (x clock)) ≡ c
        → cond (a && (b && (c && true))) (holding (held_all m (decode (scopes_of m) (x state)) (saves_in (scopes_of m) (x saves)) (clock_in (x clock)))) closed
        ≡ clocked (cond (a && (b && true)) (holding (held_with m (decode (scopes_of m) (x state)) (saves_in (scopes_of m) (x saves)))) closed) (x clock)
    by true true true e = rw e refl
    by true true false e = rw e refl
    by true false c e = refl
    by false b c e = refl

pub four-in : (x : Engine) → machine_in four_parts x ≡ clocked (machine_in three_parts x) (x clock)
unfolding machine_in
four-in x = four-over x (held_in (x model))

-- all four, or nothing
pub data InFour : Machine → Type 0 where
  nothing : InFour closed
  all : (m : Model) (s : State) (ss : Saves) (c : Clock) → InFour (holding (held_all m s ss c))

pub in_four : (x : Engine) → InFour (machine_in four_parts x)
in_four x = rw (four-in x) (by (in_three x))
  where
    test : (m : Model) (s : State) (ss : Saves) (b : Bool) → InFour (cond b (holding (held_all m s ss (clock_in (x clock)))) closed)
    test m s ss true = all m s ss (clock_in (x clock))
    test m s ss false = nothing

    by : {y : Machine} → InThree y → InFour (clocked y (x clock))
    by three.nothing = unfold clocked in nothing
    by (three.all m s ss) = unfold clocked in test m s ss (is_in_range (clock_in (x clock)))

-- what is held of four is held of three, and the clock is the one that was lent
pub record OfFour (x : Engine) (m : Model) (s : State) (ss : Saves) (c : Clock) : Type 0 where
  pub three : machine_in three_parts x ≡ holding (held_with m s ss)
  pub range : InRange c
  pub numbers : x clock ≡ clock_numbers c

pub of_four : (x : Engine) (m : Model) (s : State) (ss : Saves) (c : Clock) → length (x clock) ≡ size clock → machine_in four_parts x ≡ holding (held_all m s ss c) → OfFour x m s ss c
of_four x m s ss c long e = by (machine_in three_parts x) refl (sym (four-in x) ∙ e) (in_three x)
  where
    test : (n : Model) (r : State) (rs : Saves) → machine_in three_parts x ≡ holding (held_with n r rs) → (b : Bool) → is_in_range (clock_in (x clock)) ≡ b
        → cond b (holding (held_all n r rs (clock_in (x clock)))) closed ≡ holding (held_all m s ss c) → OfFour x m s ss c
    test n r rs p false q e = absurd (let z : ◌≡◌ {A = ℕ} 0 1 = cc in omega arith)
    test n r rs p true q e =
        let k : held_all n r rs (clock_in (x clock)) ≡ held_all m s ss c = cc in
        let a : n ≡ m = ap (λ (h : Held). h.model) k in
        let b : r ≡ s = ap (λ (h : Held). h.state) k in
        let f : rs ≡ ss = ap (λ (h : Held). h.saves) k in
        let d : clock_in (x clock) ≡ c = ap (λ (h : Held). h.clock) k in
        record { three = rw (← a, ← b, ← f) p; range = rw (← d) (in-range (clock_in (x clock)) q); numbers = rw (← d) (two-numbers (x clock) long) }

    by : (y : Machine) → machine_in three_parts x ≡ y → clocked y (x clock) ≡ holding (held_all m s ss c) → InThree y → OfFour x m s ss c
    by y p e three.nothing = absurd (unfold clocked in let z : ◌≡◌ {A = ℕ} 0 1 = cc in omega arith)
    by y p e (three.all n r rs) = unfold clocked in test n r rs p (is_in_range (clock_in (x clock))) refl e

pub four-held : (x : Engine) (m : Model) (s : State) (ss : Saves) (c : Clock) → OfFour x m s ss c → machine_in four_parts x ≡ holding (held_all m s ss c)
unfolding clocked
four-held x m s ss c h = four-in x ∙ ap (λ (y : Machine). clocked y (x clock)) h.three ∙ rw (h.numbers, sym (both-in c h.range.ticks h.range.draws)) refl

-- 11, exactly, of buffers of right lengths: as of the three, and the clock is in its range
abbrev pub Holds : Engine → Model → State → Saves → Clock → Type 0
Holds x m s ss c =
    ((text : List ℕ) × (x model ≡ model_bytes text) × (held text ≡ some m) × GoodState m s × (x state ≡ state_numbers s) × GoodSaves m ss × (x saves ≡ saves_numbers ss)) × InRange c × (x clock ≡ clock_numbers c)

pub eleven-four : (x : Engine) (m : Model) (s : State) (ss : Saves) (c : Clock) → length (x model) ≡ model_length → get_or (x model) 0 0 < 256 → length (x state) ≡ state_length → length (x saves) ≡ saves_length → length (x clock) ≡ size clock
    → (machine_in four_parts x ≡ holding (held_all m s ss c)) ↔ Holds x m s ss c
eleven-four x m s ss c long byte numbers wide two = (there, back)
  where
    there : machine_in four_parts x ≡ holding (held_all m s ss c) → Holds x m s ss c
    there e = let o = of_four x m s ss c two e in ((three.eleven-exactly x m s ss long byte numbers wide).0 o.three, o.range, o.numbers)

    back : Holds x m s ss c → machine_in four_parts x ≡ holding (held_all m s ss c)
    back h = four-held x m s ss c (record { three = (three.eleven-exactly x m s ss long byte numbers wide).1 h.0; range = h.1; numbers = h.2 })

-- ---- what a request that is lent the four leaves

pub keeps : (r : Request) (f : Timed → Saves → Stored) → ((h : Held) → acts r h ≡ on_saves f h) → uses r ≡ four_parts → (x : Engine) (l : List ℕ) (m : Model) (s : State) (ss : Saves) (c : Clock)
    → machine_in four_parts x ≡ holding (held_all m s ss c) → leaves four_parts x l (on_machine r (machine_in four_parts x)) ≡ keeps_as x l (f (timed s c) ss)
unfolding on_machine leaves left_in on_saves keeps_as shown no
keeps r f q u x l m s ss c e =
    ap (λ (y : Machine). leaves four_parts x l (on_machine r y)) e
    ∙ ap (λ (t : Turn Held). record { answer = t.answer; left = left_in four_parts x (holding t.machine); output = shown t.answer.listing l }) (q (held_all m s ss c))
    ∙ ap (λ (z : Engine). record { answer = no (f (timed s c) ss).number 0 0 as_lent; left = z; output = l }) (same-engine at)
  where
    t : Stored
    t = f (timed s c) ss

    at : (p : Part) → left_in four_parts x (holding (stored_in (held_all m s ss c) t)) p ≡ with_kept x (state_numbers t.kept.state) (saves_numbers t.saves) t.kept.clock p
    at model = unfold left_in is_lent numbers_of with_kept in refl
    at state = unfold left_in is_lent numbers_of with_kept in refl
    at saves = unfold left_in is_lent numbers_of with_kept in refl
    at clock = unfold left_in is_lent numbers_of with_kept in refl
    at search = unfold left_in is_lent numbers_of with_kept in refl
