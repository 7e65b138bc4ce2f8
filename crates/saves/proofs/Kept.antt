-- The numbers of a state with its clock, and back, and the exact test of them: from the laws of a state's numbers.
use mathlib.Core.Path.{◌≡◌, refl, sym, ap, ap₂, ◌∙◌}
use mathlib.Core.List.{List, [], ◌∷◌, ◌++◌}
use mathlib.Core.Bool.{true, ◌&&◌}
use Prim.Native.Nat.{ℕ}
use native.Mathlib.Omega.{arith}
use borrow.Author.Tests.{leb-true}
use lib.Dec.{leb}
use lib.IntN.{ℤ, pos, negsuc, nat_abs}
use lib.ListN.{length, take, drop, length-append, length-take, length-drop, take-append-drop}
use lib.Seq.{take_at, drop_at}
use Rattle.clock.specs.declared.Clock.{Clock}
use Rattle.clock.specs.Clock.{clock_limit, InRange, is_in_range}
use Rattle.clock.proofs.Bringing.{both-in}
use Rattle.machine.specs.State.{state_length, state_numbers}
use Rattle.machine.specs.Timed.{Timed, timed}
use Rattle.machine.specs.Saves.{timed_length}
use Rattle.machine.proofs.Saves.{not-both}
use Rattle.state.specs.Decode.{decode}
use Rattle.state.specs.Fits.{FewLocals}
use Rattle.state.specs.Test.{is_state}
use Rattle.state.proofs.Tests.{both}
use Rattle.state.proofs.Image.{numbers-length, numbers-pass, decode-back, decode-fits, decode-numbers}
use Rattle.saves.specs.Kept.{clock_place, kept_numbers, is_natural, clock_at, is_clock, is_kept, kept_in, FitsKept}
use Rattle.saves.proofs.Names.{and-true}

-- ---- clocks

pub clock-passes : (c : Clock) → InRange c → is_clock (clock_place c) ≡ true
unfolding is_clock is_natural
clock-passes c g = sym (both-in c g.ticks g.draws)

in-range : (c : Clock) → is_in_range c ≡ true → InRange c
unfolding is_in_range
in-range c e = let q = both (leb c.ticks clock_limit) _ e in record { ticks = leb-true _ _ q.0; draws = leb-true _ _ q.1 }

natural-is : (z : ℤ) → is_natural z ≡ true → z ≡ pos (nat_abs z)
unfolding is_natural
natural-is (pos n) e = refl
natural-is (negsuc n) e = not-both true refl (sym e)

-- two numbers that pass are the clock's that they hold
pub record ClockIs (l : List ℤ) : Type 0 where
  pub range : InRange (clock_at l)
  pub numbers : clock_place (clock_at l) ≡ l

pub clock-is : (l : List ℤ) → length l ≡ 2 → is_clock l ≡ true → ClockIs l
unfolding is_clock
clock-is [] h e = absurd (omega arith)
clock-is (y ∷ []) h e = absurd (omega arith)
clock-is (y ∷ z ∷ []) h e =
    let q = both (is_natural y && is_natural z) _ e in
    let n = both (is_natural y) _ q.0 in
    record { range = in-range _ q.1; numbers = ap₂ (λ (a b : ℤ). a ∷ b ∷ []) (sym (natural-is y n.0)) (sym (natural-is z n.1)) }
clock-is (y ∷ z ∷ x ∷ l) h e = absurd (omega arith)

-- ---- a state with its clock

module _ (scopes : List ℕ) (few : FewLocals scopes) (channels : ℕ) where
  module _ (t : Timed) (g : FitsKept scopes channels t) where
    abbrev zs : List ℤ
    zs = state_numbers t.state

    long : length zs ≡ state_length
    long = numbers-length scopes few channels t.state g.state

    state-part : take state_length (kept_numbers t) ≡ zs
    unfolding kept_numbers
    state-part = take_at zs (clock_place t.clock) state_length long

    clock-part : drop state_length (kept_numbers t) ≡ clock_place t.clock
    unfolding kept_numbers
    clock-part = drop_at zs (clock_place t.clock) state_length long

    pub kept-length : length (kept_numbers t) ≡ timed_length
    unfolding kept_numbers
    kept-length = length-append zs (clock_place t.clock) ∙ omega (arith, long)

    pub kept-passes : is_kept scopes channels (kept_numbers t) ≡ true
    unfolding is_kept
    kept-passes = and-true (ap (is_state scopes channels) state-part ∙ numbers-pass scopes few channels t.state g.state) (ap is_clock clock-part ∙ clock-passes t.clock g.clock)

    pub kept_back : kept_in scopes (kept_numbers t) ≡ t
    unfolding kept_in
    kept_back = ap₂ timed (ap (decode scopes) state-part ∙ decode-back scopes few channels t.state g.state) (ap clock_at clock-part)

  module _ (l : List ℤ) (h : length l ≡ timed_length) (e : is_kept scopes channels l ≡ true) where
    parts : (is_state scopes channels (take state_length l) ≡ true) × (is_clock (drop state_length l) ≡ true)
    unfolding is_kept
    parts = both (is_state scopes channels (take state_length l)) _ e

    state-long : length (take state_length l) ≡ state_length
    state-long = simp length-take (omega arith)

    clock-so : ClockIs (drop state_length l)
    clock-so = clock-is (drop state_length l) (simp length-drop (omega arith)) parts.1

    pub kept-fits : FitsKept scopes channels (kept_in scopes l)
    unfolding kept_in
    kept-fits = record { state = decode-fits scopes few channels (take state_length l) state-long parts.0; clock = clock-so.range }

    pub kept-numbers : kept_numbers (kept_in scopes l) ≡ l
    unfolding kept_numbers kept_in
    kept-numbers =
        ap₂ (λ (a b : List ℤ). a ++ b) (decode-numbers scopes few channels (take state_length l) state-long parts.0) clock-so.numbers
        ∙ take-append-drop state_length l
