-- The numbers of a state with its clock, as a place has them: the state's, then ticks and draws (02, note 4; docs/LAYOUT.md). Definitions only.
use Rattle.std.specs.Prelude.{List, [], ◌∷◌, ◌++◌, Bool, true, false, ◌&&◌, ℕ, ℤ, pos, negsuc, nat_abs, take, drop}
use Rattle.clock.specs.declared.Clock.{Clock}
use Rattle.clock.specs.Clock.{InRange, is_in_range}
use Rattle.machine.specs.State.{state_length, state_numbers}
use Rattle.machine.specs.Timed.{Timed, timed}
use Rattle.state.specs.Fits.{Fits}
use Rattle.state.specs.Test.{at, is_state}
use Rattle.state.specs.Decode.{decode}

-- the clock's two numbers
abbrev pub clock_place : Clock → List ℤ
clock_place c = pos c.ticks ∷ pos c.draws ∷ []

-- the numbers zs of a state, and those of a clock
abbrev pub besides : List ℤ → Clock → List ℤ
besides zs c = zs ++ clock_place c

unfoldable pub kept_numbers : Timed → List ℤ
kept_numbers t = besides (state_numbers t.state) t.clock

-- not below 0
unfoldable pub is_natural : ℤ → Bool
is_natural (pos n) = true
is_natural (negsuc n) = false

-- the clock that two numbers are
abbrev pub clock_at : List ℤ → Clock
clock_at l = record { ticks = nat_abs (at l 0); draws = nat_abs (at l 1) }

-- 02, note 4, 11: a clock's two numbers, in their range
unfoldable pub is_clock : List ℤ → Bool
is_clock l = (is_natural (at l 0) && is_natural (at l 1)) && is_in_range (clock_at l)

unfoldable pub is_kept : List ℕ → ℕ → List ℤ → Bool
is_kept scopes channels l = is_state scopes channels (take state_length l) && is_clock (drop state_length l)

unfoldable pub kept_in : List ℕ → List ℤ → Timed
kept_in scopes l = timed (decode scopes (take state_length l)) (clock_at (drop state_length l))

-- a state over these sums and channel names, and a clock in its range
pub record FitsKept (scopes : List ℕ) (channels : ℕ) (t : Timed) : Type 0 where
  pub state : Fits scopes channels t.state
  pub clock : InRange t.clock
