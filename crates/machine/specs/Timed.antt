-- A state with the clock beside it (02, note 4). Assumes nothing: these are definitions.
use Rattle.std.specs.Prelude.{ℕ}
use Rattle.clock.specs.declared.Clock.{Clock}
use Rattle.clock.specs.Clock.{InRange}
use Rattle.model.specs.Resolved
use Rattle.machine.specs.State.{State, GoodState}

pub record Timed : Type 0 where
  pub state : State
  pub clock : Clock

abbrev pub timed : State → Clock → Timed
timed s c = record { state = s; clock = c }

-- 01, Listing, 11, and 02, note 4: a state over the model, and a clock in its range
pub record GoodTimed (m : Resolved.Model) (t : Timed) : Type 0 where
  pub state : GoodState m t.state
  pub clock : InRange t.clock

-- 02, note 4: ticks and waiting draws used; a record, which never has another number of them, so that 1 is never the clock's
abbrev pub clock_length : ℕ
clock_length = 2
