-- After every list of calls on the fresh engine's buffers, an accepted return leaves the numbers of the state and of the clock that the latest accepted save under its name kept; and where such a save
-- stands, a return is accepted (02, notes 2 and 4). Definitions only.
use Rattle.std.specs.Prelude.{◌≡◌, List, map, ℕ}
use Rattle.machine.specs.State.{state_numbers}
use Rattle.machine.specs.Timed.{Timed}
use Rattle.machine.specs.Machine as machine
use Rattle.machine.specs.Machine.{closed, return', on'}
use Rattle.machine.specs.Results.{Lent}
use Rattle.machine.specs.Latest.{Latest, Known}
use Rattle.buffers.specs.Parts.{clock_numbers, fresh}
use Rattle.buffers.specs.Calls.{BufferCall, effect_of, left_by, fed, engine_after}

-- 02, notes 2 and 4: what the latest accepted save under the name kept, and the engine's state buffer and clock after the call c
pub record Comes (n : List ℕ) (cs : List BufferCall) (c : BufferCall) : Type 0 where
  pub kept : Timed
  pub latest : Latest n closed (map fed cs) kept
  pub numbers : left_by (engine_after fresh cs) c machine.state ≡ state_numbers kept.state
  pub clock : left_by (engine_after fresh cs) c machine.clock ≡ clock_numbers kept.clock

-- of every list of calls, and a return after it
pub record Found : Type 0 where
  pub comes : (n : List ℕ) (cs : List BufferCall) (c : BufferCall) → c.ask ≡ on' (return' n) → (effect_of (engine_after fresh cs) c).answer.number ≡ 0 → Comes n cs c
  pub accepts : (n : List ℕ) (cs : List BufferCall) (c : BufferCall) (s : Timed) → c.ask ≡ on' (return' n) → Known n closed (map fed cs) s → Lent (fed c) → (effect_of (engine_after fresh cs) c).answer.number ≡ 0
