-- What the steady profile promises of an engine's buffers, up to the next opening (02, note 11): no call is answered with 18, and after no step does the state hold more
-- processes. Definitions only.
use Rattle.std.specs.Prelude.{◌≡◌, List, [], ◌∷◌, ℕ, ◌≤◌, pos, nat_abs, get_or}
use Rattle.machine.specs.Machine.{Request, on', state}
use Rattle.machine.specs.Steady.{IsStep}
use Rattle.buffers.specs.Parts.{Engine}
use Rattle.buffers.specs.Calls.{BufferCall, effect_of, left_by}

-- 01, State: the first number of the state is how many processes it has
unfoldable pub process_count : Engine → ℕ
process_count x = nat_abs (get_or (x state) 0 (pos 0))

-- one call to the engine
pub record Steadily (x : Engine) (c : BufferCall) : Type 0 where
  pub not-eighteen : (effect_of x c).answer.number ≡ 18 → ⊥
  pub no_more : (r : Request) → c.ask ≡ on' r → IsStep r → process_count (left_by x c) ≤ process_count x

-- 02, note 11: each of a list of calls to the engine
pub data AllSteadily : Engine → List BufferCall → Type 0 where
  none : {x : Engine} → AllSteadily x []
  more : {x : Engine} {c : BufferCall} {cs : List BufferCall} → Steadily x c → AllSteadily (left_by x c) cs → AllSteadily x (c ∷ cs)
