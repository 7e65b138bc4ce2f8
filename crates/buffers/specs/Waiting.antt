-- What a timed step is to a step, after every list of calls on the fresh engine's buffers (02, note 4): accepted, processes, pairs and listing are those of a step with that choosing draw, and the clock goes on by the
-- wait; refused, nothing moves. Definitions only.
use Rattle.std.specs.Prelude.{◌≡◌, List, ℕ, ◌≤◌, length, Ok}
use Rattle.waits.specs.ByRuns.{Waits}
use Rattle.clock.specs.declared.Clock.{Clock}
use Rattle.clock.specs.Clock.{clock_limit}
use Rattle.machine.specs.Machine.{listing_length, step', timed', on', state, clock}
use Rattle.machine.specs.Questions.{later_by}
use Rattle.buffers.specs.Parts.{Engine, clock_numbers, fresh}
use Rattle.buffers.specs.Effect.{Effect}
use Rattle.buffers.specs.Calls.{BufferCall, asks, effect_of, left_by, engine_after}

-- the step's effect e, and that of the timed step, t, which was accepted
pub record AsStep (x : Engine) (ds : List ℕ) (e t : Effect) : Type 0 where
  pub answer : t.answer ≡ e.answer
  pub output : t.output ≡ e.output
  pub state : t.left state ≡ e.left state
  -- the clock before, what the draws came to, and the clock afterwards
  pub before : Clock
  pub held : x clock ≡ clock_numbers before
  pub E : ℕ
  pub used : ℕ
  pub waits : Waits 0 ds (Ok (E, used))
  pub clock : t.left clock ≡ clock_numbers (later_by before E e.answer.total used)
  pub ticks : (later_by before E e.answer.total used).ticks ≤ clock_limit
  pub draws : (later_by before E e.answer.total used).draws ≤ clock_limit

abbrev pub stepping : Engine → List ℕ → ℕ → Effect
stepping x l d = effect_of x (asks (on' (step' d)) l)

abbrev pub timing : Engine → List ℕ → List ℕ → ℕ → Effect
timing x l ds d = effect_of x (asks (on' (timed' ds d)) l)

pub record Timing : Type 0 where
  pub accepted : (cs : List BufferCall) (l ds : List ℕ) (d : ℕ) → length l ≡ listing_length → let x = engine_after fresh cs in (timing x l ds d).answer.number ≡ 0 → AsStep x ds (stepping x l d) (timing x l ds d)
  pub refused : (cs : List BufferCall) (l ds : List ℕ) (d : ℕ) → length l ≡ listing_length → let x = engine_after fresh cs in ((timing x l ds d).answer.number ≡ 0 → ⊥) → left_by x (asks (on' (timed' ds d)) l) ≡ x
