-- Within the calls that move the clock: what a timed step gives, and what a return makes of the state and the clock (02, notes 2 and 4). Definitions only.
use Rattle.std.specs.Prelude.{◌≡◌, true, cond, List, ℕ, eqb, ℤ, take, drop, Result, Err, Ok}
use Rattle.clock.specs.declared.Clock.{Clock}
use Rattle.machine.specs.State.{state_length}
use Rattle.state.specs.Test.{at}
use Rattle.saves.specs.Kept.{is_natural, clock_at}
use Rattle.saves.specs.Change.{Written, returning_numbers}
use Rattle.engine.specs.declared.Answer.{Answer}
use Rattle.engine.specs.declared.Timed.{Timed}
use Rattle.engine.specs.declared.Told.{Told}
use Rattle.engine.specs.declared.Refusal.{Refusal}
use Rattle.engine.specs.Gives.{bare, accepted, refusal_answer}

abbrev pub timed : Answer → Clock → Timed
timed a c = record { answer = a; clock = c }

-- 02, note 4: what a timed step from the clock c gives: accepted, its answer and the clock brought forward; refused, the clock as it was
abbrev pub timed_by : Clock → Result (Told × Clock) Refusal → Timed
timed_by c (Ok (t, k)) = timed (accepted t) k
timed_by c (Err r) = timed (refusal_answer r) c

-- the two numbers after a state that a return finds under the name aren't below 0; ks: a state with its clock
pub record Keeping (n : List ℕ) (ks ss : List ℤ) : Type 0 where
  pub ticks : (returning_numbers n ks ss).number ≡ 0 → is_natural (at (drop state_length (returning_numbers n ks ss).kept) 0) ≡ true
  pub draws : (returning_numbers n ks ss).number ≡ 0 → is_natural (at (drop state_length (returning_numbers n ks ss).kept) 1) ≡ true

-- 02, notes 2 and 4: accepted, the state and the clock are those found; refused, those before
pub record Returned (w : Written) (before : List ℤ) (c : Clock) (r : Timed) (zs : List ℤ) : Type 0 where
  pub answer : r.answer ≡ bare w.number 0 0
  pub state : zs ≡ cond (eqb w.number 0) (take state_length w.kept) before
  pub clock : r.clock ≡ cond (eqb w.number 0) (clock_at (drop state_length w.kept)) c
