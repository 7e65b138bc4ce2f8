-- What a timed step comes to, and what it leaves (01, Step; 02, note 4). Definitions only.
use Rattle.std.specs.Prelude.{◌≡◌, List, ℕ, ℤ, Result, Err, Ok}
use Rattle.clock.specs.declared.Clock.{Clock}
use Rattle.clock.specs.Clock.{late_number, Brought}
use Rattle.machine.specs.State.{state_numbers}
use Rattle.machine.specs.Timed.{Timed}
use Rattle.machine.specs.Machine.{Turn}
use Rattle.step.specs.declared.Refusal as step
use Rattle.step.specs.Enter as taking
use Rattle.step.specs.Enter.{Taken}
use Rattle.running.specs.declared.Refusal.{Refusal}
use Rattle.running.specs.declared.Refusal.TheVariants.{NoWeight, Draw, Step, Wait}

-- 01, Listing and stepping; 02, note 4: 15, 16, 17 to 19 and 23 to 25
abbrev pub refusal_number : Refusal → ℕ
refusal_number NoWeight = 15
refusal_number Draw = 16
refusal_number (Step r) = taking.refusal_number r
refusal_number (Wait l) = late_number l

-- a refusal of the entry
abbrev pub of_step : step.Refusal → Refusal
of_step r = Step r

-- the entry that a timed step takes and the clock after it, or why it is refused
abbrev pub Stepped : Type 0
Stepped = Result (ℕ × Clock) Refusal

-- 02, note 4: 17 to 19 of entry c, then 23 to 25 by what the waiting draws made of the clock
unfoldable pub stepped_by : Taken → (c : ℕ) → Brought → Stepped
stepped_by (Ok u) c (Ok n) = Ok (c, n)
stepped_by (Ok u) c (Err l) = Err (Wait l)
stepped_by (Err r) c b = Err (Step r)

-- 01, Listing and stepping: 0 or the number of a refusal, the entry taken, 0 if none, and the clock, which a refusal leaves as it is
abbrev pub number_of : Stepped → ℕ
number_of (Ok x) = 0
number_of (Err r) = refusal_number r

abbrev pub entry_of : Stepped → ℕ
entry_of (Ok (c, n)) = c
entry_of (Err r) = 0

abbrev pub clock_of : Clock → Stepped → Clock
clock_of k (Ok (c, n)) = n
clock_of k (Err r) = k

-- 02, note 4: what a timed step from the clock k answers, and the numbers of its state
pub record StepsTo (t : Turn Timed) (k : Clock) (r : Stepped) (zs : List ℤ) : Type 0 where
  pub number : number_of r ≡ t.answer.number
  pub chosen : entry_of r ≡ t.answer.chosen
  pub clock : clock_of k r ≡ t.machine.clock
  pub state : zs ≡ state_numbers t.machine.state
