-- What is promised of a text that the steady profile let through, up to the next opening (02, note 11): none of the calls meets 18, and no step raises the number of
-- processes. Nothing in the machine says under which profile a text was opened. Assumes nothing: these are definitions.
use Rattle.std.specs.Prelude.{◌≡◌, List, [], ◌∷◌, false, ◌⊎◌, ℕ, ◌≤◌, length}
use Rattle.machine.specs.Machine.{Machine, closed, holding, Request, list', step', report', search', timed', run', save', return', forget', on', has_lengths, Call, calls, begin', carry'}
use Rattle.machine.specs.Results.{Runs}

-- how many processes there are
unfoldable pub processes_in : Machine → ℕ
processes_in closed = 0
processes_in (holding h) = length h.state.processes

-- 02, note 4: a step, timed or not, or a run of them
unfoldable pub IsStep : Request → Type 0
IsStep list' = ⊥
IsStep (step' d) = Unit {0}
IsStep report' = ⊥
IsStep (search' x d) = ⊥
IsStep (timed' ds d) = Unit {0}
IsStep (run' ws vs n l) = Unit {0}
IsStep (save' n) = ⊥
IsStep (return' n) = ⊥
IsStep (forget' n) = ⊥
IsStep (begin' x d) = ⊥
IsStep (carry' n) = ⊥

-- a call that is no opening, or one that 1 refuses and that so opens nothing
abbrev pub OpensNothing : Call → Type 0
OpensNothing c = Runs c.ask ⊎ (has_lengths c.ask c.lengths c.output ≡ false)

-- one call to the machine: it isn't answered with 18, and if it is a step there are no more processes afterwards
pub record Steadily (y : Machine) (c : Call) : Type 0 where
  pub not-eighteen : (calls y c).answer.number ≡ 18 → ⊥
  pub no_more : (r : Request) → c.ask ≡ on' r → IsStep r → processes_in (calls y c).machine ≤ processes_in y

-- 02, note 11: each of a list of calls to the machine
pub data AllSteadily : Machine → List Call → Type 0 where
  none : {y : Machine} → AllSteadily y []
  more : {y : Machine} {c : Call} {cs : List Call} → Steadily y c → AllSteadily (calls y c).machine cs → AllSteadily y (c ∷ cs)
