-- What a step leaves (01, Step). Definitions only.
use Rattle.std.specs.Prelude.{◌≡◌, List, ℤ}
use Rattle.machine.specs.State.{State, state_numbers}
use Rattle.machine.specs.Machine.{Turn}
use Rattle.engine.specs.declared.Answer.{Answer}
use Rattle.engine.specs.Gives.{filled}

-- 01, Step: the answer and the numbers that a turn leaves
pub record Left (t : Turn State) (r : Answer) (zs : List ℤ) : Type 0 where
  pub answer : r ≡ filled t.answer.number t.answer.count t.answer.total t.answer.chosen
  pub state : zs ≡ state_numbers t.machine
