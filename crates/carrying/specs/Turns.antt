-- What beginning a search and carrying it on give (02, note 10): the result, and the buffers as an effect says. Definitions only.
use Rattle.std.specs.Prelude.{◌≡◌, [], ℕ, length, get_or, Result, Ok, Err}
use Rattle.machine.specs.Machine.{as_lent, no, Part}
use Rattle.buffers.specs.Parts.{Engine}
use Rattle.buffers.specs.Effect.{Effect}
use Rattle.searching.specs.Run.{entries_of}
use Rattle.resuming.specs.declared.Progress.{Progress}
use Rattle.carrying.specs.declared.Refusal.{Refusal}
use Rattle.carrying.specs.declared.Refusal.TheVariants.{NotHeld, Depth}

-- 02, note 10: 26 after 11
abbrev pub refusal_number : Refusal → ℕ
refusal_number NotHeld = 11
refusal_number Depth = 26

abbrev pub number_of : Result (Unit {0}) Refusal → ℕ
number_of (Ok u) = 0
number_of (Err r) = refusal_number r

-- 02, note 10: a beginning answers its number and nothing else, and the buffers x that were lent are those of the effect
pub record Begins (w : Effect) (r : Result (Unit {0}) Refusal) (x : Engine) : Type 0 where
  pub answer : w.answer ≡ no (number_of r) 0 0 as_lent
  pub buffers : (p : Part) → x p ≡ w.left p
  pub output : w.output ≡ []

-- 02, note 10: the result r and the buffers x that were lent are those of the effect
pub record GivesProgress (w : Effect) (r : Progress) (x : Engine) : Type 0 where
  pub number : r.number ≡ w.answer.number
  pub count : r.count ≡ w.answer.count
  pub ended : r.ended ≡ get_or w.answer.used 0 0
  pub long : r.length ≡ length w.answer.run
  pub run : r.run ≡ entries_of w.answer.run
  pub buffers : (p : Part) → x p ≡ w.left p
