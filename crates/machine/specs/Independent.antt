-- What it is to take an entry (02, note 14). Assumes nothing: these are definitions.
use Rattle.std.specs.Prelude.{◌≡◌, List, ℕ}
use Rattle.rules.specs.Rules.{Nth, Key}
use Rattle.rules.specs.Listing.{Entry, entry}
use Rattle.machine.specs.Machine.{listed_as, turn, Machine, step', on_machine}

-- 02, note 14: some draw chooses the entry with key k, and the step is accepted and leads from x to y
pub record Takes (x : Machine) (k : Key) (y : Machine) : Type 0 where
  pub draw : ℕ
  pub number : ℕ
  pub weight : ℕ
  pub shown : List Entry
  pub answered : on_machine (step' draw) x ≡ turn y (listed_as 0 number shown)
  pub chosen : Nth shown number (entry k weight)
