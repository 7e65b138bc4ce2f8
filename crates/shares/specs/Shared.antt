-- What a report is made of (02, note 6): the numbers of a state, and its listing. Definitions only.
use Rattle.std.specs.Prelude.{◌≡◌, List, ℕ, ℤ, length}
use Rattle.model.specs.Resolved
use Rattle.model.specs.Good.{GoodModel}
use Rattle.rules.specs.Listing.{Entry}
use Rattle.machine.specs.State.{State, GoodState, state_numbers}
use Rattle.machine.specs.Machine.{listing, entries_are}
use Rattle.listing.specs.Buffer.{filled_numbers}

-- 02, note 6: the numbers zs of a state s over a model, and its listing of so many entries es in the buffer l
pub record Shared (zs : List ℤ) (l : List ℕ) (count : ℕ) (m : Resolved.Model) (s : State) (es : List Entry) : Type 0 where
  pub good : GoodModel m
  pub state : GoodState m s
  pub numbers : zs ≡ state_numbers s
  pub listed : listing m s ≡ entries_are es
  pub filled : l ≡ filled_numbers es
  pub count-is : count ≡ length es
