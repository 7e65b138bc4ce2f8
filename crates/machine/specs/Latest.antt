-- Over lists of calls, the state and the clock found after a return are those of the latest accepted save under that name; and which calls leave a save (02, note 2). Assumes nothing: these are
-- definitions.
use Rattle.std.specs.Prelude.{◌≡◌, List, [], ◌∷◌, ◌++◌, Bool, false, not, ◌&&◌, ◌||◌, ℕ, eqb}
use Rattle.std.proofs.Math.Option.{Option, none}
use Rattle.machine.specs.Timed.{Timed}
use Rattle.machine.specs.Saves.{same, kept_under}
use Rattle.machine.specs.Machine.{Held, timed_of, Machine, closed, holding, Request, list', step', report', search', timed', run', save', return', forget', begin', carry', Ask, open', open_steady', on', Call, calls, after}

-- the state and the clock that the machine has under a name
unfoldable pub kept_in : List ℕ → Machine → Option Timed
kept_in n closed = none
kept_in n (holding h) = kept_under n h.saves

-- ---- calls on a name

unfoldable pub saves_name : List ℕ → Request → Bool
saves_name n list' = false
saves_name n (step' d) = false
saves_name n report' = false
saves_name n (search' x d) = false
saves_name n (timed' ds d) = false
saves_name n (run' ws vs k l) = false
saves_name n (save' k) = same k n
saves_name n (return' k) = false
saves_name n (forget' k) = false
saves_name n (begin' x d) = false
saves_name n (carry' k) = false

unfoldable pub forgets_name : List ℕ → Request → Bool
forgets_name n list' = false
forgets_name n (step' d) = false
forgets_name n report' = false
forgets_name n (search' x d) = false
forgets_name n (timed' ds d) = false
forgets_name n (run' ws vs k l) = false
forgets_name n (save' k) = false
forgets_name n (return' k) = false
forgets_name n (forget' k) = same k n
forgets_name n (begin' x d) = false
forgets_name n (carry' k) = false

-- a save under the name that is accepted, of what was asked and the number of the answer
unfoldable pub saves_under : List ℕ → Ask → ℕ → Bool
saves_under n (open' text) a = false
saves_under n (open_steady' text) a = false
saves_under n (on' r) a = saves_name n r && eqb a 0

-- 02, notes 2 and 11: an opening, accepted or refused with 2 to 10 or 29; or a forget of the name that is accepted
unfoldable pub forgets : List ℕ → Ask → ℕ → Bool
forgets n (open' text) a = not (eqb a 1)
forgets n (open_steady' text) a = not (eqb a 1)
forgets n (on' r) a = forgets_name n r && eqb a 0

unfoldable pub alters : List ℕ → Ask → ℕ → Bool
alters n k a = saves_under n k a || forgets n k a

-- of these calls, made to the machine, none has what is tested
pub data Without (t : Ask → ℕ → Bool) : Machine → List Call → Type 0 where
  done : {y : Machine} → Without t y []
  more : {y : Machine} {c : Call} {cs : List Call} → t c.ask (calls y c).answer.number ≡ false → Without t (calls y c).machine cs → Without t y (c ∷ cs)

-- ---- the latest save

-- of calls made to the machine, a save under the name that is accepted, the state and the clock then, and of the calls since none that is tested
pub record Saved (n : List ℕ) (t : Ask → ℕ → Bool) (y : Machine) (cs : List Call) (t' : Timed) : Type 0 where
  pub before : List Call
  pub call : Call
  pub since : List Call
  pub split : cs ≡ before ++ (call ∷ since)
  pub save : call.ask ≡ on' (save' n)
  pub accepted : (calls (after y before) call).answer.number ≡ 0
  pub then-held : Held
  pub machine : after y before ≡ holding then-held
  pub kept_then : timed_of then-held ≡ t'
  pub kept : Without t (calls (after y before) call).machine since

-- 02, note 2: the latest accepted save under the name, which no opening and no forget has undone since
abbrev pub Latest : List ℕ → Machine → List Call → Timed → Type 0
Latest n = Saved n (alters n)

-- an accepted save under the name, the latest or not, that no opening and no forget has undone since
abbrev pub Known : List ℕ → Machine → List Call → Timed → Type 0
Known n = Saved n (forgets n)

-- 02, notes 2 and 4: the machine has the state and the clock of the latest accepted save under the name, of calls made to the fresh machine
pub record Finds (n : List ℕ) (cs : List Call) (y : Machine) : Type 0 where
  pub kept : Timed
  pub latest : Latest n closed cs kept
  pub then-held : Held
  pub machine : y ≡ holding then-held
  pub is : timed_of then-held ≡ kept
