-- A search that is begun and carried on, over lists of calls (02, note 10): which beginning is in force, by what was asked and answered, with the model and the state that were held when it was accepted;
-- and what carrying on from it answers. Assumes nothing: these are definitions.
use Rattle.std.specs.Prelude.{◌≡◌, List, [], ◌∷◌, cond, ◌||◌, ℕ, ◌+◌, ◌≤◌, ◌<◌, eqb}
use Rattle.std.proofs.Math.Option.{Option, none, some}
use Rattle.model.specs.Resolved
use Rattle.runs.specs.Walk as walk
use Rattle.runs.specs.Steps.{states}
use Rattle.machine.specs.State.{State}
use Rattle.machine.specs.Machine.{as_lent, Answer, no, moves_to, searches, count_limit, progress_as, Machine, closed, holding, Request, list', step', report', search', timed', run', save', return', forget', begin', carry', Ask, open', open_steady', on', Call, calls}

-- ---- which beginning is in force

-- 02, note 10: what a beginning asked, over which model and at which state it was accepted, and by how many states in all it was carried on since
pub record Beginning : Type 0 where
  pub model : Resolved.Model
  pub state : State
  pub name : List ℕ
  pub depth : ℕ
  pub pieces : ℕ

-- by n states more
abbrev pub carried_by : Beginning → ℕ → Beginning
carried_by b n = record { model = b.model; state = b.state; name = b.name; depth = b.depth; pieces = b.pieces + n }

-- the same of the one in force, if any is
unfoldable pub further : ℕ → Option Beginning → Option Beginning
further n none = none
further n (some b) = some (carried_by b n)

-- 02, note 10: a beginning that was accepted, at what the machine held
unfoldable pub beginning_at : Machine → (name : List ℕ) (depth : ℕ) → Option Beginning
beginning_at closed x d = none
beginning_at (holding h) x d = some (record { model = h.model; state = h.state; name = x; depth = d; pieces = 0 })

-- 02, note 10: of a request to the machine y that was answered with this number: a beginning that is accepted replaces the one before, carrying on counts unless 1, 11 or 28
-- refuse it, and nothing else does
unfoldable pub noted : (y : Machine) → Request → (number : ℕ) → Option Beginning → Option Beginning
noted y list' a o = o
noted y (step' d) a o = o
noted y report' a o = o
noted y (search' x d) a o = o
noted y (timed' ds d) a o = o
noted y (run' ws vs n l) a o = o
noted y (save' n) a o = o
noted y (return' n) a o = o
noted y (forget' n) a o = o
noted y (begin' x d) a o = cond (eqb a 0) (beginning_at y x d) o
noted y (carry' n) a o = cond (eqb a 0 || eqb a 27) (further n o) o

-- 02, note 10: an opening ends it, accepted or refused, but not where 1 refuses it
unfoldable pub heard : (y : Machine) → Ask → (number : ℕ) → Option Beginning → Option Beginning
heard y (open' text) a o = cond (eqb a 1) o none
heard y (open_steady' text) a o = cond (eqb a 1) o none
heard y (on' r) a o = noted y r a o

-- 02, note 10: after a list of calls
unfoldable pub in_force : Option Beginning → Machine → List Call → Option Beginning
in_force o y [] = o
in_force o y (c ∷ cs) = in_force (heard y c.ask (calls y c).answer.number o) (calls y c).machine cs

-- ---- what carrying on answers

-- 02, note 10: how many states the search that was begun has in all
unfoldable pub states_of : Beginning → ℕ
states_of b = states (walk.walk (moves_to b.model b.name) b.state b.depth)

-- 02, note 10: what a search in one call at the state where it began answers, with the count of all states, and ended
unfoldable pub as_one_call : Beginning → Answer
as_one_call b = let a = (searches b.name b.depth b.model b.state).answer in progress_as a.number (states_of b) 1 a.run

-- 02, note 10: carrying on by n where o is in force
pub data Told (n : ℕ) (a : Answer) : Option Beginning → Type 0 where
  -- 28: none is under way
  none_begun : a ≡ no 28 0 0 as_lent → Told n a none
  has_ended : {b : Beginning} → states_of b ≤ b.pieces → a ≡ no 28 0 0 as_lent → Told n a (some b)
  -- 28: too many
  too_far : {b : Beginning} → count_limit < b.pieces + n → a ≡ no 28 0 0 as_lent → Told n a (some b)
  -- the counts add up, whatever the pieces were
  goes_on : {b : Beginning} → b.pieces + n ≤ count_limit → b.pieces + n < states_of b → a ≡ progress_as 0 (b.pieces + n) 0 [] → Told n a (some b)
  ends : {b : Beginning} → b.pieces + n ≤ count_limit → b.pieces < states_of b → states_of b ≤ b.pieces + n → a ≡ as_one_call b → Told n a (some b)
