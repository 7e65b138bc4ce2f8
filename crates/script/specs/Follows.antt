-- How the rule machine answers the calls of a script, and what an engine that holds it is left with (01, State and rule machine: one claim about the whole list of calls). Definitions only.
use Rattle.std.specs.Prelude.{◌≡◌, List, [], ◌∷◌, ◌++◌, ℕ, ◌*◌, length, take, drop}
use Rattle.machine.specs.Machine.{Answer, Machine, Part, size, Call, calls, answers, after}
use Rattle.buffers.specs.Listing.{shown}
use Rattle.buffers.specs.Parts.{Engine}
use Rattle.buffers.specs.Calls.{Holds}
use Rattle.script.specs.Rows.{answer_width, output_width, calls_in}
use Rattle.script.specs.Run.{Lent, room_of, answer_numbers}

-- 01, State: the engine is the first numbers of each part
unfoldable pub engine_in : Lent → Engine
engine_in x = λ (p : Part). take (size p) (x.engine p)

-- 01, Rule machine: the numbers of answers, one after the other
unfoldable pub answers_numbers : List Answer → List ℕ
answers_numbers [] = []
answers_numbers (a ∷ bs) = answer_numbers a ++ answers_numbers bs

-- 01, Rule machine: a call's output in the part of its row: what it is lent of that, and the rest as it was
unfoldable pub part_shown : Call → Answer → List ℕ → List ℕ
part_shown c a l = shown a.listing (take c.output l) ++ drop c.output l

-- 01, Rule machine: the outputs of calls that the machine y is fed, each in a part of its own
unfoldable pub outputs_shown : Machine → List Call → List ℕ → List ℕ
outputs_shown y [] l = l
outputs_shown y (c ∷ cs) l = part_shown c (calls y c).answer (take output_width l) ++ outputs_shown (calls y c).machine cs (drop output_width l)

-- 01, Rule machine: the machine y is fed the calls cs; the answers are its answers, each output is as its answer says, the engine holds the machine afterwards, and nothing else is changed
pub record Follows (y : Machine) (cs : List Call) (x x' : Lent) : Type 0 where
  pub answered : x'.answers ≡ answers_numbers (answers y cs) ++ drop (length cs * answer_width) x.answers
  pub shows : x'.outputs ≡ outputs_shown y cs x.outputs
  pub holds : Holds (engine_in x') (after y cs)
  pub beyond : (p : Part) → drop (size p) (x'.engine p) ≡ drop (size p) (x.engine p)

-- 01, State and rule machine: whatever machine the engine holds at first, the closed one where it is fresh, a script does to the engine what its calls do to the rule machine
abbrev pub Refines : (script texts numbers words : List ℕ) → Lent → Lent → Type 0
Refines script texts numbers words x x' = (y : Machine) → Holds (engine_in x) y → Follows y (calls_in script texts numbers words (room_of x)) x x'
