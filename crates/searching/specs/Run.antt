-- What a search gives (02, notes 8 and 9): its result, number by number, and the buffers as an effect says. Definitions only.
use Rattle.std.specs.Prelude.{◌≡◌, List, ◌++◌, ℕ, length, take, replicate}
use Rattle.runs.specs.Tree as tree
use Rattle.machine.specs.Machine.{depth_limit, Part}
use Rattle.buffers.specs.Parts.{Engine}
use Rattle.buffers.specs.Effect.{Effect}
use Rattle.searching.specs.declared.Found.{Found}

-- 02, note 8: eight entry numbers, unused ones 0
unfoldable pub entries_of : List ℕ → List ℕ
entries_of r = take depth_limit (r ++ replicate depth_limit 0)

-- 02, note 8: none and refusals give zeros
abbrev pub bare : ℕ → Found
bare n = record { number = n; length = 0; run = replicate depth_limit 0 }

-- 02, note 8: the result r and the buffers x that were lent are those of the effect
pub record GivesRun (w : Effect) (r : Found) (x : Engine) : Type 0 where
  pub number : r.number ≡ w.answer.number
  pub long : r.length ≡ length w.answer.run
  pub run : r.run ≡ entries_of w.answer.run
  pub buffers : (p : Part) → x p ≡ w.left p

-- ---- within a search

-- a run, none, or 27
unfoldable pub result_of : tree.Answer → Found
result_of (tree.found r) = record { number = 0; length = length r; run = entries_of r }
result_of tree.nothing = bare 0
result_of tree.unsure = bare 27
