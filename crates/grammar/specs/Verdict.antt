-- What the tokens of a text read as (01, Opening a text, question 5), as a function: the tree that is written so, looked for among all trees that are deep enough, or the place
-- at which the machine stops. That it is a reading where there is one, and the place at which the text goes wrong where there is none, is proved in proofs/Verdict.antt.
-- Assumes nothing: these are definitions.
use Rattle.std.specs.Prelude.{List, [], ◌∷◌, cond, ℕ, ◌+◌, ◌*◌, length}
use Rattle.std.proofs.Math.Option.{Option, none, some}
use Rattle.token.specs.Token.{same_bytes as same_numbers}
use Rattle.grammar.specs.Grammar.{Model, flat_model}
use Rattle.grammar.specs.Machine.{Out, good, bad, run, start}
use Rattle.grammar.specs.Every.{every_model}

-- 01, question 5: the tokens fit, with this reading, or go wrong at this token (or, at their number, at their end)
pub data Verdict : Type 0 where
  fitting : Model → Verdict
  failing : ℕ → Verdict

-- the first of these trees that is written so
unfoldable pub first_written : List ℕ → List Model → Option Model
first_written ts [] = none
first_written ts (m ∷ ms) = cond (same_numbers (flat_model m []) ts) (some m) (first_written ts ms)

-- a tree of so many tokens is no deeper
abbrev pub depth_for : List ℕ → ℕ
depth_for ts = 4 * length ts + 2

-- where the machine stopped; it doesn't where no tree is written so
unfoldable pub stopped : Out → ℕ
stopped good = 0
stopped (bad k) = k

unfoldable pub verdict_of : Option Model → Out → Verdict
verdict_of (some m) o = fitting m
verdict_of none o = failing (stopped o)

unfoldable pub verdict : List ℕ → Verdict
verdict ts = verdict_of (first_written ts (every_model (depth_for ts))) (run 0 start ts)
