-- What questions 5 and 6 answer of a text's tokens (01, Opening a text). Assumes nothing: these are definitions.
use Rattle.std.specs.Prelude.{◌≡◌, List, ℕ, ◌<◌, ◌≤◌, length, Result, Ok, Err}
use Rattle.grammar.specs.Grammar.{Model, Reads, Wrong}
use Rattle.grammar.specs.Limit.{token_limit}
use Rattle.syntax.specs.Judged.{Fitting}
use Rattle.syntax.specs.declared.question.Unfit.{Unfit}
use Rattle.syntax.specs.declared.question.Unfit.TheVariants.{Misfit, Crowded}

-- 01, Opening a text: a no to question n at token k: to 5, it goes wrong there; to 6, the text fits, and this is the token that is one too many
pub data No (ts : List ℕ) (n k : ℕ) : Type 0 where
  no5 : n ≡ 5 → Wrong ts k → No ts n k
  no6 : n ≡ 6 → (m : Model) → Reads ts m → token_limit < length ts → k ≡ token_limit → No ts n k

-- the root of the tree, or why there is none
abbrev pub TreeOrUnfit : Type 0
TreeOrUnfit = Result ℕ Unfit

-- 01, Opening a text: each answer's number and token; or the text fits and has few enough tokens
unfoldable pub TextAsks : List ℕ → List ℕ → TreeOrUnfit → Type 0
TextAsks ts t (Ok root) = Fitting ts t root × (length ts ≤ token_limit)
TextAsks ts t (Err (Misfit k)) = No ts 5 k
TextAsks ts t (Err (Crowded k)) = No ts 6 k
