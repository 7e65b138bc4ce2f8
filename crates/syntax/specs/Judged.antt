-- What reading a whole text answers (01, Opening a text, question 5), and what the reader's parts are written as where the grammar has no one type for
-- them. Assumes nothing: these are definitions.
use Rattle.std.specs.Prelude.{List, ℕ, ◌+◌, ◌<◌, length, Result, Ok, Err}
use Rattle.grammar.specs.Grammar.{Model, Prefix, Choices, flat_prefix, flat_choices, Reads, Wrong}
use Rattle.grammar.specs.Syntax.{sums_prefix, sums_choices, syntax_of}
use Rattle.tree.specs.Table

-- a sum: a prefix and those after it
unfoldable pub written_sum : Prefix × Choices → List ℕ → List ℕ
written_sum s ts = flat_prefix s.0 (flat_choices s.1 ts)

-- how many sums it has, itself included
unfoldable pub count_sum : Prefix × Choices → ℕ
count_sum s = 1 + sums_prefix s.0 + sums_choices s.1

-- a reading, and the node at which the table, where it has room, holds its syntax tree
pub record Fitting (ts t : List ℕ) (root : ℕ) : Type 0 where
  pub tree : Model
  pub reads : Reads ts tree
  pub few : root < length ts
  pub shown : root < length t → Table.Model t (syntax_of tree) 0 root

-- the root of the tree, or the token that doesn't fit
abbrev pub Text : Type 0
Text = Result ℕ ℕ

-- 5: the text fits, or goes wrong at this token
unfoldable pub TextJudged : List ℕ → List ℕ → Text → Type 0
TextJudged ts t (Ok root) = Fitting ts t root
TextJudged ts t (Err k) = Wrong ts k
