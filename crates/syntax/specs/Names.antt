-- What reading a list of names answers (01, Actions, Model). Assumes nothing: these are definitions.
use Rattle.std.specs.Prelude.{◌≡◌, List, ◌∷◌, ℕ, ◌+◌, ◌≤◌, ◌<◌, length, drop, Err, Ok}
use Rattle.tree.specs.Reading.{Read}
use Rattle.grammar.specs.Grammar.{Names, flat_names}
use Rattle.grammar.specs.Syntax.{count_names}

-- 01, Actions, Model: the tokens from `at` to n are `count` names, parted by commas, and the bracket after them
pub record Listed (ts : List ℕ) (at close n count : ℕ) : Type 0 where
  pub tree : Names
  pub text : drop at ts ≡ flat_names tree (close ∷ drop n ts)
  pub counted : count ≡ count_names tree
  pub fewer : count + at < n
  pub within : n ≤ length ts

unfoldable pub Listing : List ℕ → ℕ → ℕ → Read → Type 0
Listing ts at close (Ok (n, count)) = Listed ts at close n count
Listing ts at close (Err k) = Unit {0}
