-- Which token a node of the table has, by the node's kind (01, Model text): a name, a whole number, or names parted by commas. Assumes nothing: these are definitions.
use Rattle.std.specs.Prelude.{◌≡◌, List, [], ◌∷◌, false, true, cond, ◌||◌, ℕ, ◌+◌, ◌-◌, ◌≤◌, ◌<◌, eqb, get_or}
use Rattle.token.specs.Kind as kind
use Rattle.tree.specs.Node as node
use Rattle.tree.specs.Node.{kind_of, token_of, third_of, number_kind}
use Rattle.model.specs.Lists.{every_other}

-- token k is a name; ts: the kinds of a text's tokens
abbrev pub IsName : List ℕ → ℕ → Type 0
IsName ts k = get_or ts k 0 ≡ kind.name

-- each of these tokens is a name
abbrev pub Named : List ℕ → List ℕ → Type 0
Named ts [] = Unit {0}
Named ts (k ∷ ks) = IsName ts k × Named ts ks

-- what a node says of tokens: nothing; a whole number; a name; names that are bound; a definition with its parameters; an item with its count
pub data Sort : Type 0 where
  plain wholes names binds defines counts : Sort

unfoldable pub sort_of : ℕ → Sort
sort_of κ =
    cond (eqb κ node.literal || eqb κ node.negative || eqb κ (number_kind false false) || eqb κ (number_kind true false)) wholes
    (cond (eqb κ node.named || eqb κ node.scale_name || eqb κ node.call || eqb κ node.call_with || eqb κ node.start || eqb κ node.start_with || eqb κ node.variable) names
    (cond (eqb κ node.bind || eqb κ node.hand_bind) binds
    (cond (eqb κ node.definition) defines
    (cond (eqb κ node.counted || eqb κ node.counted_with) counts plain))))

unfoldable pub SortFits : Sort → List ℕ → ℕ → ℕ → Type 0
SortFits plain ts token third = Unit {0}
SortFits wholes ts token third = get_or ts token 0 ≡ kind.whole
SortFits names ts token third = IsName ts token
SortFits binds ts token third = (0 < token) × (0 < third) × Named ts (every_other token third)
SortFits defines ts token third = IsName ts token × Named ts (every_other (token + 2) third)
SortFits counts ts token third = (2 ≤ token) × IsName ts token × (get_or ts (token - 2) 0 ≡ kind.whole)

-- the tokens of a node are as its kind says
abbrev pub Fits : List ℕ → ℕ → Type 0
Fits ts c = SortFits (sort_of (kind_of c)) ts (token_of c) (third_of c)
