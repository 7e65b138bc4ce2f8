-- Where the table of nodes says that the system line begins (01, question 10: its start). Assumes nothing: these are definitions.
use Rattle.std.specs.Prelude.{List, cond, ℕ, ◌-◌, eqb, ltb, get_or}
use Rattle.tree.specs.Node as node
use Rattle.tree.specs.Node.{kind_of, token_of, left_of}

-- the node of the first item of the system line with its root at k
unfoldable pub first_item : List ℕ → ℕ → ℕ
first_item t k = cond (eqb (kind_of (get_or t k 0)) node.system) (left_of (get_or t k 0)) k

-- how many tokens stand before the name of an item with a count: the count and `*`
abbrev pub before_name : ℕ
before_name = 2

-- the first token of an item: its name, or its count
unfoldable pub item_token : ℕ → ℕ
item_token c = cond (ltb (kind_of c) node.counted) (token_of c) (token_of c - before_name)
