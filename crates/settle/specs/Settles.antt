-- What settling leaves in the tables, told by the text's words and its syntax tree alone: nothing that is used is as it was lent (01, State: equal texts give equal contents). Assumes nothing: these are definitions.
use Rattle.std.specs.Prelude.{◌≡◌, List, ℕ, ◌+◌, ◌-◌, ◌≤◌, ◌<◌, length, get_or, take}
use Rattle.grammar.specs.Syntax
use Rattle.tree.specs.Node.{token_of}
use Rattle.tree.specs.Table
use Rattle.model.specs.Sites.{variables, definitions}
use Rattle.settle.specs.declared.Model.{Model}
use Rattle.settle.specs.Walks.{sum, role_at, Point, cell_of, point_at, scope_at}

-- the node of sum n, among those of the table t from first to line
pub record SumNode (t : List ℕ) (first line n : ℕ) : Type 0 where
  pub at : ℕ
  pub from : first ≤ at
  pub to : at ≤ line
  pub is_sum : role_at t at ≡ sum
  pub number : token_of (get_or t at 0) ≡ n

-- what the walk over the tree m with the nodes t knows before node i; w: the bytes of each token
abbrev pub point_in : (ℕ → List ℕ) → Syntax.Model → List ℕ → ℕ → Point
point_in w m t i = point_at w (variables m) (definitions m) t i

-- the system line's node, below the nodes of variables and definitions
abbrev pub line_in : Syntax.Model → ℕ → ℕ
line_in m root = root - length (variables m) - length (definitions m)

-- the tables of the tree m after settling, and the numbers that say where in them it stands; w: the bytes of each token
pub record Settles (w : ℕ → List ℕ) (m : Syntax.Model) (nodes roots scopes : List ℕ) (x : Model) : Type 0 where
  -- the reader's table: the tree's nodes and no more
  pub table : List ℕ
  pub holds : Table.Model table m 0 x.lists.root
  pub size : length table ≡ x.lists.root + 1
  -- numbers
  pub variables-are : x.lists.variables ≡ length (variables m)
  pub definitions-are : x.lists.definitions ≡ length (definitions m)
  pub sums-are : x.sums ≡ (point_in w m table (line_in m x.lists.root + 1)).sums
  pub channels-are : x.channels ≡ length (point_in w m table (line_in m x.lists.root + 1)).seen
  -- nodes: those of the definitions and the system line are resolved, the others are the reader's
  pub nodes-fit : x.lists.root < length nodes
  pub resolved : (i : ℕ) → length (variables m) ≤ i → i ≤ line_in m x.lists.root → get_or nodes i 0 ≡ cell_of w (variables m) (definitions m) table i (point_in w m table i)
  pub before : (i : ℕ) → i < length (variables m) → get_or nodes i 0 ≡ get_or table i 0
  pub after : (i : ℕ) → line_in m x.lists.root < i → i ≤ x.lists.root → get_or nodes i 0 ≡ get_or table i 0
  -- sums: each has a node; its branches' root is the node before that, its locals are those known there
  pub roots-fit : x.sums ≤ length roots
  pub scopes-fit : x.sums ≤ length scopes
  pub numbered : (n : ℕ) → n < x.sums → SumNode table (length (variables m)) (line_in m x.lists.root) n
  pub branches : (i : ℕ) → length (variables m) ≤ i → i ≤ line_in m x.lists.root → role_at table i ≡ sum → get_or roots (token_of (get_or table i 0)) 0 ≡ i - 1
  pub locals : (i : ℕ) → length (variables m) ≤ i → i ≤ line_in m x.lists.root → role_at table i ≡ sum → get_or scopes (token_of (get_or table i 0)) 0 ≡ scope_at (point_in w m table i)

-- two sets of tables are the same as far as a model with these numbers uses them: its nodes up to the root, and a row for each sum
pub record SameTables (nodes roots scopes nodes' roots' scopes' : List ℕ) (x : Model) : Type 0 where
  pub same_nodes : take (x.lists.root + 1) nodes ≡ take (x.lists.root + 1) nodes'
  pub same-roots : take x.sums roots ≡ take x.sums roots'
  pub same-scopes : take x.sums scopes ≡ take x.sums scopes'
