-- Where a model's variables and definitions stand in the table of nodes, and look-ups by packed names. Assumes nothing: these are definitions.
use Rattle.std.specs.Prelude.{◌≡◌, List, [], ◌∷◌, Bool, true, false, cond, ℕ, zero, suc, ◌+◌, ◌-◌, ◌≤◌, ◌<◌, eqb, length, get_or, None, Some}
use Rattle.std.proofs.Math.Option.{Option, none, some}
use Rattle.token.specs.declared.Content.{Content}
use Rattle.token.specs.Contents.{lows_in, highs_in}
use Rattle.token.specs.Questions.{Found}
use Rattle.grammar.specs.Syntax
use Rattle.tree.specs.Node as node
use Rattle.tree.specs.Node.{kind_of, token_of, left_of}
use Rattle.tree.specs.Table
use Rattle.tree.specs.Table.{Node}
use Rattle.model.specs.Sites.{Definition, variables, definitions}
use Rattle.model.specs.Given.{definition_named}
use Rattle.model.specs.Limits.{local_limit}
use Rattle.names.specs.declared.Lists.{Lists}
use Rattle.names.specs.declared.scope.Scope.{Scope}
use Rattle.names.specs.declared.Parsed.{Parsed}

-- a token as the two numbers of its contents; two names of at most 16 bytes are the same where these are
unfoldable pub packed : List ℕ → List ℕ → ℕ → List ℕ
packed low high k = get_or low k 0 ∷ get_or high k 0 ∷ []

-- the same of a table of contents as it is lent
abbrev pub packed_in : List Content → ℕ → List ℕ
packed_in cs = packed (lows_in cs) (highs_in cs)

-- a place, or none
unfoldable pub found_of : Option ℕ → Found
found_of none = None
found_of (some i) = Some i

unfoldable pub is_found : Found → Bool
is_found (Some i) = true
is_found None = false

-- the name in a list's node: a variable's own, a definition's in the node to the left
unfoldable pub name_at : List ℕ → ℕ → ℕ
name_at t i = cond (eqb (kind_of (get_or t i 0)) node.variable) (token_of (get_or t i 0)) (token_of (get_or t (left_of (get_or t i 0)) 0))

-- the names in the n nodes from i down
unfoldable pub names_down : List ℕ → ℕ → ℕ → List ℕ
names_down t i zero = []
names_down t i (suc n) = name_at t i ∷ names_down t (i - 1) n

-- these names can be looked up
pub record Readable (low high nodes : List ℕ) (i : ℕ) : Type 0 where
  pub node : i < length nodes
  pub left : left_of (get_or nodes i 0) < length nodes
  pub in-low : name_at nodes i < length low
  pub in-high : name_at nodes i < length high

pub record Reach (low high nodes : List ℕ) (first n : ℕ) : Type 0 where
  pub count : n ≤ first + 1
  pub each : (j : ℕ) → j < n → Readable low high nodes (first - j)

abbrev pub ReachIn : Parsed → ℕ → ℕ → Type 0
ReachIn p = Reach (lows_in p.contents.now) (highs_in p.contents.now) p.nodes.now

-- the name k can be looked up in a scope
pub record InScope (low high : List ℕ) (scope : Scope) (k : ℕ) : Type 0 where
  pub full : length scope.names ≡ local_limit
  pub room : scope.count ≤ local_limit
  pub name-low : k < length low
  pub name-high : k < length high
  pub each-low : (i : ℕ) → i < scope.count → get_or scope.names i 0 < length low
  pub each-high : (i : ℕ) → i < scope.count → get_or scope.names i 0 < length high

-- how many nodes of this kind stand one after the other, from k down
unfoldable pub run : List ℕ → ℕ → ℕ → ℕ
run t κ zero = cond (eqb (kind_of (get_or t 0 0)) κ) 1 0
run t κ (suc k) = cond (eqb (kind_of (get_or t (suc k) 0)) κ) (suc (run t κ k)) 0

-- the variables and definitions of a model with its root in the table
pub record Gathered (m : Syntax.Model) (root : ℕ) (lists : Lists) : Type 0 where
  pub root_is : lists.root ≡ root
  pub variables-are : lists.variables ≡ length (variables m)
  pub definitions-are : lists.definitions ≡ length (definitions m)

-- the node i is that of the definition d, and the root of its sums stands before it (01, Model text)
pub record DefinitionNode (t : List ℕ) (d : Definition) (i : ℕ) : Type 0 where
  pub node : Node t i node.definition d.name 0 (length d.params)
  pub after : 0 < i
  pub low : ℕ
  pub sums : Table.Sums t d.sums low (i - 1)

-- the node of the definition with the name k, or none where none has it (01, Model text); w: the bytes of each token
abbrev pub NodeNamed : List ℕ → (ℕ → List ℕ) → List Definition → ℕ → Found → Type 0
NodeNamed t w ds k (Some i) = (p : ℕ × Definition) × (definition_named w k 0 ds ≡ some p) × DefinitionNode t p.1 i
NodeNamed t w ds k None = definition_named w k 0 ds ≡ none
