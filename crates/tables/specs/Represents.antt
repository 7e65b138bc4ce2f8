-- What the tables of an opened text hold together: a resolved model (model: Resolved). Assumes nothing: these are definitions.
use Rattle.std.specs.Prelude.{◌≡◌, List, [], ◌∷◌, ℕ, ◌+◌, ◌-◌, ◌≤◌, ℤ, length, get_or}
use Rattle.std.proofs.Math.Option.{some}
use Rattle.std.proofs.Math.ListN.{get_elem?}
use Rattle.tree.specs.Node as node
use Rattle.tree.specs.Node.{token_of, left_of, third_of}
use Rattle.model.specs.Resolved
use Rattle.model.specs.Scope.{scope_of}
use Rattle.tables.specs.Settled.{kind_at, Number, Index, Pair, Branches}

module _ (t : List ℕ) where
  -- the numbers of a definition's sums, each in its sum's node
  unfoldable pub Sums : List ℕ → ℕ → Type 0
  Sums [] k = ⊥
  Sums (n ∷ []) k = Index t node.sum n k
  Sums (n ∷ o ∷ ns) k = Pair t node.beside (Index t node.sum n) (Sums (o ∷ ns)) k

  -- a definition: its number of parameters in the third field, its sums below
  pub record Definition (d : Resolved.Defined) (k : ℕ) : Type 0 where
    pub root : ℕ
    pub above : k ≡ root + 1
    pub kind-is : kind_at t k ≡ node.definition
    pub params_are : third_of (get_or t k 0) ≡ d.params
    pub holds : Sums d.sums root

  -- the values of an item of the system line, one or more
  unfoldable pub Wholes : List ℤ → ℕ → Type 0
  Wholes [] k = ⊥
  Wholes (z ∷ []) k = Number t node.literal z k
  Wholes (z ∷ y ∷ zs) k = Pair t node.whole (Number t node.literal z) (Wholes (y ∷ zs)) k

  -- the node of an item: its definition in the first field, its count in the second, its number of values in the third
  pub record Item (kind : ℕ) (s : Resolved.Start) (k : ℕ) : Type 0 where
    pub kind-is : kind_at t k ≡ kind
    pub definition-is : token_of (get_or t k 0) ≡ s.definition
    pub count-is : left_of (get_or t k 0) ≡ s.count
    pub values-are : third_of (get_or t k 0) ≡ length s.values

  -- with values below
  pub record Valued (s : Resolved.Start) (k : ℕ) : Type 0 where
    pub root : ℕ
    pub above : k ≡ root + 1
    pub item : Item node.start_with s k
    pub holds : Wholes s.values root

  -- an item of the system line
  pub data Start (s : Resolved.Start) (k : ℕ) : Type 0 where
    bare : Item node.start s k → s.values ≡ [] → Start s k
    valued : Valued s k → Start s k

  -- the system line
  unfoldable pub Starts : List Resolved.Start → ℕ → Type 0
  Starts [] k = ⊥
  Starts (s ∷ []) k = Start s k
  Starts (s ∷ r ∷ ss) k = Pair t node.system (Start s) (Starts (r ∷ ss)) k

-- the settled nodes t, and for each sum by its number the root of its branches and what is known of it (model: Scope). The node of definition d
-- stands left of node root - variables - d; the system line stands below the definitions.
pub record Represents (t roots scopes : List ℕ) (root variables definitions sums channels : ℕ) (m : Resolved.Model) : Type 0 where
  pub sums-are : sums ≡ length m.sums
  pub roots-fit : sums ≤ length roots
  pub scopes-fit : sums ≤ length scopes
  pub branches : (n : ℕ) (s : Resolved.Sum) → get_elem? m.sums n ≡ some s → Branches t s.branches (get_or roots n 0)
  pub scope : (n : ℕ) (s : Resolved.Sum) → get_elem? m.sums n ≡ some s → get_or scopes n 0 ≡ scope_of s
  pub definitions-are : definitions ≡ length m.definitions
  pub definition : (d : ℕ) (e : Resolved.Defined) → get_elem? m.definitions d ≡ some e → Definition t e (left_of (get_or t (root - variables - d) 0))
  pub channels-are : channels ≡ m.channels
  pub starts : Starts t m.starts (root - variables - definitions)
