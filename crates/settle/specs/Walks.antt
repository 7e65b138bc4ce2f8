-- Resolving a table of nodes, one node after the other in the text's order: what each node's cell becomes, and what the walk then knows. Assumes nothing: these are definitions.
use Rattle.std.specs.Prelude.{◌≡◌, List, [], ◌∷◌, ◌++◌, Bool, true, false, cond, ◌&&◌, ◌||◌, ◌⊎◌, ℕ, zero, suc, ◌+◌, ◌-◌, ◌*◌, ◌≤◌, eqb, leb, nat_abs, length, get_or, take}
use Rattle.value.specs.Range.{InRange}
use Rattle.word.specs.Number.{worth}
use Rattle.grammar.specs.Syntax
use Rattle.tree.specs.Node as node
use Rattle.tree.specs.Node.{cell, kind_of, token_of, left_of, third_of, number_kind}
use Rattle.model.specs.Lists.{every_other}
use Rattle.model.specs.Sites.{Scope, Variable, Definition}
use Rattle.model.specs.Words.{whole_of, decimal_of}
use Rattle.model.specs.Limits.{local_limit, count_limit}
use Rattle.model.specs.Good.{scale_limit}
use Rattle.model.specs.Scope.{scope_width}
use Rattle.model.specs.Given.{Meaning, is_given, place_in, meaning, definition_named}
use Rattle.model.specs.Resolved
use Rattle.model.specs.Resolved.{is_channel_name, firsts, or_zero, definition_number, number_scale, value_named, scale_named}
use Rattle.tables.specs.Settled.{number_cell, channel}

-- ---- what a node is to the walk, by its kind (01, Model text)

pub data Role : Type 0 where
  -- a whole number, with `-` or not
  whole : Bool → Role
  -- a name that is a value or a channel
  name : Role
  -- a number of a rate: with `-` or not, decimal or not
  number : Bool → Bool → Role
  -- a name that is a rate's scale
  scale : Role
  -- an action, which may bind names; the end of a branch, where they go out of scope
  action ending : Role
  sum call definition : Role
  -- an item of the system line, with a count or not
  item : Bool → Role
  -- nothing that changes
  plain : Role

unfoldable pub role_of : ℕ → Role
role_of κ =
    cond (eqb κ node.literal) (whole false)
    (cond (eqb κ node.negative) (whole true)
    (cond (eqb κ node.named) name
    (cond (eqb κ (number_kind false false)) (number false false)
    (cond (eqb κ (number_kind true false)) (number true false)
    (cond (eqb κ (number_kind false true)) (number false true)
    (cond (eqb κ (number_kind true true)) (number true true)
    (cond (eqb κ node.scale_name) scale
    (cond (leb node.wait κ && leb κ node.hand_bind) action
    (cond (eqb κ node.stop || eqb κ node.dot) ending
    (cond (eqb κ node.sum) sum
    (cond (eqb κ node.call || eqb κ node.call_with) call
    (cond (eqb κ node.definition) definition
    (cond (eqb κ node.start || eqb κ node.start_with) (item false)
    (cond (eqb κ node.counted || eqb κ node.counted_with) (item true) plain))))))))))))))

-- node i of the table t
abbrev pub role_at : List ℕ → ℕ → Role
role_at t i = role_of (kind_of (get_or t i 0))

-- ---- what the walk knows before a node

pub record Point : Type 0 where
  -- the locals in scope (01, Model text, last paragraph)
  pub scope : Scope
  -- the channel names met, each by its first use (01, State)
  pub seen : List ℕ
  -- how many sums and definitions are done
  pub sums : ℕ
  pub definitions : ℕ

-- what a sum at this point has: its locals, and its definition (model: Scope)
abbrev pub scope_at : Point → ℕ
scope_at p = length p.scope + p.definitions * scope_width

-- the parameters of definition n, none past the last
unfoldable pub params_at : List Definition → ℕ → Scope
params_at [] n = []
params_at (d ∷ ds) zero = d.params
params_at (d ∷ ds) (suc n) = params_at ds n

-- ---- what the walk needs of a node, where questions 7 to 9 found no fault

-- 01, question 7: of a number, a whole one is in range; told: a decimal's contents are in the table
abbrev pub NumberSafe : (ℕ → List ℕ) → (ℕ → Type 0) → Syntax.Number → Type 0
NumberSafe w told (Syntax.number b false k) = InRange (whole_of w b k)
NumberSafe w told (Syntax.number b true k) = (nat_abs (decimal_of w b k) ≤ scale_limit) × told k

-- an action that binds names, or none to bind
abbrev pub Binds : ℕ → ℕ → Type 0
Binds κ n = (κ ≡ node.bind) ⊎ ((κ ≡ node.hand_bind) ⊎ (n ≡ 0))

-- c: the node's cell; bound: how many names the action of a branch binds, at the branch's end
abbrev pub SafeBy : (ℕ → List ℕ) → List Variable → (ℕ → Type 0) → Role → ℕ → ℕ → Point → Type 0
SafeBy w vs told (whole b) c bound p = InRange (whole_of w b (token_of c))
SafeBy w vs told name c bound p = Unit {0}
SafeBy w vs told (number b d) c bound p = NumberSafe w told (Syntax.number b d (token_of c))
SafeBy w vs told scale c bound p = is_given (meaning w vs p.scope (token_of c)) ≡ true
SafeBy w vs told action c bound p = (length p.scope + third_of c ≤ local_limit) × Binds (kind_of c) (third_of c)
SafeBy w vs told ending c bound p = bound ≤ length p.scope
SafeBy w vs told sum c bound p = Unit {0}
SafeBy w vs told call c bound p = Unit {0}
SafeBy w vs told definition c bound p = Unit {0}
SafeBy w vs told (item false) c bound p = Unit {0}
SafeBy w vs told (item true) c bound p = worth 0 (w (token_of c - 2)) ≤ count_limit
SafeBy w vs told plain c bound p = Unit {0}

-- ---- cells

-- a value that is a constant or a local
unfoldable pub value_cell : Resolved.Expr → ℕ
value_cell (Resolved.constant z) = number_cell node.literal z
value_cell (Resolved.local_at i) = cell node.named i 0 0
value_cell (Resolved.absolute e) = 0
value_cell (Resolved.binary o e f) = 0

unfoldable pub scale_cell : Resolved.Scale → ℕ
scale_cell (Resolved.fixed z) = number_cell (number_kind false false) z
scale_cell (Resolved.scale_local i) = cell node.scale_name i 0 0

-- w: the bytes of each token; vs, ds: the variables and definitions
module _ (w : ℕ → List ℕ) (vs : List Variable) (ds : List Definition) where
  -- the channel names after one with this name is met
  abbrev pub met_after : List ℕ → ℕ → List ℕ
  met_after seen k = firsts w vs seen (k ∷ [])

  -- 01, Actions: a name that is neither local nor whole variable is a channel name
  unfoldable pub name_cell : List ℕ → ℕ → Meaning → ℕ
  name_cell seen k m = cond (is_channel_name m) (cell channel (or_zero (place_in w k 0 (met_after seen k))) 0 0) (value_cell (value_named w vs ds seen m))

  abbrev pub definition_of : ℕ → ℕ
  definition_of k = definition_number (definition_named w k 0 ds)

  -- 01, Model: an item's count stands two tokens before its name; without one it is 1
  unfoldable pub count_of : Bool → ℕ → ℕ
  count_of false k = 1
  count_of true k = worth 0 (w (k - 2))

  -- the cell that takes the place of c, by the role of its kind
  unfoldable pub cell_by : Role → ℕ → Point → ℕ
  cell_by (whole b) c p = number_cell node.literal (whole_of w b (token_of c))
  cell_by name c p = name_cell p.seen (token_of c) (meaning w vs p.scope (token_of c))
  cell_by (number b d) c p = scale_cell (Resolved.fixed (number_scale w vs ds [] (Syntax.number b d (token_of c))))
  cell_by scale c p = scale_cell (scale_named w vs ds [] (meaning w vs p.scope (token_of c)))
  cell_by action c p = c
  cell_by ending c p = c
  cell_by sum c p = c
  cell_by call c p = cell (kind_of c) (definition_of (token_of c)) (left_of c) (third_of c)
  cell_by definition c p = c
  cell_by (item counted) c p = cell (cond counted (kind_of c - 2) (kind_of c)) (definition_of (token_of c)) (count_of counted (token_of c)) (third_of c)
  cell_by plain c p = c

  -- what the walk knows after a node; bound: how many names the action of a branch binds, at the branch's end
  unfoldable pub step_by : Role → ℕ → ℕ → Point → Point
  step_by (whole b) c bound p = p
  step_by name c bound p =
      record {
        scope = p.scope;
        seen = cond (is_channel_name (meaning w vs p.scope (token_of c))) (met_after p.seen (token_of c)) p.seen;
        sums = p.sums;
        definitions = p.definitions;
      }
  step_by (number b d) c bound p = p
  step_by scale c bound p = p
  step_by action c bound p = record { scope = p.scope ++ every_other (token_of c) (third_of c); seen = p.seen; sums = p.sums; definitions = p.definitions }
  step_by ending c bound p = record { scope = take (length p.scope - bound) p.scope; seen = p.seen; sums = p.sums; definitions = p.definitions }
  step_by sum c bound p = record { scope = p.scope; seen = p.seen; sums = p.sums + 1; definitions = p.definitions }
  step_by call c bound p = p
  step_by definition c bound p = record { scope = params_at ds (p.definitions + 1); seen = p.seen; sums = p.sums; definitions = p.definitions + 1 }
  step_by (item counted) c bound p = p
  step_by plain c bound p = p

  -- node i of the table t
  unfoldable pub cell_of : List ℕ → ℕ → Point → ℕ
  cell_of t i p = cell_by (role_at t i) (get_or t i 0) p

  unfoldable pub step : List ℕ → ℕ → Point → Point
  step t i p = step_by (role_at t i) (get_or t i 0) (third_of (get_or t (left_of (get_or t i 0)) 0)) p

  -- what the walk knows after n nodes from i on
  unfoldable pub walked : List ℕ → ℕ → ℕ → Point → Point
  walked t i zero p = p
  walked t i (suc n) p = step t (i + n) (walked t i n p)

  -- before the first definition
  abbrev pub begun : Point
  begun = record { scope = params_at ds 0; seen = []; sums = 0; definitions = 0 }

  -- what the walk over the definitions and the system line knows before node i; the nodes before the definitions are the variables' numbers
  unfoldable pub point_at : List ℕ → ℕ → Point
  point_at t i = walked t (length vs) (i - length vs) begun
