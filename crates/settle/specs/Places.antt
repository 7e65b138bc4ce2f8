-- What the functions that resolve a node may take for granted, and what they leave: the tables of a text without faults, of which some nodes are resolved already. Assumes nothing: these are definitions.
use Rattle.std.specs.Prelude.{◌≡◌, Bool, true, false, cond, ◌⊎◌, ℕ, ◌-◌, ◌≤◌, ◌<◌, min, eqb, ℤ, pos, neg_ℤ, None, Some, length, get_or, set}
use mathlib.Core.List.{List, [], ◌∷◌, ◌++◌, Memᴰ as In}
use Rattle.std.proofs.Math.Option.{Option, none, some}
use Rattle.word.specs.Number.{worth, cap, ten_thousandths}
use Rattle.token.specs.Contents.{lows_in, highs_in, before_point, after_point}
use Rattle.token.specs.Questions.{Found}
use Rattle.grammar.specs.Syntax
use Rattle.tree.specs.Node as node
use Rattle.tree.specs.Node.{field, cell, kind_of, token_of, left_of, third_of, number_kind}
use Rattle.model.specs.Sites.{Variable, Definition, variables, definitions}
use Rattle.model.specs.Stands.{BranchIn}
use Rattle.model.specs.Faults.{NotNew}
use Rattle.model.specs.Faultless.{scale_of, Faultless}
use Rattle.model.specs.Limits.{count_limit, definition_limit, parameter_limit}
use Rattle.model.specs.Given.{Meaning, local, variable, nothing, place_in, meaning}
use Rattle.model.specs.Resolved.{is_channel_name, value_named}
use Rattle.names.specs.declared.Question.TheVariants.{Given}
use Rattle.names.specs.declared.Lists.{Lists}
use Rattle.names.specs.declared.Parsed.{Parsed}
use Rattle.names.specs.declared.scope.Scope.{Scope}
use Rattle.names.specs.Lists.{packed}
use Rattle.names.specs.Placed.{Named, Fits}
use Rattle.names.specs.Settings.{World, Scoped}
use Rattle.settle.specs.Kids.{Hung}
use Rattle.settle.specs.declared.Walk.{Walk}
use Rattle.settle.specs.Walks.{name, ending, item, role_of, Point, NumberSafe, SafeBy, step_by, value_cell, cell_by}

-- a number with `-` before it or not
unfoldable pub signed : Bool → ℕ → ℤ
signed b n = cond b (neg_ℤ (pos n)) (pos n)

-- the table of contents has the decimal of token k, in ten-thousandths
abbrev pub Told : List ℕ → (ℕ → List ℕ) → ℕ → Type 0
Told low w k = (k < length low) × (get_or low k 0 ≡ ten_thousandths (before_point (w k)) (after_point (w k)))

-- a node of this kind is a number of a rate or a variable, and the table of contents has what its token k comes to
pub record ScaleTold (low : List ℕ) (w : ℕ → List ℕ) (b d : Bool) (κ k : ℕ) : Type 0 where
  pub kind-is : κ ≡ number_kind b d
  pub inside : k < length low
  pub wholes : d ≡ false → get_or low k 0 ≡ min cap (worth 0 (w k))
  pub safe : NumberSafe w (Told low w) (Syntax.number b d k)

-- the reader's table t tells of a text and its syntax tree, whose variables are in range
pub record Base (low high t : List ℕ) (lists : Lists) : Type 0 where
  pub world : World Given low high t lists
  pub numbers : (v : Variable) → In v (variables world.model) → NumberSafe world.word (Told low world.word) v.number
  pub few : length (definitions world.model) ≤ definition_limit
  pub short : (d : Definition) → In d (definitions world.model) → length d.params ≤ parameter_limit
  pub room : lists.root < field

-- the nodes of variables and definitions are those of t
pub record Kept (t nodes : List ℕ) (lists : Lists) : Type 0 where
  pub size : length nodes ≡ length t
  pub variables : (j : ℕ) → j < lists.variables → get_or nodes (lists.root - j) 0 ≡ get_or t (lists.root - j) 0
  pub numbers : (j : ℕ) → j < lists.variables → get_or nodes (left_of (get_or t (lists.root - j) 0)) 0 ≡ get_or t (left_of (get_or t (lists.root - j) 0)) 0
  pub chain : (j : ℕ) → j < lists.definitions → get_or nodes (lists.root - lists.variables - j) 0 ≡ get_or t (lists.root - lists.variables - j) 0
  pub definitions : (j : ℕ) → j < lists.definitions → get_or nodes (left_of (get_or t (lists.root - lists.variables - j) 0)) 0 ≡ get_or t (left_of (get_or t (lists.root - lists.variables - j) 0)) 0

-- the kinds of calls and of items of the system line
abbrev pub CallKind : ℕ → Type 0
CallKind κ = ((node.call ≤ κ) × (κ ≤ node.call_with)) ⊎ ((node.start ≤ κ) × (κ ≤ node.counted_with))

-- variables and definitions can be looked up in the table of nodes
pub record Lookup (low high nodes : List ℕ) (lists : Lists) : Type 0 where
  pub table : List ℕ
  pub base : Base low high table lists
  pub kept : Kept table nodes lists

-- and the locals in scope
pub record Place (low high nodes : List ℕ) (lists : Lists) (scope : Scope) : Type 0 where
  pub at : Lookup low high nodes lists
  pub locals : List ℕ
  pub scoped : Scoped Given at.base.world.kinds scope locals

module _ {low high nodes : List ℕ} {lists : Lists} (h : Lookup low high nodes lists) where
  abbrev pub word_in : ℕ → List ℕ
  word_in = h.base.world.word

  abbrev pub kinds_in : List ℕ
  kinds_in = h.base.world.kinds

  abbrev pub variables_in : List Variable
  variables_in = variables h.base.world.model

  abbrev pub definitions_of : List Definition
  definitions_of = definitions h.base.world.model

-- the same of a text's tables as the code holds them
abbrev pub LookupIn : Parsed → Type 0
LookupIn p = Lookup (lows_in p.contents.now) (highs_in p.contents.now) p.nodes.now p.lists

abbrev pub PlaceIn : Parsed → Scope → Type 0
PlaceIn p scope = Place (lows_in p.contents.now) (highs_in p.contents.now) p.nodes.now p.lists scope

-- what a name means there
abbrev pub meaning_at : {low high nodes : List ℕ} {lists : Lists} {scope : Scope} → Place low high nodes lists scope → ℕ → Meaning
meaning_at h k = meaning (word_in h.at) (variables_in h.at) h.locals k

-- c is the node of the number of the variable that a name stands for, and its contents are told
abbrev pub NumberNode : List ℕ → (ℕ → List ℕ) → Meaning → ℕ → Type 0
NumberNode low w (local i) c = ⊥
NumberNode low w (variable (Syntax.number b d k)) c = ScaleTold low w b d (kind_of c) k × (token_of c ≡ k)
NumberNode low w nothing c = ⊥

-- that node, or none where the name stands for no variable
abbrev pub NumberFound : List ℕ → (ℕ → List ℕ) → Meaning → Found → Type 0
NumberFound low w m (Some c) = NumberNode low w m c
NumberFound low w m None = m ≡ nothing

-- r is the cell of a name that means m and is a value, and none of a channel name; seen: the channel names met
abbrev pub Valued : (ℕ → List ℕ) → List Variable → List Definition → List ℕ → Meaning → Found → Type 0
Valued w vs ds seen m r = r ≡ cond (is_channel_name m) None (Some (value_cell (value_named w vs ds seen m)))

-- c is the cell of a call or an item of the system line, with a count in range
pub record Calls (low high nodes : List ℕ) (lists : Lists) (c : ℕ) : Type 0 where
  pub at : Lookup low high nodes lists
  pub fits : Fits (kinds_in at) c
  pub calls : CallKind (kind_of c)
  pub counted : role_of (kind_of c) ≡ item true → worth 0 (word_in at (token_of c - 2)) ≤ count_limit

abbrev pub CallsIn : Parsed → ℕ → Type 0
CallsIn p c = Calls (lows_in p.contents.now) (highs_in p.contents.now) p.nodes.now p.lists c

-- a node with the cell c stands in the scope, and has what the walk needs of it
pub record Leaf (low high nodes : List ℕ) (lists : Lists) (scope : Scope) (c : ℕ) : Type 0 where
  pub place : Place low high nodes lists scope
  pub fits : Fits (kinds_in place.at) c
  pub bound : ℕ
  pub point : Point
  pub scope-is : point.scope ≡ place.locals
  pub safe : SafeBy (word_in place.at) (variables_in place.at) (Told low (word_in place.at)) (role_of (kind_of c)) c bound point
  pub other : role_of (kind_of c) ≡ name → ⊥

abbrev pub LeafIn : Parsed → Scope → ℕ → Type 0
LeafIn p scope c = Leaf (lows_in p.contents.now) (highs_in p.contents.now) p.nodes.now p.lists scope c

-- ---- channel names

-- a place, or n where there is none
unfoldable pub place_or : ℕ → Option ℕ → ℕ
place_or n none = n
place_or n (some i) = i

-- the name k can be looked up among the n names met, and there is room for it
pub record Heard (low high heard : List ℕ) (n k : ℕ) (seen : List ℕ) : Type 0 where
  pub count : n ≡ length seen
  pub room : n < length heard
  pub few : n < field
  pub small : k < field
  pub name-low : k < length low
  pub name-high : k < length high
  pub each-low : (i : ℕ) → i < n → get_or seen i 0 < length low
  pub each-high : (i : ℕ) → i < n → get_or seen i 0 < length high
  pub hung : Hung low high heard seen

-- the names with k more, where it was none of them
unfoldable pub heard_after : Option ℕ → List ℕ → ℕ → List ℕ
heard_after none seen k = seen ++ k ∷ []
heard_after (some i) seen k = seen

-- the name k has the number r among the names met, of which there are n' now, and hangs in their tree
pub record Sought (low high heard : List ℕ) (n k : ℕ) (seen heard' : List ℕ) (n' r : ℕ) : Type 0 where
  pub place_is : r ≡ place_or n (place_in (packed low high) k 0 seen)
  pub count : n' ≡ length (heard_after (place_in (packed low high) k 0 seen) seen k)
  pub hung : Hung low high heard' (heard_after (place_in (packed low high) k 0 seen) seen k)
  pub size : length heard' ≡ length heard

-- ---- the walk

-- what the walk holds is what it knows at a point; kinds: the kinds of the text's tokens, met: how many channel names it has met
pub record Knows (low high kinds heard : List ℕ) (met : ℕ) (walk : Walk) (p : Point) : Type 0 where
  pub scoped : Scoped Given kinds walk.scope p.scope
  pub channels : met ≡ length p.seen
  pub hung : Hung low high heard p.seen
  pub named : Named kinds p.seen
  pub sums : walk.sums ≡ p.sums
  pub definitions : walk.definitions ≡ p.definitions

abbrev pub KnowsIn : Parsed → List ℕ → List ℕ → ℕ → Walk → Point → Type 0
KnowsIn p kinds heard met walk q = Knows (lows_in p.contents.now) (highs_in p.contents.now) kinds heard met walk q

-- the walk stands before a node with the cell c
pub record Turn (low high nodes : List ℕ) (lists : Lists) (heard : List ℕ) (met : ℕ) (walk : Walk) (c : ℕ) : Type 0 where
  pub at : Lookup low high nodes lists
  pub point : Point
  pub knows : Knows low high (kinds_in at) heard met walk point
  pub fits : Fits (kinds_in at) c
  pub inside : role_of (kind_of c) ≡ ending → left_of c < length nodes
  pub safe : SafeBy (word_in at) (variables_in at) (Told low (word_in at)) (role_of (kind_of c)) c (third_of (get_or nodes (left_of c) 0)) point
  pub heard-room : length point.seen < length heard
  pub heard-few : length point.seen < field
  pub sums-few : point.sums < field
  pub definitions-few : point.definitions < field

abbrev pub TurnIn : Parsed → List ℕ → ℕ → Walk → ℕ → Type 0
TurnIn p heard met walk c = Turn (lows_in p.contents.now) (highs_in p.contents.now) p.nodes.now p.lists heard met walk c

-- what is known after it
abbrev pub turned : {low high nodes : List ℕ} {lists : Lists} {heard : List ℕ} {met : ℕ} {walk : Walk} {c : ℕ} → Turn low high nodes lists heard met walk c → Point
turned {nodes = nodes} {c = c} h = step_by (word_in h.at) (variables_in h.at) (definitions_of h.at) (role_of (kind_of c)) c (third_of (get_or nodes (left_of c) 0)) h.point

-- r is the cell that takes the place of c, and the walk after it knows what it has to
pub record Settled {low high nodes : List ℕ} {lists : Lists} {heard : List ℕ} {met : ℕ} {walk : Walk} {c : ℕ} (h : Turn low high nodes lists heard met walk c) (heard' : List ℕ) (met' r : ℕ) (next : Walk) : Type 0 where
  pub cell-is : r ≡ cell_by (word_in h.at) (variables_in h.at) (definitions_of h.at) (role_of (kind_of c)) c h.point
  pub knows : Knows low high (kinds_in h.at) heard' met' next (turned h)
  pub size : length heard' ≡ length heard

-- a table of sums after a node: written where the node is a sum's
unfoldable pub marked_by : ℕ → List ℕ → ℕ → List ℕ
marked_by c xs v = cond (eqb (kind_of c) node.sum) (set xs (token_of c) v) xs

-- the first node of the definitions, and the system line's node
abbrev pub first_node : Lists → ℕ
first_node lists = lists.variables

abbrev pub line_node : Lists → ℕ
line_node lists = lists.root - lists.variables - lists.definitions

-- ---- the whole walk

-- the tables of a text without faults: nothing is beyond a limit, not new or not given (01, questions 7, 8 and 9); roots, scopes, names: of how many sums there is room for the roots and the scopes, and for how many channel names
pub record Resolvable (low high t : List ℕ) (roots scopes names : ℕ) (lists : Lists) : Type 0 where
  pub base : Base low high t lists
  pub faultless : Faultless base.world.word base.world.model
  pub new : (k : ℕ) → NotNew base.world.word base.world.model k → ⊥
  pub decimals : (sc : List ℕ) (i k : ℕ) (g : Syntax.Gate) (x : Syntax.Action) (r : Syntax.Rate) (n : Syntax.Next) → BranchIn base.world.model sc i (Syntax.branch k g x r n) → (b : Bool) (j : ℕ) → scale_of r ≡ Syntax.fixed (Syntax.number b true j) → Told low base.world.word j
  pub roots-room : lists.root < roots
  pub scopes-room : lists.root < scopes
  pub names-room : lists.root < names
