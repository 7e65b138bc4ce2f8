-- The resolved model: what evaluation, listing and step go by. Names are gone: a local is its place among the locals, a variable its value,
-- a channel name its number, a call its definition's number, a continuation the numbers of its sums. A wait keeps its token, so that it is found by its
-- name (02, note 8). Assumes nothing: these are definitions.
use Rattle.std.specs.Prelude.{List, [], ◌∷◌, ◌++◌, Bool, true, false, cond, ◌&&◌, ℕ, suc, ℤ, pos, ◌*ℤ◌, length}
use Rattle.std.proofs.Math.Option.{Option, none, some}
use Rattle.value.specs.Items.{Items, one_item, two_items, three_items}
use Rattle.word.specs.Number.{worth, unit}
use Rattle.grammar.specs.Grammar.{Relation}
use Rattle.grammar.specs.Syntax
use Rattle.grammar.specs.Syntax.{Op, Join}
use Rattle.model.specs.Lists.{each, any}
use Rattle.model.specs.Sites.{Scope, is_lone, bindings, Variable, variables, Definition, definitions, starts}
use Rattle.model.specs.Words.{same, whole_of, decimal_of}
use Rattle.model.specs.Given.{Meaning, local, variable, nothing, place_in, meaning, definition_named}

-- ---- the model

pub data Expr : Type 0 where
  constant : ℤ → Expr
  local_at : ℕ → Expr
  absolute : Expr → Expr
  binary : Op → Expr → Expr → Expr

pub data Set : Type 0 where
  single : Expr → Set
  range : Expr → Expr → Set
  joined : Join → Set → Set → Set

pub data Cond : Type 0 where
  compare : Bool → Relation → Expr → Expr → Cond
  both : Cond → Cond → Cond
  either : Cond → Cond → Cond

-- ten-thousandths, or a local
pub data Scale : Type 0 where
  fixed : ℤ → Scale
  scale_local : ℕ → Scale

pub data Rate : Type 0 where
  plain : Scale → Rate
  scaled : Scale → Expr → Rate

-- 01, Actions: an item of a channel is an expression, or a channel name by its number
pub data Item : Type 0 where
  number : Expr → Item
  name : ℕ → Item

-- 02, note 7: a channel has one to three items
abbrev pub Channel : Type 0
Channel = Items Item

pub data Action : Type 0 where
  wait : ℕ → Action  -- its token, whose bytes are its name
  launch : Channel → List Expr → Action
  kill : Channel → List Expr → Action
  receive : Channel → List Set → Action
  bind : Channel → List Set → Action
  check : Channel → List Set → Action
  hand_send : Channel → List Expr → Action
  hand_receive : Channel → List Set → Action
  hand_bind : Channel → List Set → Action

-- one process of a continuation: a sum of the text, which keeps the locals, or a call with its values
pub data Part : Type 0 where
  enter : ℕ → Part
  call : ℕ → List Expr → Part

pub record Branch : Type 0 where
  pub gate : Option Cond
  pub action : Action
  pub rate : Rate
  pub next : List Part

-- how many locals it has, the number of the definition whose text holds it, its branches
pub record Sum : Type 0 where
  pub locals : ℕ
  pub definition : ℕ
  pub branches : List Branch

-- the numbers of a definition's sums, and how many parameters it has
pub record Defined : Type 0 where
  pub params : ℕ
  pub sums : List ℕ

-- an item of the system line: definition, count, values
pub record Start : Type 0 where
  pub definition : ℕ
  pub count : ℕ
  pub values : List ℤ

pub record Model : Type 0 where
  pub sums : List Sum
  pub definitions : List Defined
  pub channels : ℕ
  pub starts : List Start
  pub words : ℕ → List ℕ  -- 02, note 8: the bytes of each token, which are a wait's name

-- ---- channel names

-- 01, Actions: a lone name that is neither local nor whole variable
unfoldable pub is_channel_name : Meaning → Bool
is_channel_name (local i) = false
is_channel_name (variable (Syntax.number b decimal k)) = decimal
is_channel_name nothing = true

-- w: the bytes of each token; vs: the variables
module _ (w : ℕ → List ℕ) (vs : List Variable) where
  unfoldable pub item_use : Scope → Syntax.Expr → List ℕ
  item_use sc (Syntax.literal b k) = []
  item_use sc (Syntax.named k) = cond (is_lone w k && is_channel_name (meaning w vs sc k)) (k ∷ []) []
  item_use sc (Syntax.absolute e) = []
  item_use sc (Syntax.binary o e f) = []

  unfoldable pub channel_use : Scope → Syntax.Channel → List ℕ
  channel_use sc (Syntax.one_item e) = item_use sc e
  channel_use sc (Syntax.two_items e f) = item_use sc e ++ item_use sc f
  channel_use sc (Syntax.three_items e f g) = item_use sc e ++ (item_use sc f ++ item_use sc g)

  unfoldable pub action_use : Scope → Syntax.Action → List ℕ
  action_use sc (Syntax.wait k) = []
  action_use sc (Syntax.launch c v) = channel_use sc c
  action_use sc (Syntax.kill c v) = channel_use sc c
  action_use sc (Syntax.receive c s) = channel_use sc c
  action_use sc (Syntax.bind c s n) = channel_use sc c
  action_use sc (Syntax.check c s) = channel_use sc c
  action_use sc (Syntax.hand_send c v) = channel_use sc c
  action_use sc (Syntax.hand_receive c s) = channel_use sc c
  action_use sc (Syntax.hand_bind c s n) = channel_use sc c

  -- the tokens that are channel names, in the text's order
  unfoldable mutual
    pub branch_uses : Scope → Syntax.Branch → List ℕ
    branch_uses sc (Syntax.branch k g a r n) = action_use sc a ++ next_uses (sc ++ bindings a) n

    pub next_uses : Scope → Syntax.Next → List ℕ
    next_uses sc Syntax.stop = []
    next_uses sc (Syntax.dot c) = cont_uses sc c

    pub branches_uses : Scope → Syntax.Branches → List ℕ
    branches_uses sc (Syntax.last_branch b) = branch_uses sc b
    branches_uses sc (Syntax.next_branch b r) = branch_uses sc b ++ branches_uses sc r

    pub sum_uses : Scope → Syntax.Sum → List ℕ
    sum_uses sc (Syntax.sum n b) = branches_uses sc b

    pub cont_uses : Scope → Syntax.Cont → List ℕ
    cont_uses sc (Syntax.proceed s) = sum_uses sc s
    cont_uses sc (Syntax.call k a) = []
    cont_uses sc (Syntax.group k c) = conts_uses sc c

    pub conts_uses : Scope → Syntax.Conts → List ℕ
    conts_uses sc (Syntax.last_cont c) = cont_uses sc c
    conts_uses sc (Syntax.next_cont c r) = cont_uses sc c ++ conts_uses sc r

  unfoldable pub sums_uses : Scope → Syntax.Sums → List ℕ
  sums_uses sc (Syntax.last_sum s) = sum_uses sc s
  sums_uses sc (Syntax.next_sum s r) = sum_uses sc s ++ sums_uses sc r

  unfoldable pub definition_uses : Definition → List ℕ
  definition_uses d = sums_uses d.params d.sums

  -- 01, State: each name once, by its first use
  unfoldable pub firsts : List ℕ → List ℕ → List ℕ
  firsts seen [] = seen
  firsts seen (k ∷ ks) = cond (any (same w k) seen) (firsts seen ks) (firsts (seen ++ k ∷ []) ks)

  unfoldable pub channel_names : List Definition → List ℕ
  channel_names ds = firsts [] (each definition_uses ds)

-- ---- resolving; cs: the channel names; ds: the definitions
unfoldable pub or_zero : Option ℕ → ℕ
or_zero (some i) = i
or_zero none = 0

unfoldable pub definition_number : Option (ℕ × Definition) → ℕ
definition_number (some d) = d.0
definition_number none = 0

unfoldable pub sum_number : Syntax.Sum → ℕ
sum_number (Syntax.sum n b) = n

unfoldable pub sum_numbers : Syntax.Sums → List ℕ
sum_numbers (Syntax.last_sum s) = sum_number s ∷ []
sum_numbers (Syntax.next_sum s r) = sum_number s ∷ sum_numbers r

unfoldable pub defined : Definition → Defined
defined d = record { params = length d.params; sums = sum_numbers d.sums }

unfoldable pub list_of : {A : Type 0} → (Syntax.Expr → A) → Syntax.Exprs → List A
list_of f (Syntax.last_expr e) = f e ∷ []
list_of f (Syntax.next_expr e r) = f e ∷ list_of f r

module _ (w : ℕ → List ℕ) (vs : List Variable) (ds : List Definition) (cs : List ℕ) where
  -- a whole variable's value
  unfoldable pub number_value : Syntax.Number → ℤ
  number_value (Syntax.number b decimal k) = whole_of w b k

  -- 01, Values: a decimal as written, a whole number times 10,000
  unfoldable pub number_scale : Syntax.Number → ℤ
  number_scale (Syntax.number b false k) = whole_of w b k *ℤ pos unit
  number_scale (Syntax.number b true k) = decimal_of w b k

  unfoldable pub value_named : Meaning → Expr
  value_named (local i) = local_at i
  value_named (variable v) = constant (number_value v)
  value_named nothing = constant (pos 0)

  unfoldable pub scale_named : Meaning → Scale
  scale_named (local i) = scale_local i
  scale_named (variable v) = fixed (number_scale v)
  scale_named nothing = fixed (pos 0)

  -- sc: the locals in scope
  module _ (sc : Scope) where
    unfoldable pub resolve_expr : Syntax.Expr → Expr
    resolve_expr (Syntax.literal b k) = constant (whole_of w b k)
    resolve_expr (Syntax.named k) = value_named (meaning w vs sc k)
    resolve_expr (Syntax.absolute e) = absolute (resolve_expr e)
    resolve_expr (Syntax.binary o e f) = binary o (resolve_expr e) (resolve_expr f)

    unfoldable pub resolve_set : Syntax.Set → Set
    resolve_set (Syntax.single e) = single (resolve_expr e)
    resolve_set (Syntax.range e f) = range (resolve_expr e) (resolve_expr f)
    resolve_set (Syntax.joined j s r) = joined j (resolve_set s) (resolve_set r)

    unfoldable pub resolve_cond : Syntax.Cond → Cond
    resolve_cond (Syntax.compare b r e f) = compare b r (resolve_expr e) (resolve_expr f)
    resolve_cond (Syntax.both c d) = both (resolve_cond c) (resolve_cond d)
    resolve_cond (Syntax.either c d) = either (resolve_cond c) (resolve_cond d)

    unfoldable pub resolve_gate : Syntax.Gate → Option Cond
    resolve_gate Syntax.no_gate = none
    resolve_gate (Syntax.gate c) = some (resolve_cond c)

    unfoldable pub resolve_scale : Syntax.Scale → Scale
    resolve_scale (Syntax.fixed v) = fixed (number_scale v)
    resolve_scale (Syntax.named_scale k) = scale_named (meaning w vs sc k)

    unfoldable pub resolve_rate : Syntax.Rate → Rate
    resolve_rate (Syntax.plain s) = plain (resolve_scale s)
    resolve_rate (Syntax.scaled s e) = scaled (resolve_scale s) (resolve_expr e)

    -- a name's number among the channel names, where it is one
    unfoldable pub item_named : ℕ → Meaning → Item
    item_named k m = cond (is_lone w k && is_channel_name m) (name (or_zero (place_in w k 0 cs))) (number (value_named m))

    unfoldable pub resolve_item : Syntax.Expr → Item
    resolve_item (Syntax.literal b k) = number (resolve_expr (Syntax.literal b k))
    resolve_item (Syntax.named k) = item_named k (meaning w vs sc k)
    resolve_item (Syntax.absolute e) = number (resolve_expr (Syntax.absolute e))
    resolve_item (Syntax.binary o e f) = number (resolve_expr (Syntax.binary o e f))

    unfoldable pub resolve_channel : Syntax.Channel → Channel
    resolve_channel (Syntax.one_item e) = one_item (resolve_item e)
    resolve_channel (Syntax.two_items e f) = two_items (resolve_item e) (resolve_item f)
    resolve_channel (Syntax.three_items e f g) = three_items (resolve_item e) (resolve_item f) (resolve_item g)

    unfoldable pub resolve_values : Syntax.Values → List Expr
    resolve_values (Syntax.one_value e) = resolve_expr e ∷ []
    resolve_values (Syntax.two_values e f) = resolve_expr e ∷ resolve_expr f ∷ []

    unfoldable pub resolve_sets : Syntax.Sets → List Set
    resolve_sets (Syntax.one_set s) = resolve_set s ∷ []
    resolve_sets (Syntax.two_sets s r) = resolve_set s ∷ resolve_set r ∷ []

    unfoldable pub resolve_action : Syntax.Action → Action
    resolve_action (Syntax.wait k) = wait k
    resolve_action (Syntax.launch c v) = launch (resolve_channel c) (resolve_values v)
    resolve_action (Syntax.kill c v) = kill (resolve_channel c) (resolve_values v)
    resolve_action (Syntax.receive c s) = receive (resolve_channel c) (resolve_sets s)
    resolve_action (Syntax.bind c s n) = bind (resolve_channel c) (resolve_sets s)
    resolve_action (Syntax.check c s) = check (resolve_channel c) (resolve_sets s)
    resolve_action (Syntax.hand_send c v) = hand_send (resolve_channel c) (resolve_values v)
    resolve_action (Syntax.hand_receive c s) = hand_receive (resolve_channel c) (resolve_sets s)
    resolve_action (Syntax.hand_bind c s n) = hand_bind (resolve_channel c) (resolve_sets s)

    unfoldable pub resolve_args : Syntax.Args → List Expr
    resolve_args Syntax.no_args = []
    resolve_args (Syntax.args r) = list_of resolve_expr r

    unfoldable pub resolve_call : ℕ → Syntax.Args → Part
    resolve_call k a = call (definition_number (definition_named w k 0 ds)) (resolve_args a)

  -- 01, Step: groups flattened left to right
  unfoldable mutual
    pub parts_of : Scope → Syntax.Cont → List Part
    parts_of sc (Syntax.proceed s) = enter (sum_number s) ∷ []
    parts_of sc (Syntax.call k a) = resolve_call sc k a ∷ []
    parts_of sc (Syntax.group k c) = parts_in sc c

    pub parts_in : Scope → Syntax.Conts → List Part
    parts_in sc (Syntax.last_cont c) = parts_of sc c
    parts_in sc (Syntax.next_cont c r) = parts_of sc c ++ parts_in sc r

  unfoldable pub resolve_next : Scope → Syntax.Next → List Part
  resolve_next sc Syntax.stop = []
  resolve_next sc (Syntax.dot c) = parts_of sc c

  unfoldable pub resolve_branch : Scope → Syntax.Branch → Branch
  resolve_branch sc (Syntax.branch k g a r n) =
      record { gate = resolve_gate sc g; action = resolve_action sc a; rate = resolve_rate sc r; next = resolve_next (sc ++ bindings a) n }

  unfoldable pub resolve_branches : Scope → Syntax.Branches → List Branch
  resolve_branches sc (Syntax.last_branch b) = resolve_branch sc b ∷ []
  resolve_branches sc (Syntax.next_branch b r) = resolve_branch sc b ∷ resolve_branches sc r

  -- every sum of a tree with its scope, in the order of their numbers; d: the definition's number
  unfoldable mutual
    pub sum_tree : ℕ → Scope → Syntax.Sum → List Sum
    sum_tree d sc (Syntax.sum n b) = record { locals = length sc; definition = d; branches = resolve_branches sc b } ∷ branches_tree d sc b

    pub branches_tree : ℕ → Scope → Syntax.Branches → List Sum
    branches_tree d sc (Syntax.last_branch b) = branch_tree d sc b
    branches_tree d sc (Syntax.next_branch b r) = branch_tree d sc b ++ branches_tree d sc r

    pub branch_tree : ℕ → Scope → Syntax.Branch → List Sum
    branch_tree d sc (Syntax.branch k g a r n) = next_tree d (sc ++ bindings a) n

    pub next_tree : ℕ → Scope → Syntax.Next → List Sum
    next_tree d sc Syntax.stop = []
    next_tree d sc (Syntax.dot c) = cont_tree d sc c

    pub cont_tree : ℕ → Scope → Syntax.Cont → List Sum
    cont_tree d sc (Syntax.proceed s) = sum_tree d sc s
    cont_tree d sc (Syntax.call k a) = []
    cont_tree d sc (Syntax.group k c) = conts_tree d sc c

    pub conts_tree : ℕ → Scope → Syntax.Conts → List Sum
    conts_tree d sc (Syntax.last_cont c) = cont_tree d sc c
    conts_tree d sc (Syntax.next_cont c r) = cont_tree d sc c ++ conts_tree d sc r

  unfoldable pub sums_tree : ℕ → Scope → Syntax.Sums → List Sum
  sums_tree d sc (Syntax.last_sum s) = sum_tree d sc s
  sums_tree d sc (Syntax.next_sum s r) = sum_tree d sc s ++ sums_tree d sc r

  unfoldable pub all_sums : ℕ → List Definition → List Sum
  all_sums n [] = []
  all_sums n (d ∷ es) = sums_tree n d.params d.sums ++ all_sums (suc n) es

  unfoldable pub whole_values : Syntax.Wholes → List ℤ
  whole_values (Syntax.last_whole b k) = whole_of w b k ∷ []
  whole_values (Syntax.next_whole b k r) = whole_of w b k ∷ whole_values r

  unfoldable pub start_values : Syntax.Starts → List ℤ
  start_values Syntax.no_starts = []
  start_values (Syntax.starts r) = whole_values r

  -- 01, Model: a count, and one without it
  unfoldable pub resolve_start : Syntax.Start → Start
  resolve_start (Syntax.once k s) = record { definition = definition_number (definition_named w k 0 ds); count = 1; values = start_values s }
  resolve_start (Syntax.counted c k s) = record { definition = definition_number (definition_named w k 0 ds); count = worth 0 (w c); values = start_values s }

-- the resolved model of a syntax tree
unfoldable pub resolved : (ℕ → List ℕ) → Syntax.Model → Model
resolved w m =
    let vs = variables m in
    let ds = definitions m in
    let cs = channel_names w vs ds in
    record {
      sums = all_sums w vs ds cs 0 ds;
      definitions = each (λ d. defined d ∷ []) ds;
      channels = length cs;
      starts = each (λ s. resolve_start w vs ds cs s ∷ []) (starts m);
      words = w;
    }
