-- The places of a syntax tree that questions 7, 8 and 9 ask about, each with the locals in scope there (01, Model text, last paragraph).
-- Assumes nothing: these are definitions.
use Rattle.std.specs.Prelude.{List, [], ◌∷◌, ◌++◌, Bool, true, false, cond, not, ℕ, ◌+◌}
use Rattle.token.specs.Byte as byte
use Rattle.token.specs.Token.{same_bytes}
use Rattle.grammar.specs.Syntax
use Rattle.model.specs.Lists.{each, every_other}

-- tokens of the names of locals: parameters first, then names as bound
abbrev pub Scope : Type 0
Scope = List ℕ

pub data Site : Type 0 where
  -- a whole number, with `-` before it or not
  whole : Bool → ℕ → Site
  -- a name that is used as a value
  value : ℕ → Site
  -- a name that is a rate's scale
  scale : ℕ → Site
  -- names that a receive binds, and how many sets it has
  bound : List ℕ → ℕ → Site
  -- a branch of a sum: how many stand before it, and its first token
  branch : ℕ → ℕ → Site
  -- a call: its name, and how many values it has
  call : ℕ → ℕ → Site

-- a site with its scope
pub record Sited : Type 0 where
  pub scope : Scope
  pub site : Site

-- ---- what stands in one scope

unfoldable pub expr_sites : Syntax.Expr → List Site
expr_sites (Syntax.literal b k) = whole b k ∷ []
expr_sites (Syntax.named k) = value k ∷ []
expr_sites (Syntax.absolute e) = expr_sites e
expr_sites (Syntax.binary o e f) = expr_sites e ++ expr_sites f

unfoldable pub exprs_sites : Syntax.Exprs → List Site
exprs_sites (Syntax.last_expr e) = expr_sites e
exprs_sites (Syntax.next_expr e r) = expr_sites e ++ exprs_sites r

unfoldable pub set_sites : Syntax.Set → List Site
set_sites (Syntax.single e) = expr_sites e
set_sites (Syntax.range e f) = expr_sites e ++ expr_sites f
set_sites (Syntax.joined j s r) = set_sites s ++ set_sites r

unfoldable pub cond_sites : Syntax.Cond → List Site
cond_sites (Syntax.compare b r e f) = expr_sites e ++ expr_sites f
cond_sites (Syntax.both c d) = cond_sites c ++ cond_sites d
cond_sites (Syntax.either c d) = cond_sites c ++ cond_sites d

unfoldable pub gate_sites : Syntax.Gate → List Site
gate_sites Syntax.no_gate = []
gate_sites (Syntax.gate c) = cond_sites c

-- a number of a rate or a variable; a decimal is none of these sites
unfoldable pub number_sites : Syntax.Number → List Site
number_sites (Syntax.number b false k) = whole b k ∷ []
number_sites (Syntax.number b true k) = []

-- 01, Rate: a rate's scale is a number or a name
unfoldable pub scale_sites : Syntax.Scale → List Site
scale_sites (Syntax.fixed v) = number_sites v
scale_sites (Syntax.named_scale k) = scale k ∷ []

unfoldable pub rate_sites : Syntax.Rate → List Site
rate_sites (Syntax.plain s) = scale_sites s
rate_sites (Syntax.scaled s e) = scale_sites s ++ expr_sites e

-- 01, Actions: an item of a channel that is a lone name may be given or not; in brackets, which then end right after it, a name is used as a value
-- (the tree of `(c)` is that of `c`; proofs/Lone.antt shows that this test tells them apart)
unfoldable pub is_lone : (ℕ → List ℕ) → ℕ → Bool
is_lone w k = not (same_bytes (w (k + 1)) (byte.close_round ∷ []))

unfoldable pub item_sites : (ℕ → List ℕ) → Syntax.Expr → List Site
item_sites w (Syntax.literal b k) = expr_sites (Syntax.literal b k)
item_sites w (Syntax.named k) = cond (is_lone w k) [] (value k ∷ [])
item_sites w (Syntax.absolute e) = expr_sites (Syntax.absolute e)
item_sites w (Syntax.binary o e f) = expr_sites (Syntax.binary o e f)

unfoldable pub channel_sites : (ℕ → List ℕ) → Syntax.Channel → List Site
channel_sites w (Syntax.one_item e) = item_sites w e
channel_sites w (Syntax.two_items e f) = item_sites w e ++ item_sites w f
channel_sites w (Syntax.three_items e f g) = item_sites w e ++ (item_sites w f ++ item_sites w g)

unfoldable pub values_sites : Syntax.Values → List Site
values_sites (Syntax.one_value e) = expr_sites e
values_sites (Syntax.two_values e f) = expr_sites e ++ expr_sites f

unfoldable pub sets_sites : Syntax.Sets → List Site
sets_sites (Syntax.one_set s) = set_sites s
sets_sites (Syntax.two_sets s r) = set_sites s ++ set_sites r

unfoldable pub count_sets : Syntax.Sets → ℕ
count_sets (Syntax.one_set s) = 1
count_sets (Syntax.two_sets s r) = 2

unfoldable pub tokens_of : Syntax.Names → List ℕ
tokens_of (Syntax.names k n) = every_other k n

unfoldable pub action_sites : (ℕ → List ℕ) → Syntax.Action → List Site
action_sites w (Syntax.wait k) = []
action_sites w (Syntax.launch c v) = channel_sites w c ++ values_sites v
action_sites w (Syntax.kill c v) = channel_sites w c ++ values_sites v
action_sites w (Syntax.receive c s) = channel_sites w c ++ sets_sites s
action_sites w (Syntax.bind c s n) = channel_sites w c ++ sets_sites s ++ (bound (tokens_of n) (count_sets s) ∷ [])
action_sites w (Syntax.check c s) = channel_sites w c ++ sets_sites s
action_sites w (Syntax.hand_send c v) = channel_sites w c ++ values_sites v
action_sites w (Syntax.hand_receive c s) = channel_sites w c ++ sets_sites s
action_sites w (Syntax.hand_bind c s n) = channel_sites w c ++ sets_sites s ++ (bound (tokens_of n) (count_sets s) ∷ [])

-- the names that an action binds
unfoldable pub bindings : Syntax.Action → List ℕ
bindings (Syntax.wait k) = []
bindings (Syntax.launch c v) = []
bindings (Syntax.kill c v) = []
bindings (Syntax.receive c s) = []
bindings (Syntax.bind c s n) = tokens_of n
bindings (Syntax.check c s) = []
bindings (Syntax.hand_send c v) = []
bindings (Syntax.hand_receive c s) = []
bindings (Syntax.hand_bind c s n) = tokens_of n

unfoldable pub count_exprs : Syntax.Exprs → ℕ
count_exprs (Syntax.last_expr e) = 1
count_exprs (Syntax.next_expr e r) = count_exprs r + 1

unfoldable pub count_args : Syntax.Args → ℕ
count_args Syntax.no_args = 0
count_args (Syntax.args r) = count_exprs r

unfoldable pub args_sites : Syntax.Args → List Site
args_sites Syntax.no_args = []
args_sites (Syntax.args r) = exprs_sites r

-- ---- scopes: 01, a prefix's rate and gate don't see the names it binds, its continuation does, groups included

unfoldable pub within : Scope → List Site → List Sited
within sc [] = []
within sc (x ∷ xs) = record { scope = sc; site = x } ∷ within sc xs

unfoldable mutual
  -- i: how many branches of the sum stand before this one
  pub branch_sites : (ℕ → List ℕ) → Scope → ℕ → Syntax.Branch → List Sited
  branch_sites w sc i (Syntax.branch k g a r n) =
      within sc (branch i k ∷ gate_sites g ++ action_sites w a ++ rate_sites r) ++ next_sites w (sc ++ bindings a) n

  pub next_sites : (ℕ → List ℕ) → Scope → Syntax.Next → List Sited
  next_sites w sc Syntax.stop = []
  next_sites w sc (Syntax.dot c) = cont_sites w sc c

  pub branches_sites : (ℕ → List ℕ) → Scope → ℕ → Syntax.Branches → List Sited
  branches_sites w sc i (Syntax.last_branch b) = branch_sites w sc i b
  branches_sites w sc i (Syntax.next_branch b r) = branch_sites w sc i b ++ branches_sites w sc (i + 1) r

  pub sum_sites : (ℕ → List ℕ) → Scope → Syntax.Sum → List Sited
  sum_sites w sc (Syntax.sum n b) = branches_sites w sc 0 b

  pub cont_sites : (ℕ → List ℕ) → Scope → Syntax.Cont → List Sited
  cont_sites w sc (Syntax.proceed s) = sum_sites w sc s
  cont_sites w sc (Syntax.call k a) = within sc (call k (count_args a) ∷ args_sites a)
  cont_sites w sc (Syntax.group k c) = conts_sites w sc c

  pub conts_sites : (ℕ → List ℕ) → Scope → Syntax.Conts → List Sited
  conts_sites w sc (Syntax.last_cont c) = cont_sites w sc c
  conts_sites w sc (Syntax.next_cont c r) = cont_sites w sc c ++ conts_sites w sc r

unfoldable pub sums_sites : (ℕ → List ℕ) → Scope → Syntax.Sums → List Sited
sums_sites w sc (Syntax.last_sum s) = sum_sites w sc s
sums_sites w sc (Syntax.next_sum s r) = sum_sites w sc s ++ sums_sites w sc r

-- ---- the parts of a text as lists

-- a variable: its name and its number
pub record Variable : Type 0 where
  pub name : ℕ
  pub number : Syntax.Number

-- a definition: its name, its parameters, its sums
pub record Definition : Type 0 where
  pub name : ℕ
  pub params : List ℕ
  pub sums : Syntax.Sums

unfoldable pub params_of : Syntax.Params → List ℕ
params_of Syntax.no_params = []
params_of (Syntax.params n) = tokens_of n

unfoldable pub definitions_in : Syntax.Definitions → List Definition
definitions_in (Syntax.last_definition k p b s) = record { name = k; params = params_of p; sums = b } ∷ []
definitions_in (Syntax.next_definition k p b d) = record { name = k; params = params_of p; sums = b } ∷ definitions_in d

unfoldable pub system_in : Syntax.Definitions → Syntax.System
system_in (Syntax.last_definition k p b s) = s
system_in (Syntax.next_definition k p b d) = system_in d

unfoldable pub variables : Syntax.Model → List Variable
variables (Syntax.definitions d) = []
variables (Syntax.variable k v m) = record { name = k; number = v } ∷ variables m

unfoldable pub definitions : Syntax.Model → List Definition
definitions (Syntax.definitions d) = definitions_in d
definitions (Syntax.variable k v m) = definitions m

unfoldable pub system : Syntax.Model → Syntax.System
system (Syntax.definitions d) = system_in d
system (Syntax.variable k v m) = system m

unfoldable pub starts_in : Syntax.System → List Syntax.Start
starts_in (Syntax.last_start s) = s ∷ []
starts_in (Syntax.next_start s r) = s ∷ starts_in r

-- 01, Model: the items of the system line
unfoldable pub starts : Syntax.Model → List Syntax.Start
starts m = starts_in (system m)

-- every site of the definitions
unfoldable pub definition_sites : (ℕ → List ℕ) → Definition → List Sited
definition_sites w d = sums_sites w d.params d.sums

unfoldable pub sites : (ℕ → List ℕ) → Syntax.Model → List Sited
sites w m = each (definition_sites w) (definitions m)

-- what f gives at every site, in its scope
unfoldable pub over_sites : {A : Type 0} → (ℕ → List ℕ) → (Scope → Site → List A) → Syntax.Model → List A
over_sites w f m = each (λ s. f s.scope s.site) (sites w m)

-- the names of variables, and of definitions
unfoldable pub names : List Variable → List ℕ
names vs = each (λ v. v.name ∷ []) vs

unfoldable pub titles : List Definition → List ℕ
titles ds = each (λ d. d.name ∷ []) ds
