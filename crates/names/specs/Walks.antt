-- What the walks over a tree of nodes go through: the parts of a definition, with their sites, and what a walk may take for granted. Assumes nothing: these
-- are definitions.
use Rattle.std.specs.Prelude.{◌≡◌, List, [], ◌∷◌, ◌++◌, true, cond, ◌||◌, ℕ, eqb, ltb, get_or, drop, None}
use Rattle.token.specs.Kind as kind
use Rattle.token.specs.Contents.{lows_in, highs_in}
use Rattle.token.specs.Token.{same_bytes}
use Rattle.word.specs.Number.{worth}
use Rattle.grammar.specs.Syntax
use Rattle.tree.specs.Node as node
use Rattle.tree.specs.Table
use Rattle.model.specs.Lists.{each, when, least}
use Rattle.model.specs.Sites.{Site, Sited, bound, tokens_of, count_sets, action_sites, Variable, Definition, names, variables, definitions, definitions_in, system_in, starts_in, params_of, definition_sites, branches_sites, conts_sites, sums_sites}
use Rattle.model.specs.Limits.{count_limit, parameter_limit, site_beyond, variable_beyond, start_beyond}
use Rattle.model.specs.Fresh.{repeated}
use Rattle.model.specs.Given.{start_wrong}
use Rattle.names.specs.declared.Question.{Question}
use Rattle.names.specs.declared.Question.TheVariants.{Limits, Fresh, Given}
use Rattle.names.specs.declared.Lists.{Lists}
use Rattle.names.specs.declared.scope.Scope.{Scope}
use Rattle.names.specs.declared.Parsed.{Parsed}
use Rattle.names.specs.declared.Context.{Context}
use Rattle.names.specs.Faults.{asks_names, site_faults, tree_faults}
use Rattle.names.specs.Settings.{World, Setting}

-- 01, Model text: what can stand at a node of a definition's body: branches of a sum, items of a group, sums of a body
pub data Part : Type 0 where
  choices : Syntax.Branches → Part
  items : Syntax.Conts → Part
  sums : Syntax.Sums → Part

unfoldable pub Holds : List ℕ → Part → ℕ → ℕ → Type 0
Holds t (choices b) = Table.Branches t b
Holds t (items c) = Table.Conts t c
Holds t (sums s) = Table.Sums t s

-- their sites; i: how many branches of the sum stand before them
unfoldable pub part_sites : (ℕ → List ℕ) → List ℕ → ℕ → Part → List Sited
part_sites w sc i (choices b) = branches_sites w sc i b
part_sites w sc i (items c) = conts_sites w sc c
part_sites w sc i (sums s) = sums_sites w sc s

-- 7, 8, 9: the tokens at fault at these sites
unfoldable pub faults_over : Question → (ℕ → List ℕ) → List Variable → List Definition → List Sited → List ℕ
faults_over q w vs ds xs = each (λ s. site_faults q w vs ds s.scope s.site) xs

-- the names that an action binds, as a site
unfoldable pub bound_sites : Syntax.Action → List Site
bound_sites (Syntax.wait k) = []
bound_sites (Syntax.launch c v) = []
bound_sites (Syntax.kill c v) = []
bound_sites (Syntax.receive c s) = []
bound_sites (Syntax.bind c s n) = bound (tokens_of n) (count_sets s) ∷ []
bound_sites (Syntax.check c s) = []
bound_sites (Syntax.hand_send c v) = []
bound_sites (Syntax.hand_receive c s) = []
bound_sites (Syntax.hand_bind c s n) = bound (tokens_of n) (count_sets s) ∷ []

-- question 7 has passed these sites, in one scope or in theirs, where names are asked for
abbrev pub RoomFor : Question → (ℕ → List ℕ) → List ℕ → List Site → Type 0
RoomFor q w sc xs = asks_names q ≡ true → least (each (site_beyond w sc) xs) ≡ None

abbrev pub Roomy : Question → (ℕ → List ℕ) → List Sited → Type 0
Roomy q w xs = asks_names q ≡ true → least (each (λ s. site_beyond w s.scope s.site) xs) ≡ None

-- 01, Actions: the kinds of tokens tell where a `)` stands
abbrev pub Closes : List ℕ → (ℕ → List ℕ) → Type 0
Closes kinds w = (k : ℕ) → eqb (get_or kinds k 0) kind.close_round ≡ same_bytes (w k) (kind.close_round ∷ [])

-- a walk is in some scope
pub record Place (question : Question) (kinds low high nodes : List ℕ) (lists : Lists) (scope : Scope) : Type 0 where
  pub setting : Setting question low high nodes lists scope
  pub closes : Closes kinds setting.world.word

-- or in none, outside definitions
pub record Ground (question : Question) (kinds low high nodes : List ℕ) (lists : Lists) : Type 0 where
  pub world : World question low high nodes lists
  pub closes : Closes kinds world.word

-- the same of what a walk asks of a text as it is lent
abbrev pub PlaceOf : Context → Type 0
PlaceOf c = Place c.question c.kinds.now (lows_in c.contents.now) (highs_in c.contents.now) c.nodes.now c.lists c.scope

abbrev pub GroundIn : Question → List ℕ → Parsed → Type 0
GroundIn q kinds p = Ground q kinds (lows_in p.contents.now) (highs_in p.contents.now) p.nodes.now p.lists

abbrev pub GroundOf : Context → Type 0
GroundOf c = Ground c.question c.kinds.now (lows_in c.contents.now) (highs_in c.contents.now) c.nodes.now c.lists

module _ {question : Question} {kinds low high nodes : List ℕ} {lists : Lists} where
  module _ {scope : Scope} (h : Place question kinds low high nodes lists scope) where
    -- the faults of a part there
    unfoldable pub part_faults : ℕ → Part → List ℕ
    part_faults i p =
        faults_over question h.setting.world.word (variables h.setting.world.model) (definitions h.setting.world.model)
        (part_sites h.setting.world.word h.setting.locals i p)

    abbrev pub ActionRoom : Syntax.Action → Type 0
    ActionRoom a = RoomFor question h.setting.world.word h.setting.locals (action_sites h.setting.world.word a)

    abbrev pub PartRoom : ℕ → Part → Type 0
    PartRoom i p = Roomy question h.setting.world.word (part_sites h.setting.world.word h.setting.locals i p)

-- 7, 8: a list of names with a limit, of variables or of definitions
unfoldable pub list_faults : Question → (ℕ → List ℕ) → ℕ → List ℕ → List ℕ
list_faults Limits w limit ks = drop limit ks
list_faults Fresh w limit ks = repeated w [] ks
list_faults Given w limit ks = []

-- 7: the numbers of variables
unfoldable pub number_faults : Question → (ℕ → List ℕ) → List Variable → List ℕ
number_faults Limits w vs = each (variable_beyond w) vs
number_faults Fresh w vs = []
number_faults Given w vs = []

-- 7, 8: the parameters of a definition; vars: the names of variables
unfoldable pub param_faults : Question → (ℕ → List ℕ) → List ℕ → List ℕ → List ℕ
param_faults Limits w vars ks = drop parameter_limit ks
param_faults Fresh w vars ks = repeated w vars ks
param_faults Given w vars ks = []

-- 7, 8, 9: a definition
unfoldable pub definition_faults : Question → (ℕ → List ℕ) → List Variable → List Definition → Definition → List ℕ
definition_faults q w vs ds d = param_faults q w (names vs) d.params ++ faults_over q w vs ds (definition_sites w d)

-- a definition of a syntax tree
abbrev pub defined : ℕ → Syntax.Params → Syntax.Sums → Definition
defined n p b = record { name = n; params = params_of p; sums = b }

-- 7: a count, by the kind of its item's node
unfoldable pub count_faults : ℕ → (ℕ → List ℕ) → ℕ → List ℕ
count_faults κ w c = cond (eqb κ node.counted || eqb κ node.counted_with) (when (ltb count_limit (worth 0 (w c))) c) []

-- 7, 9: an item of the system line
unfoldable pub start_faults : Question → (ℕ → List ℕ) → List Definition → Syntax.Start → List ℕ
start_faults Limits w ds s = start_beyond w s
start_faults Fresh w ds s = []
start_faults Given w ds s = start_wrong w ds s

-- 7, 8, 9: definitions and the system line
unfoldable pub lines_faults : Question → (ℕ → List ℕ) → List Variable → List Definition → Syntax.Definitions → List ℕ
lines_faults q w vs ds d = each (definition_faults q w vs ds) (definitions_in d) ++ each (start_faults q w ds) (starts_in (system_in d))

module _ {question : Question} {kinds low high nodes : List ℕ} {lists : Lists} (h : Ground question kinds low high nodes lists) where
  unfoldable pub definition_judged : Question → Definition → List ℕ
  definition_judged q d = definition_faults q h.world.word (variables h.world.model) (definitions h.world.model) d

  unfoldable pub lines_judged : Question → Syntax.Definitions → List ℕ
  lines_judged q d = lines_faults q h.world.word (variables h.world.model) (definitions h.world.model) d

  -- question 7 has passed them, where names are asked for
  abbrev pub DefinitionRoom : Definition → Type 0
  DefinitionRoom d = asks_names question ≡ true → least (definition_judged Limits d) ≡ None

  abbrev pub LinesRoom : Syntax.Definitions → Type 0
  LinesRoom d = asks_names question ≡ true → least (lines_judged Limits d) ≡ None

  abbrev pub TreeRoom : Type 0
  TreeRoom = asks_names question ≡ true → least (tree_faults Limits h.world.word h.world.model) ≡ None
