-- What the functions over sites may take for granted: what the tables say of a text, and which locals are in scope. Assumes nothing: these are definitions.
use Rattle.std.specs.Prelude.{◌≡◌, List, ◌++◌, true, ℕ, ◌+◌, ◌≤◌, ◌<◌, min, length, get_or, take}
use Rattle.word.specs.Number.{worth, cap}
use Rattle.token.specs.Kind as kind
use Rattle.token.specs.Contents.{lows_in, highs_in}
use Rattle.grammar.specs.Syntax
use Rattle.tree.specs.Table
use Rattle.model.specs.Lists.{every_other}
use Rattle.model.specs.Sites.{Site, variables, definitions, names}
use Rattle.model.specs.Words.{same}
use Rattle.model.specs.Limits.{local_limit}
use Rattle.grammar.specs.Limit.{token_limit}
use Rattle.names.specs.declared.Question.{Question}
use Rattle.names.specs.declared.Lists.{Lists}
use Rattle.names.specs.declared.scope.Scope.{Scope}
use Rattle.names.specs.declared.Parsed.{Parsed}
use Rattle.names.specs.declared.Context.{Context}
use Rattle.names.specs.Faults.{asks_names, site_faults}
use Rattle.names.specs.Lists.{packed, Gathered}
use Rattle.names.specs.Placed.{IsName, Named, Fits}

-- a scope with these locals more, as far as there is room
pub record Extended (scope : Scope) (more : List ℕ) (r : Scope) : Type 0 where
  pub full : length r.names ≡ local_limit
  pub count : r.count ≡ min local_limit (scope.count + length more)
  pub names-are : scope.count + length more ≤ local_limit → take r.count r.names ≡ take scope.count scope.names ++ more

-- the tables tell of a text's words and of its syntax tree: what a whole number comes to, which names are the same, and which token each node has
pub record World (question : Question) (low high nodes : List ℕ) (lists : Lists) : Type 0 where
  pub word : ℕ → List ℕ
  pub kinds : List ℕ
  pub model : Syntax.Model
  pub few : length kinds ≤ token_limit
  pub lows : length kinds ≤ length low
  pub highs : length kinds ≤ length high
  pub numbers : (k : ℕ) → get_or kinds k 0 ≡ kind.whole → get_or low k 0 ≡ min cap (worth 0 (word k))
  pub alike : asks_names question ≡ true → (j k : ℕ) → IsName kinds j → IsName kinds k → same (packed low high) j k ≡ same word j k
  pub holds : Table.Model nodes model 0 lists.root
  pub gathered : Gathered model lists.root lists
  pub placed : (i : ℕ) → i ≤ lists.root → Fits kinds (get_or nodes i 0)

-- a scope holds these locals: all of them where names are asked for, else their number up to the limit
pub record Scoped (question : Question) (kinds : List ℕ) (scope : Scope) (locals : List ℕ) : Type 0 where
  pub full : length scope.names ≡ local_limit
  pub count : scope.count ≡ min local_limit (length locals)
  pub locals_are : asks_names question ≡ true → take scope.count scope.names ≡ locals
  pub named : Named kinds locals

pub record Setting (question : Question) (low high nodes : List ℕ) (lists : Lists) (scope : Scope) : Type 0 where
  pub world : World question low high nodes lists
  pub locals : List ℕ
  pub scoped : Scoped question world.kinds scope locals

-- the tokens at fault at a site there
unfoldable pub faults_at : {question : Question} {low high nodes : List ℕ} {lists : Lists} {scope : Scope} → Setting question low high nodes lists scope → Site → List ℕ
faults_at {question} h x = site_faults question h.world.word (variables h.world.model) (definitions h.world.model) h.locals x

-- 8: the names that a local meets
unfoldable pub known_in : {question : Question} {low high nodes : List ℕ} {lists : Lists} {scope : Scope} → Setting question low high nodes lists scope → List ℕ
known_in h = names (variables h.world.model) ++ h.locals

-- n names are bound there, every second token from `first` on; where names are asked for, there is room for them
pub record Binding (question : Question) (low high nodes : List ℕ) (lists : Lists) (scope : Scope) (first n : ℕ) : Type 0 where
  pub setting : Setting question low high nodes lists scope
  pub named : Named setting.world.kinds (every_other first n)
  pub after : 0 < first
  pub some : 0 < n
  pub room : asks_names question ≡ true → scope.count + n ≤ local_limit

-- the same of a text as it is lent
abbrev pub WorldIn : Question → Parsed → Type 0
WorldIn q p = World q (lows_in p.contents.now) (highs_in p.contents.now) p.nodes.now p.lists

abbrev pub SettingIn : Question → Parsed → Scope → Type 0
SettingIn q p scope = Setting q (lows_in p.contents.now) (highs_in p.contents.now) p.nodes.now p.lists scope

-- and of what a walk asks of it
abbrev pub WorldOf : Context → Type 0
WorldOf c = World c.question (lows_in c.contents.now) (highs_in c.contents.now) c.nodes.now c.lists

abbrev pub SettingOf : Context → Type 0
SettingOf c = Setting c.question (lows_in c.contents.now) (highs_in c.contents.now) c.nodes.now c.lists c.scope

abbrev pub BindingOf : Context → ℕ → ℕ → Type 0
BindingOf c = Binding c.question (lows_in c.contents.now) (highs_in c.contents.now) c.nodes.now c.lists c.scope
