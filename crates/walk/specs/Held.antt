-- What a search is lent (02, notes 8 and 9): the tables of a model with the words of its tokens, tables of states and of listings whose first rows are those of a state, and room for more. Definitions only.
use Rattle.std.specs.Prelude.{◌≡◌, [], Bool, ℕ, ◌+◌, ◌≤◌, ℤ, length, get_or, Option, None, Some, Result, Ok, Err}
use mathlib.Core.List.{List, Memᴰ as In}
use Rattle.model.specs.Resolved
use Rattle.model.specs.Good.{GoodModel}
use Rattle.tables.specs.Represents.{Represents}
use Rattle.tables.specs.Spelled.{Spells}
use Rattle.rules.specs.Rules.{key}
use Rattle.rules.specs.Listing as rules
use Rattle.machine.specs.Offer.{branches}
use Rattle.machine.specs.State.{State, GoodState, state_numbers}
use Rattle.machine.specs.Machine.{entries_are, listing, moves_to}
use Rattle.listing.specs.Buffer.{filled_numbers}
use Rattle.step.specs.Enter.{Lent}
use Rattle.runs.specs.Tree.{Way, idle, refused, leads, way_in}
use Rattle.step.specs.declared.Refusal.{Refusal}
use Rattle.walk.specs.declared.Search.{Search}

-- nodes, roots and scopes hold a good model, and places and sizes tell the words of its tokens
pub record Held (t roots scopes : List ℕ) (root variables : ℕ) (text places sizes : List ℕ) (m : Resolved.Model) : Type 0 where
  pub definitions : ℕ
  pub sums : ℕ
  pub channels : ℕ
  pub represents : Represents t roots scopes root variables definitions sums channels m
  pub good : GoodModel m
  pub spells : Spells m.words text places sizes

-- the same of what is searched
abbrev pub Holds : Search → Resolved.Model → Type 0
Holds x m = Held x.tables.nodes.now x.tables.roots.now x.tables.scopes.now x.tables.root x.tables.variables x.written.text.now x.written.places.now x.written.sizes.now m

-- an entry of the state's listing, of kind c, by branch j of the process at place i
pub record Seen (t roots scopes text places sizes : List ℕ) (zs : List ℤ) (c i j : ℕ) (m : Resolved.Model) (s : State) (k n q w : ℕ) : Type 0 where
  pub root : ℕ
  pub variables : ℕ
  pub lent : Lent t roots scopes root variables zs m s
  pub spells : Spells m.words text places sizes
  pub listed : In (rules.entry (key c i j k n q) w) (rules.entries (branches m) s)

abbrev pub Sees : Search → List ℤ → (c i j : ℕ) → Resolved.Model → State → (k n q w : ℕ) → Type 0
Sees x zs c i j m s k n q w = Seen x.tables.nodes.now x.tables.roots.now x.tables.scopes.now x.written.text.now x.written.places.now x.written.sizes.now zs c i j m s k n q w

-- the first row of a table of states or listings, and the second of one of states
abbrev pub first : {A : Type 0} → List (List A) → List A
first rows = get_or rows 0 []

abbrev pub second : {A : Type 0} → List (List A) → List A
second rows = get_or rows 1 []

-- a row of numbers is that of s
pub record Stands (zs : List ℤ) (m : Resolved.Model) (s : State) : Type 0 where
  pub good : GoodState m s
  pub numbers : zs ≡ state_numbers s

-- a row of listings is that of s
pub record Lists (l : List ℕ) (m : Resolved.Model) (s : State) (es : List rules.Entry) : Type 0 where
  pub listed : listing m s ≡ entries_are es
  pub numbers : l ≡ filled_numbers es

-- room for runs of n entries, the states along them and their listings
pub record Room (n : ℕ) (zs : List (List ℤ)) (l : List (List ℕ)) (run : List ℕ) : Type 0 where
  pub states : 1 + n ≤ length zs
  pub listings : n ≤ length l
  pub entries : n ≤ length run

-- 02, note 8: what taking an entry comes to: it has weight zero; 17 to 19; or it is taken, and whether it is the wait
abbrev pub Move : Type 0
Move = Result (Option Bool) Refusal

-- s being the state after it
unfoldable pub way_found : Move → State → Way State
way_found (Ok None) s = idle
way_found (Ok (Some h)) s = leads h s
way_found (Err r) s = refused

-- entry e of the state that stands first is taken: the first row stays, and the second is that of the state after it
pub record Takes (m : Resolved.Model) (name : List ℕ) (s : State) (e : ℕ) (zs zs' : List (List ℤ)) (r : Move) : Type 0 where
  pub after : State
  pub way : way_found r after ≡ way_in (moves_to m name s) e
  pub stays : first zs' ≡ first zs
  pub goes : (h : Bool) → r ≡ Ok (Some h) → Stands (second zs') m after
