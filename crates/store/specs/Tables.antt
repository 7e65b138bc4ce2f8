-- The tables of a model that a text holds (01, Listing and stepping). Definitions only.
use Rattle.std.specs.Prelude.{List, ℕ}
use Rattle.model.specs.Resolved
use Rattle.model.specs.Good.{GoodModel}
use Rattle.tables.specs.Represents.{Represents}
use Rattle.store.specs.declared.Settled.{Settled}

-- nodes, roots and scopes hold a good model with so many sums and channel names
pub record Tables (t roots scopes : List ℕ) (sums channels : ℕ) (m : Resolved.Model) : Type 0 where
  pub root : ℕ
  pub variables : ℕ
  pub definitions : ℕ
  pub represents : Represents t roots scopes root variables definitions sums channels m
  pub good : GoodModel m

-- the same with its root and so many variables
pub record Whole (t roots scopes : List ℕ) (root variables sums channels : ℕ) (m : Resolved.Model) : Type 0 where
  pub definitions : ℕ
  pub represents : Represents t roots scopes root variables definitions sums channels m
  pub good : GoodModel m

-- both of the tables as one value
abbrev pub Holds : Settled → Resolved.Model → Type 0
Holds s m = Tables s.tables.nodes.now s.tables.roots.now s.tables.scopes.now s.sums s.channels m

abbrev pub Shows : Settled → Resolved.Model → Type 0
Shows s m = Whole s.tables.nodes.now s.tables.roots.now s.tables.scopes.now s.tables.root s.tables.variables s.sums s.channels m
