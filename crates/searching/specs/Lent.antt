-- The tables that a search is lent: a model's, and the words of its tokens (02, note 8). Definitions only.
use Rattle.std.specs.Prelude.{List, ℕ}
use Rattle.model.specs.Resolved
use Rattle.model.specs.Good.{GoodModel}
use Rattle.tables.specs.Represents.{Represents}
use Rattle.tables.specs.Spelled.{Spells}
use Rattle.store.specs.declared.Settled.{Settled}
use Rattle.walk.specs.declared.Written.{Written}

-- nodes, roots and scopes hold a good model, with its root and so many variables, sums and channel names; places and sizes tell the words of its tokens in the text
pub record Worded (t roots scopes : List ℕ) (root variables sums channels : ℕ) (text places sizes : List ℕ) (m : Resolved.Model) : Type 0 where
  pub definitions : ℕ
  pub represents : Represents t roots scopes root variables definitions sums channels m
  pub good : GoodModel m
  pub spells : Spells m.words text places sizes

-- 02, note 8: the same of the tables and the text as two values
abbrev pub Lends : Settled → Written → Resolved.Model → Type 0
Lends x y m = Worded x.tables.nodes.now x.tables.roots.now x.tables.scopes.now x.tables.root x.tables.variables x.sums x.channels y.text.now y.places.now y.sizes.now m
