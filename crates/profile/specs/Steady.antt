-- Resolved models whose continuations leave at most one process (02, note 11). proofs/Resolves.antt shows that a text without offenders has such a model. Assumes nothing: these are definitions.
use Rattle.std.specs.Prelude.{List, ◌≤◌, length}
use Rattle.model.specs.Good.{Every}
use Rattle.model.specs.Resolved.{Part, enter, call, Branch, Sum, Model}
use Rattle.model.specs.Opening.{sums_in}

-- a part is one process: a sum of the text, or a call of a definition with at most one
unfoldable pub OneProcess : Model → Part → Type 0
OneProcess m (enter n) = Unit {0}
OneProcess m (call d es) = sums_in m.definitions d ≤ 1

-- 02, note 11: a continuation leaves at most one process
pub record SteadyNext (m : Model) (ps : List Part) : Type 0 where
  pub few : length ps ≤ 1
  pub parts : Every (OneProcess m) ps

abbrev pub SteadySum : Model → Sum → Type 0
SteadySum m s = Every (λ (b : Branch). SteadyNext m b.next) s.branches

-- 02, note 11: every continuation does
unfoldable pub Steady : Model → Type 0
Steady m = Every (SteadySum m) m.sums
