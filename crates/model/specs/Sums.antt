-- What sum number k of a resolved model is (01, State; 02, note 6): the text's sum with that number, its branches resolved in its scope, with the definition whose text holds it.
-- Assumes nothing: this is a definition.
use Rattle.std.specs.Prelude.{◌≡◌, List, ℕ, length}
use Rattle.grammar.specs.Syntax
use Rattle.model.specs.Sites.{Scope, variables, definitions}
use Rattle.model.specs.Resolved
use Rattle.model.specs.Resolved.{channel_names, resolve_branches}
use Rattle.model.specs.Stands.{SumIn, WrittenIn}

-- w: the bytes of each token
pub record SumIs (w : ℕ → List ℕ) (m : Syntax.Model) (k : ℕ) (x : Resolved.Sum) : Type 0 where
  pub scope : Scope
  pub tree : Syntax.Branches
  pub stands : SumIn m scope (Syntax.sum k tree)
  pub written : WrittenIn m x.definition (Syntax.sum k tree)
  pub locals : x.locals ≡ length scope
  pub branches : x.branches ≡ resolve_branches w (variables m) (definitions m) (channel_names w (variables m) (definitions m)) scope tree
