-- Equal texts give equal tables (01, State): what two answers to one text have to be. Assumes nothing: these are definitions.
use Rattle.std.specs.Prelude.{◌≡◌, List, ℕ, Ok}
use Rattle.opening.specs.Models.{Held, Opened}
use Rattle.opening.specs.declared.SoundModel.{SoundModel}
use Rattle.opening.specs.declared.Accepted.{Accepted}
use Rattle.settle.specs.Settles.{SameTables}

-- the same answer to questions 2 to 9; where it is a model, the same tables
pub record SameHeld (nodes roots scopes nodes' roots' scopes' : List ℕ) (r r' : Held) : Type 0 where
  pub answers : r ≡ r'
  pub tables : (f : SoundModel) → r ≡ Ok f → SameTables nodes roots scopes nodes' roots' scopes' f.model

-- the same answer to all questions; where they are all yes, the same tables
pub record SameOpened (nodes roots scopes nodes' roots' scopes' : List ℕ) (r r' : Opened) : Type 0 where
  pub answers : r ≡ r'
  pub tables : (o : Accepted) → r ≡ Ok o → SameTables nodes roots scopes nodes' roots' scopes' o.model
