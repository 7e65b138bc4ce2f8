-- The listing of a state first in a buffer, and an entry of it (01, Transitions, Step). Definitions only.
use Rattle.std.specs.Prelude.{◌≡◌, List, ℕ, ℤ, length}
use Rattle.std.proofs.Math.Option.{some}
use Rattle.std.proofs.Math.ListN.{get_elem?}
use Rattle.model.specs.Resolved
use Rattle.rules.specs.Listing.{Entry}
use Rattle.rules.specs.Draw.{weights, total}
use Rattle.machine.specs.State.{State}
use Rattle.machine.specs.Machine.{entries_are, listing}
use Rattle.listing.specs.Buffer.{rows}
use Rattle.step.specs.Enter.{Lent}

-- 01, Step: the tables, the numbers zs of a state s, and the listing es of it first in the buffer l
pub record Listing (t roots scopes : List ℕ) (root variables : ℕ) (zs : List ℤ) (l : List ℕ) (m : Resolved.Model) (s : State) (es : List Entry) : Type 0 where
  pub lent : Lent t roots scopes root variables zs m s
  pub listed : listing m s ≡ entries_are es
  pub rest : List ℕ
  pub numbers : l ≡ rows es rest

-- with its count and total
pub record Counted (t roots scopes : List ℕ) (root variables : ℕ) (zs : List ℤ) (l : List ℕ) (count sum : ℕ) (m : Resolved.Model) (s : State) (es : List Entry) : Type 0 where
  pub listing : Listing t roots scopes root variables zs l m s es
  pub count-is : count ≡ length es
  pub sum_is : sum ≡ total (weights es)

-- with entry c of it
pub record Row (t roots scopes : List ℕ) (root variables : ℕ) (zs : List ℤ) (l : List ℕ) (c : ℕ) (m : Resolved.Model) (s : State) (es : List Entry) (e : Entry) : Type 0 where
  pub listing : Listing t roots scopes root variables zs l m s es
  pub at : get_elem? es c ≡ some e
