-- What is found over the tables of a model (01, Listing and stepping). Definitions only.
use Rattle.std.specs.Prelude.{◌≡◌, List, ℤ, ℕ, Result, Err, Ok}
use Rattle.std.proofs.Math.Option.{some}
use Rattle.model.specs.Resolved
use Rattle.machine.specs.State.{State, GoodState, state_numbers}
use Rattle.machine.specs.Machine as machine
use Rattle.listing.specs.Buffer.{Lists, Outcome}
use Rattle.buffers.specs.Parts.{lent_two}
use Rattle.buffers.specs.Effect.{machine_over}
use Rattle.engine.specs.declared.Told.{Told}
use Rattle.engine.specs.declared.Refusal.{Refusal}
use Rattle.engine.specs.declared.Refusal.TheVariants.{NotHeld, Listing}

-- 01, Listing: acceptance with entry count and total, or a refusal of the listing
abbrev pub told_by : Outcome → Result Told Refusal
told_by (Ok x) = Ok (record { listed = x; chosen = 0 })
told_by (Err r) = Err (Listing r)

-- 01, Listing, 11 to 14: what is found of the model m, a state's numbers zs and the listing buffer l as lent; b is the buffer after it
pub data Finds (m : Resolved.Model) (zs : List ℤ) (l : List ℕ) (r : Result Told Refusal) (b : List ℕ) : Type 0 where
  -- 11 changes nothing
  closed : ((bs : List ℕ) → machine_over machine.two_parts (lent_two bs zs) (some m) ≡ machine.closed) → r ≡ Err NotHeld → b ≡ l → Finds m zs l r b
  -- 12 to 14, or the listing of the state
  holding : {s : State} {x : Outcome} → ((bs : List ℕ) → machine_over machine.two_parts (lent_two bs zs) (some m) ≡ machine.holding (machine.held m s)) → GoodState m s → zs ≡ state_numbers s → r ≡ told_by x → Lists (machine.listing m s) x b → Finds m zs l r b
