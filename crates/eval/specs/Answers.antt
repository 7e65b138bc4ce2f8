-- What evaluation comes to (machine: Evaluate) as the answers of functions. Assumes nothing: these are definitions.
use Rattle.std.specs.Prelude.{◌≡◌, List, Bool, not, ℕ, ℤ, Some, None}
use Rattle.std.specs.Prelude.{Option as RustOption}
use Rattle.std.proofs.Math.Option.{Option, none, some}
use Rattle.model.specs.Resolved
use Rattle.rules.specs.Offers as offers
use Rattle.tables.specs.Settled as Settled
use Rattle.machine.specs.Offer.{is_none}
use Rattle.machine.specs.Evaluate.{eval_set, eval_cond}

-- r says of the set at k, where all its ends have values, whether v is in it
abbrev pub Tells : List ℕ → List ℤ → ℤ → ℕ → Bool → Type 0
Tells t ls v k r = (s : Resolved.Set) (x : offers.Set) → Settled.Set t s k → eval_set ls s ≡ some x → r ≡ offers.within x v

-- all ends of a set have values
unfoldable pub ends_known : List ℤ → Resolved.Set → Bool
ends_known ls s = not (is_none (eval_set ls s))

-- 01, Values: true, false, or no value
abbrev pub Truth : Type 0
Truth = RustOption Bool

unfoldable pub truth_of : Option Bool → Truth
truth_of (some b) = Some b
truth_of none = None

-- a condition
unfoldable pub truth : List ℤ → Resolved.Cond → Truth
truth ls c = truth_of (eval_cond ls c)
