-- What it is to take an entry, by the buffers (02, note 14). Definitions only.
use Rattle.std.specs.Prelude.{◌≡◌, List, ℕ, ◌*◌, ℤ, length, take, drop}
use Rattle.model.specs.Resolved
use Rattle.rules.specs.Rules.{Key}
use Rattle.rules.specs.Listing.{entry}
use Rattle.machine.specs.State.{State, state_length}
use Rattle.machine.specs.Machine.{model_length, entry_width, listing_length, held, holding, list', step', on', state, two_parts}
use Rattle.buffers.specs.Listing.{entry_numbers}
use Rattle.buffers.specs.Parts.{lent_two}
use Rattle.buffers.specs.Effect.{Effect, machine_in, effect}

-- 01, Listing and stepping: what a list and a step do to these model, state and listing buffers
abbrev pub listed : List ℕ → List ℤ → List ℕ → Effect
listed bs zs l = effect (on' list') (lent_two bs zs) l

abbrev pub stepped : List ℕ → List ℤ → List ℕ → ℕ → Effect
stepped bs zs l d = effect (on' (step' d)) (lent_two bs zs) l

-- 01, Listing, 1 and 11: model and state buffers of right lengths, which hold the model m and a state s over it
pub record Passes (bs : List ℕ) (zs : List ℤ) (m : Resolved.Model) (s : State) : Type 0 where
  pub model-long : length bs ≡ model_length
  pub state-long : length zs ≡ state_length
  pub holds : machine_in two_parts (lent_two bs zs) ≡ holding (held m s)

-- 01, Transitions: the seven numbers of entry c in a listing buffer
unfoldable pub row_at : List ℕ → ℕ → List ℕ
row_at l c = take entry_width (drop (c * entry_width) l)

-- 02, note 14: over these model and state buffers, with some listing buffer of right length and some draw, a step is accepted; the row that it chose has this key, and the state
-- buffer is left so
pub record Takes (bs : List ℕ) (zs : List ℤ) (k : Key) (left : List ℤ) : Type 0 where
  pub listing : List ℕ
  pub long : length listing ≡ listing_length
  pub draw : ℕ
  pub accepted : (stepped bs zs listing draw).answer.number ≡ 0
  pub weight : ℕ
  pub chosen : row_at (stepped bs zs listing draw).output (stepped bs zs listing draw).answer.chosen ≡ entry_numbers (entry k weight)
  pub leaves : (stepped bs zs listing draw).left state ≡ left

-- 02, note 14: an accepted listing over these buffers has this entry in some row
pub record Shows (bs : List ℕ) (zs : List ℤ) (k : Key) (w : ℕ) (l : List ℕ) : Type 0 where
  pub number : ℕ
  pub row : row_at (listed bs zs l).output number ≡ entry_numbers (entry k w)
