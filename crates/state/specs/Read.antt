-- What is read from the numbers of a state (01, State). Definitions only.
use Rattle.std.specs.Prelude.{◌≡◌, true, List, ℕ, ◌+◌, ◌*◌, ℤ, nat_abs, length, take, drop}
use Rattle.model.specs.Limits.{local_limit}
use Rattle.model.specs.Opening.{process_limit}
use Rattle.machine.specs.State.{process_width, pair_width, state_length}
use Rattle.state.specs.Fits.{FewLocals}
use Rattle.state.specs.Test.{at, is_state}

-- 01, Listing, 11: numbers that are those of a state over some model
pub record Passed (zs : List ℤ) : Type 0 where
  pub scopes : List ℕ
  pub channels : ℕ
  pub few : FewLocals scopes
  pub long : length zs ≡ state_length
  pub passes : is_state scopes channels zs ≡ true

-- 01, State: the first count
abbrev pub process_count : List ℤ → ℕ
process_count zs = nat_abs (at zs 0)

-- 01, State: the second count
abbrev pub pair_count : List ℤ → ℕ
pair_count zs = nat_abs (at zs 1)

-- 01, State: the sum number of the process at a place
unfoldable pub sum_at : List ℤ → ℕ → ℕ
sum_at zs place = nat_abs (at zs (2 + place * process_width))

-- 01, State: the first k locals of the process at a place
unfoldable pub locals_at : List ℤ → ℕ → ℕ → List ℤ
locals_at zs place k = take k (drop (2 + place * process_width + 1) zs)

-- 02, note 6: the definition number of the process at a place, after all its locals
unfoldable pub definition_number : List ℤ → ℕ → ℕ
definition_number zs place = nat_abs (at zs (2 + place * process_width + (1 + local_limit)))

-- 01, State: the numbers of the pair at a place
unfoldable pub pair_row : List ℤ → ℕ → List ℤ
pair_row zs place = take pair_width (drop (2 + process_limit * process_width + place * pair_width) zs)
