-- Waits marked at their tokens, and their names as first met (02, note 13). Definitions only.
use Rattle.std.specs.Prelude.{◌≡◌, Bool, true, false, cond, ◌&&◌, not, ℕ, zero, suc, ◌<◌, length, get_or, set, take}
use mathlib.Core.List.{List, [], ◌∷◌, ◌++◌, Memᴰ as In}
use Rattle.std.proofs.Math.Option.{Option-elim}
use Rattle.model.specs.Lists.{any}
use Rattle.model.specs.Words.{same}
use Rattle.model.specs.Given.{place_in}
use Rattle.model.specs.Resolved
use Rattle.tables.specs.Represents.{Represents}
use Rattle.waitnames.specs.Names.{all_waits, name_tokens, name_number, wait_number}

-- true at each of these tokens
unfoldable pub marked : List Bool → List ℕ → List Bool
marked l [] = l
marked l (k ∷ ks) = marked (set l k true) ks

-- all of them have a place
abbrev pub Within : ℕ → List ℕ → Type 0
Within n ks = (k : ℕ) → In k ks → k < n

-- nodes and roots hold the model
pub record Shown (t roots : List ℕ) (sums : ℕ) (m : Resolved.Model) : Type 0 where
  pub scopes : List ℕ
  pub root : ℕ
  pub variables : ℕ
  pub definitions : ℕ
  pub channels : ℕ
  pub represents : Represents t roots scopes root variables definitions sums channels m

module _ (w : ℕ → List ℕ) where
  -- the place of the first of these names that token k has, their number where it has none
  unfoldable pub place_or : ℕ → List ℕ → ℕ
  place_or k names = Option-elim (place_in w k 0 names) (length names) (λ i. i)

  -- the names met, with token k: one more where it is marked and has none of them
  unfoldable pub met_next : List Bool → ℕ → List ℕ → List ℕ
  met_next marks k names = cond (get_or marks k false && not (any (same w k) names)) (names ++ k ∷ []) names

  -- the names met among the first n tokens
  unfoldable pub met : List Bool → ℕ → List ℕ
  met marks zero = []
  met marks (suc n) = met_next marks n (met marks n)

-- of the first k tokens: the names met, and at each marked one the place of its name
pub record Found (w : ℕ → List ℕ) (marks : List Bool) (names numbers : List ℕ) (count k : ℕ) : Type 0 where
  pub names-are : take count names ≡ met w marks k
  pub numbers-are : (j : ℕ) → j < k → get_or marks j false ≡ true → get_or numbers j 0 ≡ place_or w j (met w marks j)

-- 02, note 13: the tokens of the names, in the order of the text, and at each wait's token the number of its name
pub record Numbers (m : Resolved.Model) (names numbers : List ℕ) (count : ℕ) : Type 0 where
  pub names-are : take count names ≡ name_tokens m
  pub numbers-are : (k : ℕ) → In k (all_waits m) → get_or numbers k 0 ≡ name_number m k

-- 02, note 10: one more than the number of a name that is lent, 0 where no wait has it
unfoldable pub code_of : Resolved.Model → (name : List ℕ) → ℕ
code_of m x = Option-elim (wait_number m x) 0 suc
