-- Lists of places, and the first of them. Assumes nothing: these are definitions.
use Rattle.std.specs.Prelude.{List, [], ◌∷◌, ◌++◌, Bool, false, cond, ◌||◌, ℕ, zero, suc, ◌+◌, min, None, Some}
use Rattle.token.specs.Questions.{Found}

-- what f gives for each member, one after the other
unfoldable pub each : {A B : Type 0} → (A → List B) → List A → List B
each f [] = []
each f (x ∷ xs) = f x ++ each f xs

-- one place where the test says so
unfoldable pub when : Bool → ℕ → List ℕ
when b k = cond b (k ∷ []) []

unfoldable pub any : {A : Type 0} → (A → Bool) → List A → Bool
any p [] = false
any p (x ∷ xs) = p x || any p xs

-- k, k + 2, and so on, n of them: names parted by commas
unfoldable pub every_other : ℕ → ℕ → List ℕ
every_other k zero = []
every_other k (suc n) = k ∷ every_other (k + 2) n

-- 01, Opening a text: of several faults the one that stands first
unfoldable pub earlier : ℕ → Found → Found
earlier k None = Some k
earlier k (Some m) = Some (min k m)

unfoldable pub least : List ℕ → Found
least [] = None
least (k ∷ ks) = earlier k (least ks)
