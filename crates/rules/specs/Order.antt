-- The order in which pairs and entries stand. Definitions only.
use mathlib.Core.List.{List, [], ◌∷◌, Memᴰ as In}
use Rattle.std.specs.Prelude.{Bool, true, false, ◌&&◌, ◌||◌, ℤ}
use Rattle.value.specs.Arithmetic.{is_less, is_same}

-- 01, State and Transitions, orders: number by number, the first in which two lists differ decides
unfoldable pub less : List ℤ → List ℤ → Bool
less [] [] = false
less [] (y ∷ ys) = true
less (x ∷ xs) [] = false
less (x ∷ xs) (y ∷ ys) = is_less x y || is_same x y && less xs ys

-- 01, Listing and stepping, 11: strictly ascending, each member stands before all that follow it
unfoldable pub Ascending : {A : Type 0} → (A → A → Type 0) → List A → Type 0
Ascending R [] = Unit {0}
Ascending {A} R (x ∷ xs) = ((y : A) → In y xs → R x y) × Ascending R xs
