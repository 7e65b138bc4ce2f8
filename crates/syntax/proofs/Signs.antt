-- What a sign's kind says of the sign: it is one of the list, or, where there is none, none of them. By induction on the list.
use mathlib.Core.Path.{◌≡◌, refl}
use mathlib.Core.List.{List, [], ◌∷◌}
use mathlib.Core.Bool.{Bool, true, false, cond}
use mathlib.Core.Logic.{◌⊎◌, inl, inr}
use Prim.Native.Nat.{ℕ}
use borrow.Author.Tests.{eqb-true, eqb-false}
use lib.Dec.{eqb}
use Rattle.std.specs.Prelude.{Some, None}
use Rattle.syntax.specs.Signs.{sign_kind}

-- t is one of the signs, and k its kind
abbrev pub Hit : ℕ → ℕ → List (ℕ × ℕ) → Type 0
Hit t k [] = ⊥
Hit t k (s ∷ more) = ((t ≡ s.0) × (k ≡ s.1)) ⊎ Hit t k more

-- t is none of the signs
abbrev pub Apart : ℕ → List (ℕ × ℕ) → Type 0
Apart t [] = Unit {0}
Apart t (s ∷ more) = (t ≡ s.0 → ⊥) × Apart t more

pub hit : (signs : List (ℕ × ℕ)) (t k : ℕ) → Some k ≡ sign_kind signs t → Hit t k signs
unfolding sign_kind
hit [] t k e = absurd (cc)
hit (s ∷ more) t k e = by (eqb t s.0) refl e (hit more t k)
  where
    by : (b : Bool) → eqb t s.0 ≡ b → Some k ≡ cond b (Some s.1) (sign_kind more t) → (Some k ≡ sign_kind more t → Hit t k more) → Hit t k (s ∷ more)
    by true q e h = inl (eqb-true t s.0 q, cc)
    by false q e h = inr (h e)

pub apart : (signs : List (ℕ × ℕ)) (t : ℕ) → None ≡ sign_kind signs t → Apart t signs
unfolding sign_kind
apart [] t e = tt
apart (s ∷ more) t e = by (eqb t s.0) refl e (apart more t)
  where
    by : (b : Bool) → eqb t s.0 ≡ b → None ≡ cond b (Some s.1) (sign_kind more t) → (None ≡ sign_kind more t → Apart t more) → Apart t (s ∷ more)
    by true q e h = absurd (cc)
    by false q e h = (eqb-false t s.0 q, h e)
