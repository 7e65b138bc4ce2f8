-- Lists whose members stand at numbers that ascend strictly. By induction on the lists; assumes nothing.
use mathlib.Core.Path.{◌≡◌}
use mathlib.Core.List.{List, [], ◌∷◌, ◌++◌}
use mathlib.Core.Option.{some}
use Prim.Native.Nat.{ℕ, zero, suc, ◌+◌, ◌≤◌, ◌<◌}
use native.Mathlib.Omega.{arith}
use lib.ListN.{get_elem?}
use Rattle.model.proofs.Members.{never}

-- f: where a member stands
module _ {A : Type 0} (f : A → ℕ) where
  -- they ascend from lo on, below hi
  abbrev pub Ascends : ℕ → List A → ℕ → Type 0
  Ascends lo [] hi = lo ≤ hi
  Ascends lo (x ∷ xs) hi = (lo ≤ f x) × Ascends (f x + 1) xs hi

  pub ascends-append : (lo mid hi : ℕ) (xs ys : List A) → Ascends lo xs mid → Ascends mid ys hi → Ascends lo (xs ++ ys) hi
  ascends-append lo mid hi [] [] p q = omega arith
  ascends-append lo mid hi [] (y ∷ ys) p q = (omega (arith, q.0), q.1)
  ascends-append lo mid hi (x ∷ xs) ys p q = (p.0, ascends-append (f x + 1) mid hi xs ys p.1 q)

  pub ascends-wider : (lo lo' hi hi' : ℕ) (xs : List A) → lo' ≤ lo → hi ≤ hi' → Ascends lo xs hi → Ascends lo' xs hi'
  ascends-wider lo lo' hi hi' [] h g p = omega arith
  ascends-wider lo lo' hi hi' (x ∷ xs) h g p = (omega (arith, p.0), ascends-wider (f x + 1) (f x + 1) hi hi' xs (omega arith) g p.1)

  ascends-at : {x : A} (lo hi : ℕ) (xs : List A) (i : ℕ) → Ascends lo xs hi → get_elem? xs i ≡ some x → lo ≤ f x
  ascends-at lo hi [] i a e = never e
  ascends-at {x} lo hi (y ∷ xs) zero a e = let d : y ≡ x = cc in rw (← d) a.0
  ascends-at lo hi (y ∷ xs) (suc i) a e = let h = ascends-at (f y + 1) hi xs i a.1 e in omega (arith, a.0)

  -- of two members the later one stands later
  pub ascends-two : {x y : A} (lo hi : ℕ) (xs : List A) (i j : ℕ) → Ascends lo xs hi → get_elem? xs i ≡ some x → get_elem? xs j ≡ some y → i < j → f x < f y
  ascends-two lo hi [] i j a e g h = never e
  ascends-two lo hi (z ∷ xs) zero zero a e g h = absurd (omega arith)
  ascends-two {x} lo hi (z ∷ xs) zero (suc j) a e g h =
      let d : z ≡ x = cc in let l = ascends-at (f z + 1) hi xs j a.1 g in rw (← d) (omega arith)
  ascends-two lo hi (z ∷ xs) (suc i) zero a e g h = absurd (omega arith)
  ascends-two lo hi (z ∷ xs) (suc i) (suc j) a e g h = ascends-two (f z + 1) hi xs i j a.1 e g (omega arith)
