-- A place moves by how many processes replace those that act before it, less these: by induction on the place.
use Prim.Native.Nat.{ℕ, zero, suc, ◌+◌}
use mathlib.Core.Path.{◌≡◌, refl}
use mathlib.Core.Bool.{Bool, true, false, cond}
use mathlib.Core.List.Memᴰ
use mathlib.Core.List.{List, [], ◌∷◌, Memᴰ as In}
use mathlib.Core.Logic.{⊎_elim}
use mathlib.Core.Option.{some, Option-elim}
use native.Mathlib.Omega.{arith}
use borrow.Author.Tests.{ltb-true, ltb-false, lt-ltb, le-ltb, eqb-true, eqb-false, ne_eqb}
use lib.Dec.{eqb, ltb}
use lib.ListN.{length}
use Rattle.rules.specs.Offers.{Branch, State}
use Rattle.rules.specs.Rules.{Change as Written, Key, Moves, alone, together}
use Rattle.rules.specs.Carried.{Change, becomes, size, place_after, becoming, moved, before_it}
use Rattle.rules.proofs.Places.{meeting}
use Rattle.rules.proofs.Independent.{places_of, one-becomes, two-become}

-- no place stands twice
pub data Once {A : Type 0} : List (Change A) → Type 0 where
  nothing : Once []
  and : {x : Change A} {xs : List (Change A)} → (In x.0 (places_of xs) → ⊥) → Once xs → Once (x ∷ xs)

module _ {A : Type 0} where
  -- those that act at the place itself
  abbrev at_it : (List A → ℕ) → Change A → ℕ → ℕ
  at_it f x n = cond (eqb n x.0) (f x.1) 0

  unfoldable at_all : (List A → ℕ) → List (Change A) → ℕ → ℕ
  at_all f [] n = 0
  at_all f (x ∷ xs) n = at_it f x n + at_all f xs n

  one_more : (f : List A → ℕ) (x : Change A) (n : ℕ) → cond (ltb x.0 (suc n)) (f x.1) 0 ≡ cond (ltb x.0 n) (f x.1) 0 + cond (eqb n x.0) (f x.1) 0
  one_more f x n = go (ltb x.0 n) refl (eqb n x.0) refl
    where
      go : (b : Bool) → ltb x.0 n ≡ b → (a : Bool) → eqb n x.0 ≡ a → cond (ltb x.0 (suc n)) (f x.1) 0 ≡ cond b (f x.1) 0 + cond a (f x.1) 0
      go true l true e = absurd (omega (arith, ltb-true x.0 n l, eqb-true n x.0 e))
      go true l false e = rw (lt-ltb x.0 (suc n) (omega (arith, ltb-true x.0 n l))) (omega arith)
      go false l true e = rw (lt-ltb x.0 (suc n) (omega (arith, eqb-true n x.0 e))) (omega arith)
      go false l false e = rw (le-ltb x.0 (suc n) (omega (arith, ltb-false x.0 n l, eqb-false n x.0 e))) (omega arith)

  before_more : (f : List A → ℕ) (xs : List (Change A)) (n : ℕ) → before_it f xs (suc n) ≡ before_it f xs n + at_all f xs n
  unfolding before_it at_all
  before_more f [] n = omega arith
  before_more f (x ∷ xs) n = omega (arith, one_more f x n, before_more f xs n)

  none-at : (f : List A → ℕ) (xs : List (Change A)) (n : ℕ) → (In n (places_of xs) → ⊥) → at_all f xs n ≡ 0
  unfolding at_all
  none-at f [] n h = refl
  none-at f (x ∷ xs) n h = rw (ne_eqb n x.0 (λ e. h (Memᴰ.head e)), none-at f xs n (λ m. h (Memᴰ.tail m))) (omega arith)

  size-at : (xs : List (Change A)) → Once xs → (n : ℕ) → size (becomes xs n) + at_all (λ ks. 1) xs n ≡ 1 + at_all length xs n
  unfolding becomes Option-elim at_all
  size-at [] nothing n = refl
  size-at (x ∷ xs) (and h o) n = go (eqb n x.0) refl (size-at xs o n)
    where
      go : (b : Bool) → eqb n x.0 ≡ b → size (becomes xs n) + at_all (λ ks. 1) xs n ≡ 1 + at_all length xs n
          → size (cond b (some x.1) (becomes xs n)) + (cond b 1 0 + at_all (λ ks. 1) xs n) ≡ 1 + (cond b (length x.1) 0 + at_all length xs n)
      go true e r =
          let a : In n (places_of xs) → ⊥ = λ m. h (rw (eqb-true n x.0 e) at m) in
          omega (arith, none-at (λ ks. 1) xs n a, none-at length xs n a)
      go false e r = omega arith

  none_first : (f : List A → ℕ) (xs : List (Change A)) → before_it f xs 0 ≡ 0
  unfolding before_it
  none_first f [] = refl
  none_first f (x ∷ xs) = rw (le-ltb x.0 0 (omega arith)) (omega (arith, none_first f xs))

  -- 01, Step: later places move
  pub moves-by : (xs : List (Change A)) → Once xs → (n : ℕ) → place_after (λ i. size (becomes xs i)) n + before_it (λ ks. 1) xs n ≡ n + before_it length xs n
  unfolding place_after
  moves-by xs o zero = omega (arith, none_first (λ ks. 1) xs, none_first length xs)
  moves-by xs o (suc n) = omega (arith, moves-by xs o n, size-at xs o n, before_more (λ ks. 1) xs n, before_more length xs n)

-- the places of an entry that the rules derive differ, so that what is said of its changes holds
module _ {Proc : Type 0} (branches : Proc → List (Branch Proc)) (s : State Proc) where
  pub acts-once : {k : Key} {w : ℕ} {n : Written} {ps : List Proc} → Moves branches s k w n ps → Once (becoming branches s k)
  acts-once (alone c v) = rw (one-becomes branches s c v) (and (λ h. Memᴰ.not-nil h) nothing)
  acts-once (together v) =
      rw (two-become branches s v)
      (and (λ h. ⊎_elim (λ e. (meeting branches s.pairs v).apart e) (λ g. Memᴰ.not-nil g) (Memᴰ.cases_cons h)) (and (λ h. Memᴰ.not-nil h) nothing))

  -- 01, Step: where a process stands once an entry has been taken
  pub moved_by : {k : Key} {w : ℕ} {n : Written} {ps : List Proc} → Moves branches s k w n ps → (i : ℕ)
      → moved branches s k i + before_it (λ ks. 1) (becoming branches s k) i ≡ i + before_it length (becoming branches s k) i
  unfolding moved
  moved_by {k} m i = moves-by (becoming branches s k) (acts-once m) i
