-- The sort of a byte by the range that it stands in: one test of each byte of the range, which is computed.
use mathlib.Core.Path.{◌≡◌, refl, sym, subst}
use mathlib.Core.List.{List, [], ◌∷◌}
use mathlib.Core.Bool.{Bool, true, false, ◌&&◌, ◌||◌}
use Prim.Native.Nat.{ℕ, zero, suc, ◌+◌, ◌≤◌, ◌<◌}
use native.Mathlib.Omega.{arith}
use lib.Dec.{T, eqb, eqb→eq}
use borrow.Author.Tests.{eqb-true, eqb-false, ne_eqb}
use Rattle.token.specs.Bytes.{sort_of}
use Rattle.token.proofs.Table.{both_left, both_right}

-- b is one of the keys
abbrev pub among : List ℕ → ℕ → Bool
among [] b = false
among (k ∷ ks) b = eqb b k || among ks b

-- b is none of the keys
abbrev pub Apart : List ℕ → ℕ → Type 0
Apart [] b = Unit {0}
Apart (k ∷ ks) b = (b ≡ k → ⊥) × Apart ks b

-- each of the n bytes from lo on has the sort s, or is one of the keys
abbrev pub sorted : ℕ → List ℕ → ℕ → ℕ → Bool
sorted s ks lo zero = true
sorted s ks lo (suc n) = (eqb (sort_of lo) s || among ks lo) && sorted s ks (suc lo) n

not-among : (ks : List ℕ) (b : ℕ) → Apart ks b → among ks b ≡ false
not-among [] b h = refl
not-among (k ∷ ks) b h = simp (ne_eqb b k h.0, not-among ks b h.1)

first : (x y : Bool) → T (x || y) → y ≡ false → T x
first true y t e = tt
first false y t e = subst T e t

here : (s : ℕ) (ks : List ℕ) (b : ℕ) → T (eqb (sort_of b) s || among ks b) → Apart ks b → s ≡ sort_of b
here s ks b t h = sym (eqb→eq (sort_of b) s (first (eqb (sort_of b) s) (among ks b) t (not-among ks b h)))

pub by-range : (s : ℕ) (ks : List ℕ) (lo n b : ℕ) → T (sorted s ks lo n) → lo ≤ b → b < lo + n → Apart ks b → s ≡ sort_of b
by-range s ks lo zero b t l h a = absurd (omega arith)
by-range s ks lo (suc n) b t l h a =
    let more = both_right (eqb (sort_of lo) s || among ks lo) (sorted s ks (suc lo) n) t in
    go (eqb lo b) refl (λ q. by-range s ks (suc lo) n b more (omega (arith, q)) (omega arith) a)
  where
    go : (x : Bool) → eqb lo b ≡ x → ((lo ≡ b → ⊥) → s ≡ sort_of b) → s ≡ sort_of b
    go true q f =
        let one = both_left (eqb (sort_of lo) s || among ks lo) (sorted s ks (suc lo) n) t in
        here s ks b (subst (λ (k : ℕ). T (eqb (sort_of k) s || among ks k)) (eqb-true lo b q) one) a
    go false q f = f (eqb-false lo b q)
