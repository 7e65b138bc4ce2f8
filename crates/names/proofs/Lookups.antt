-- Look-ups, one name on: what each turn of a loop over a list of names needs. From the definitions alone.
use mathlib.Core.Path.{◌≡◌, refl, sym, ap, ◌∙◌}
use mathlib.Core.List.{List}
use mathlib.Core.Bool.{Bool, true, false, cond, ◌&&◌}
use mathlib.Core.Option.{some}
use Prim.Native.Nat.{ℕ, zero, suc, ◌+◌, ◌-◌, ◌≤◌, ◌<◌}
use native.Mathlib.Numerals.{add-one}
use native.Mathlib.Omega.{arith}
use lib.Dec.{eqb}
use lib.ListN.{length, get_or, drop, drop_of_length-le}
use lib.Seq.{drop-cons}
use Rattle.std.specs.Prelude.{None, Some, is_some, MatchOption}
use Rattle.std.specs.List.{AllWithin, HoldsAt}
use Rattle.token.specs.Questions.{Found}
use Rattle.token.specs.Token.{same_bytes}
use Rattle.model.specs.Words.{same}
use Rattle.model.specs.Given.{place_in}
use Rattle.names.specs.Lists.{packed, found_of, is_found, name_at, names_down}

-- what holds at first and goes on past each place without a hit holds at the first hit, and at the end
pub reached : (C No : ℕ → Type 0) → C 0 → ((j : ℕ) → No j → C j → C (j + 1)) → (i : ℕ) → ((j : ℕ) → j < i → No j) → C i
reached C No first on zero none = first
reached C No first on (suc i) none = rw (← add-one i) (on i (none i (omega arith)) (reached C No first on i (λ j l. none j (omega arith))))

pub found-some : (f : Found) → is_found f ≡ is_some f
unfolding is_found
found-some None = refl
found-some (Some i) = refl

pub there : (f : Found) → is_some f ≡ true → (i : ℕ) × (f ≡ Some i)
there None e = cc
there (Some i) e = (i, refl)

pub absent : (f : Found) → is_some f ≡ false → f ≡ None
absent None e = refl
absent (Some i) e = cc

module _ (w : ℕ → List ℕ) (k : ℕ) (xs : List ℕ) where
  -- the answer is that of the names from i on
  abbrev pub Onward : ℕ → Type 0
  Onward i = place_in w k 0 xs ≡ place_in w k i (drop i xs)

  module _ (i x : ℕ) (l : i < length xs) (e : get_or xs i 0 ≡ x) (b : Bool) (q : b ≡ same w k x) where
    step : place_in w k i (drop i xs) ≡ cond b (some i) (place_in w k (suc i) (drop (suc i) xs))
    unfolding place_in
    step = ap (place_in w k i) (drop-cons xs i 0 l) ∙ rw (e, ← q)

    pub onward : b ≡ false → Onward i → Onward (i + 1)
    onward f h = h ∙ step ∙ rw (f, add-one i)

    pub place_here : b ≡ true → Onward i → Some i ≡ found_of (place_in w k 0 xs)
    unfolding found_of
    place_here f h = rw (h, step, f)

  pub place_none : (i : ℕ) → length xs ≤ i → Onward i → None ≡ found_of (place_in w k 0 xs)
  unfolding place_in found_of
  place_none i l h = sym (ap found_of (h ∙ ap (place_in w k i) (drop_of_length-le xs {i = i} l)))

  -- what a search over the names finds
  abbrev pub Same : Bool → ℕ → Type 0
  Same b x = same w k x ≡ b

  abbrev Passed : ℕ → Type 0
  Passed j = (j < length xs) × Same false (get_or xs j 0)

  passed : (i : ℕ) → ((j : ℕ) → j < i → Passed j) → Onward i
  passed = reached Onward Passed refl (λ j p h. onward j (get_or xs j 0) p.0 refl _ refl p.1 h)

  pub place_found : (r : Found) → MatchOption r ((j : ℕ) → j < length xs → Same false (get_or xs j 0)) (λ i. (i < length xs) × Same true (get_or xs i 0) × ((j : ℕ) → j < i → Same false (get_or xs j 0))) → r ≡ found_of (place_in w k 0 xs)
  place_found None h = place_none (length xs) (omega arith) (passed (length xs) (λ j l. (l, h j l)))
  place_found (Some i) h = place_here i (get_or xs i 0) h.0 refl _ refl h.1 (passed i (λ j l. (omega (arith, h.0), h.2 j l)))

  -- the same of a search by position
  pub place_positioned : (r : Found) → MatchOption r (AllWithin (Same false) xs 0 (length xs)) (λ i. (i < length xs) × HoldsAt (Same true) xs i × AllWithin (Same false) xs 0 i) → r ≡ found_of (place_in w k 0 xs)
  place_positioned None h = place_found None (λ j l. h j 0 (omega arith) l)
  place_positioned (Some i) h = place_found (Some i) (h.0, h.1 0, λ j l. h.2 j 0 (omega arith) l)

-- ---- two names are the same where both of their numbers are
and-true : (b : Bool) → (b && true) ≡ b
and-true true = refl
and-true false = refl

pub same-packed : (low high : List ℕ) (i j : ℕ) → same (packed low high) i j ≡ (eqb (get_or low i 0) (get_or low j 0) && eqb (get_or high i 0) (get_or high j 0))
unfolding same packed same_bytes
same-packed low high i j = ap (λ (b : Bool). eqb (get_or low i 0) (get_or low j 0) && b) (and-true (eqb (get_or high i 0) (get_or high j 0)))

-- ---- names in nodes
pub down-length : (t : List ℕ) (k n : ℕ) → length (names_down t k n) ≡ n
unfolding names_down
down-length t k zero = refl
down-length t k (suc n) = ap suc (down-length t (k - 1) n)

pub down-at : (t : List ℕ) (k n j : ℕ) → j < n → get_or (names_down t k n) j 0 ≡ name_at t (k - j)
unfolding names_down
down-at t k zero j l = absurd (omega arith)
down-at t k (suc n) zero l = ap (name_at t) (omega arith)
down-at t k (suc n) (suc j) l =
    let e : k - 1 - j ≡ k - suc j = omega arith in
    down-at t (k - 1) n j (omega arith) ∙ ap (name_at t) e

-- a search over the places of a list
module _ (w : ℕ → List ℕ) (k : ℕ) (t : List ℕ) (first n : ℕ) where
  abbrev pub SameAt : Bool → ℕ → Type 0
  SameAt b j = same w k (name_at t (first - j)) ≡ b

  at-place : (b : Bool) (j : ℕ) → j < n → SameAt b j → Same w k (names_down t first n) b (get_or (names_down t first n) j 0)
  at-place b j l h = rw (down-at t first n j l) h

  pub place_ranged : (r : Found) → MatchOption r ((j : ℕ) → 0 ≤ j → j < n → SameAt false j) (λ i. (0 ≤ i) × (i < n) × SameAt true i × ((j : ℕ) → 0 ≤ j → j < i → SameAt false j)) → r ≡ found_of (place_in w k 0 (names_down t first n))
  place_ranged None h = place_found w k (names_down t first n) None (λ j l. let m : j < n = omega (arith, down-length t first n) in at-place false j m (h j (omega arith) m))
  place_ranged (Some i) h = place_found w k (names_down t first n) (Some i) (omega (arith, h.1, down-length t first n), at-place true i h.1 h.2, λ j l. let m : j < n = omega (arith, h.1) in at-place false j m (h.3 j (omega arith) l))
