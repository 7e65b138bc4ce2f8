-- Members of the lists of Lists.antt, and of parts of lists. By induction on the lists; assumes nothing.
use mathlib.Core.Path.{◌≡◌, refl, sym, ap, subst, ◌∙◌}
use mathlib.Core.List.Memᴰ.{append_cases}
use mathlib.Core.List.Memᴰ.{append_left as left}
use mathlib.Core.List.Memᴰ.{append_right as right}
use mathlib.Core.List.Memᴰ.{cases_cons as cases}
use mathlib.Core.List.Memᴰ.{head}
use mathlib.Core.List.Memᴰ.{not-nil as nowhere}
use mathlib.Core.List.Memᴰ.{tail}
use mathlib.Core.List.{List, [], ◌∷◌, ◌++◌, Memᴰ as In}
use mathlib.Core.Bool.{Bool, true, false, not, ◌||◌}
use mathlib.Core.Option.{none, some}
use mathlib.Core.Logic.{◌⊎◌, inl, inr, ⊎_elim}
use Prim.Native.Nat.{ℕ, zero, suc, ◌≤◌, ◌<◌}
use native.Mathlib.Omega.{arith}
use lib.ListN.{length, drop, get_elem?}
use Rattle.model.specs.Lists.{each, when, any}

-- nothing is none
pub never : {A : Type 0} {B : Type 0} {x : A} → none ≡ some x → B
never e = absurd (let z : ◌≡◌ {A = ℕ} 0 1 = cc in omega arith)

pub not-both : {B : Type 0} {b : Bool} → b ≡ true → b ≡ false → B
not-both e f = absurd (let z : ◌≡◌ {A = ℕ} 0 1 = cc in omega arith)

pub false-not : (b : Bool) → b ≡ false → not b ≡ true
false-not true e = not-both refl e
false-not false e = refl

pub not_so : (b : Bool) → (b ≡ true → ⊥) → b ≡ false
not_so true h = absurd (h refl)
not_so false h = refl

-- ---- each

pub in-each : {A B : Type 0} {y : B} (f : A → List B) (xs : List A) → In y (each f xs) → (x : A) × In x xs × In y (f x)
unfolding each
in-each f [] i = absurd (nowhere i)
in-each {A} {B} {y} f (x ∷ xs) i = by (λ (j : In y (each f xs)). in-each f xs j) (append_cases (f x) i)
  where
    by : (In y (each f xs) → (z : A) × In z xs × In y (f z)) → In y (f x) ⊎ In y (each f xs) → (z : A) × In z (x ∷ xs) × In y (f z)
    by r (inl j) = (x, head refl, j)
    by r (inr j) = let s = r j in (s.0, tail s.1, s.2)

pub each_in : {A B : Type 0} {x : A} {y : B} (f : A → List B) (xs : List A) → In x xs → In y (f x) → In y (each f xs)
unfolding each
each_in f [] i j = absurd (nowhere i)
each_in {A} {B} {x} {y} f (z ∷ xs) i j = by (λ (k : In x xs). each_in f xs k j) (cases i)
  where
    by : (In x xs → In y (each f xs)) → (x ≡ z) ⊎ In x xs → In y (f z ++ each f xs)
    by r (inl e) = left (each f xs) (subst (λ (v : A). In y (f v)) e j)
    by r (inr k) = right (f z) (r k)

-- ---- one place where a test says so

pub in-when : {k : ℕ} (b : Bool) (j : ℕ) → In k (when b j) → (b ≡ true) × (k ≡ j)
unfolding when
in-when true j i = (refl, ⊎_elim (λ (e : _ ≡ j). e) (λ m. absurd (nowhere m)) (cases i))
in-when false j i = absurd (nowhere i)

pub when-in : (b : Bool) (k : ℕ) → b ≡ true → In k (when b k)
unfolding when
when-in true k e = head refl
when-in false k e = not-both e refl

-- ---- by number

pub got_in : {A : Type 0} {x : A} (xs : List A) (i : ℕ) → get_elem? xs i ≡ some x → In x xs
got_in [] i e = never e
got_in {A} {x} (y ∷ xs) zero e = let d : x ≡ y = cc in head d
got_in (y ∷ xs) (suc i) e = tail (got_in xs i e)

pub got-below : {A : Type 0} {x : A} (xs : List A) (i : ℕ) → get_elem? xs i ≡ some x → i < length xs
got-below [] i e = never e
got-below (y ∷ xs) zero e = omega arith
got-below (y ∷ xs) (suc i) e = let h = got-below xs i e in omega arith

pub got-some : {A : Type 0} (xs : List A) (i : ℕ) → i < length xs → (x : A) × (get_elem? xs i ≡ some x)
got-some [] i h = absurd (omega arith)
got-some (x ∷ xs) zero h = (x, refl)
got-some (x ∷ xs) (suc i) h = got-some xs i (omega arith)

pub in-got : {A : Type 0} {x : A} (xs : List A) → In x xs → (i : ℕ) × (get_elem? xs i ≡ some x)
in-got [] i = absurd (nowhere i)
in-got {A} {x} (y ∷ xs) i = by (λ (j : In x xs). in-got xs j) (cases i)
  where
    by : (In x xs → (i : ℕ) × (get_elem? xs i ≡ some x)) → (x ≡ y) ⊎ In x xs → (i : ℕ) × (get_elem? (y ∷ xs) i ≡ some x)
    by r (inl e) = (0, ap (λ (v : A). some v) (sym e))
    by r (inr j) = (suc (r j).0, (r j).1)

pub in-drop : {A : Type 0} {x : A} (n : ℕ) (xs : List A) → In x (drop n xs) → (i : ℕ) × (get_elem? xs i ≡ some x) × (n ≤ i)
in-drop zero xs i = let g = in-got xs i in (g.0, g.1, omega arith)
in-drop (suc n) [] i = absurd (nowhere i)
in-drop (suc n) (x ∷ xs) i = let g = in-drop n xs i in (suc g.0, g.1, omega arith)

pub drop-in : {A : Type 0} {x : A} (n : ℕ) (xs : List A) (i : ℕ) → get_elem? xs i ≡ some x → n ≤ i → In x (drop n xs)
drop-in zero xs i e h = got_in xs i e
drop-in (suc n) [] i e h = never e
drop-in (suc n) (x ∷ xs) zero e h = absurd (omega arith)
drop-in (suc n) (x ∷ xs) (suc i) e h = drop-in n xs i e (omega arith)

-- ---- any

pub any-in : {A : Type 0} (p : A → Bool) (xs : List A) → any p xs ≡ true → (x : A) × In x xs × (p x ≡ true)
unfolding any
any-in p [] e = not-both e refl
any-in {A} p (x ∷ xs) e = by (λ (h : any p xs ≡ true). any-in p xs h) (p x) refl e
  where
    by : (any p xs ≡ true → (z : A) × In z xs × (p z ≡ true)) → (b : Bool) → p x ≡ b → (b || any p xs) ≡ true → (z : A) × In z (x ∷ xs) × (p z ≡ true)
    by r true q e = (x, head refl, q)
    by r false q e = let s = r e in (s.0, tail s.1, s.2)

pub in-any : {A : Type 0} {x : A} (p : A → Bool) (xs : List A) → In x xs → p x ≡ true → any p xs ≡ true
unfolding any
in-any p [] i e = absurd (nowhere i)
in-any {A} {x} p (y ∷ xs) i e = by (λ (j : In x xs). in-any p xs j e) (p y) refl (cases i)
  where
    by : (In x xs → any p xs ≡ true) → (b : Bool) → p y ≡ b → (x ≡ y) ⊎ In x xs → (b || any p xs) ≡ true
    by r true q c = refl
    by r false q (inl d) = not-both (sym (ap p d) ∙ e) q
    by r false q (inr j) = r j
