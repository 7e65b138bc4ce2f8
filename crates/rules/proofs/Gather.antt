-- What stands in a gathered list and where it comes from, and when such a list ascends. By induction on the list that is gathered from.
use Prim.Native.Nat.{ℕ, zero, suc, ◌<◌}
use mathlib.Core.Path.{◌≡◌, refl}
use mathlib.Core.Bool.{Bool, true, false}
use mathlib.Core.List.Memᴰ
use mathlib.Core.List.{List, [], ◌∷◌, ◌++◌, Memᴰ as In}
use mathlib.Core.Logic.{⊎_elim}
use native.Mathlib.Omega.{arith}
use Rattle.rules.specs.Order.{Ascending}
use Rattle.rules.specs.Rules.{Nth, first, later}
use Rattle.rules.specs.Listing.{gather, when, unless}

-- from a member to its number and source
pub gathered : {A B : Type 0} (f : ℕ → A → List B) (xs : List A) {y : B} → In y (gather f xs) → (n : ℕ) × (x : A) × Nth xs n x × In y (f n x)
unfolding gather
gathered f [] i = absurd (Memᴰ.not-nil i)
gathered f (x ∷ xs) i =
    ⊎_elim (λ h. (0, x, first, h)) (λ h. let r = gathered (λ n. f (suc n)) xs h in (suc r.0, r.1, later r.2, r.3))
    (Memᴰ.append_cases (f zero x) i)

-- and back
pub gather-in : {A B : Type 0} (f : ℕ → A → List B) {xs : List A} {n : ℕ} {x : A} {y : B} → Nth xs n x → In y (f n x) → In y (gather f xs)
unfolding gather
gather-in f (first {x} {xs}) i = Memᴰ.append_left (gather (λ n. f (suc n)) xs) i
gather-in f (later {x} {xs = xs} h) i = Memᴰ.append_right (f zero x) (gather-in (λ n. f (suc n)) h i)

-- ---- tests
pub when-out : {B : Type 0} (b : Bool) {xs : List B} {y : B} → In y (when b xs) → (b ≡ true) × In y xs
unfolding when
when-out true i = (refl, i)
when-out false i = absurd (Memᴰ.not-nil i)

pub when-in : {B : Type 0} (b : Bool) {xs : List B} {y : B} → b ≡ true → In y xs → In y (when b xs)
unfolding when
when-in b e i = rw e i

pub unless-out : {B : Type 0} (b : Bool) {xs : List B} {y : B} → In y (unless b xs) → (b ≡ false) × In y xs
unfolding unless
unless-out true i = absurd (Memᴰ.not-nil i)
unless-out false i = (refl, i)

pub unless-in : {B : Type 0} (b : Bool) {xs : List B} {y : B} → b ≡ false → In y xs → In y (unless b xs)
unfolding unless
unless-in b e i = rw e i

-- ---- order
pub none-ascends : {B : Type 0} (R : B → B → Type 0) → Ascending R []
unfolding Ascending
none-ascends R = tt

pub one-ascends : {B : Type 0} (R : B → B → Type 0) (x : B) → Ascending R (x ∷ [])
unfolding Ascending
one-ascends R x = (λ y i. absurd (Memᴰ.not-nil i), tt)

pub when-ascends : {B : Type 0} (R : B → B → Type 0) (b : Bool) (xs : List B) → Ascending R xs → Ascending R (when b xs)
unfolding when
when-ascends R true xs a = a
when-ascends R false xs a = none-ascends R

pub unless-ascends : {B : Type 0} (R : B → B → Type 0) (b : Bool) (xs : List B) → Ascending R xs → Ascending R (unless b xs)
unfolding unless
unless-ascends R true xs a = none-ascends R
unless-ascends R false xs a = a

-- two lists in order
joined : {A : Type 0} (R : A → A → Type 0) (xs ys : List A)
    → Ascending R xs → Ascending R ys → ((x y : A) → In x xs → In y ys → R x y) → Ascending R (xs ++ ys)
unfolding Ascending
joined R [] ys a b h = b
joined R (x ∷ xs) ys a b h = (
  λ y i. ⊎_elim (a.0 y) (h x y (In.head refl)) (Memᴰ.append_cases xs i),
  joined R xs ys a.1 b (λ u v i. h u v (In.tail i)),
)

-- what f gives ascends at each place and from place to place
pub ascends : {A B : Type 0} (R : B → B → Type 0) (f : ℕ → A → List B) (xs : List A)
    → ((n : ℕ) (x : A) → Ascending R (f n x))
    → ((n m : ℕ) (x y : A) (u v : B) → n < m → In u (f n x) → In v (f m y) → R u v)
    → Ascending R (gather f xs)
unfolding gather Ascending
ascends R f [] a h = tt
ascends {A} {B} R f (x ∷ xs) a h =
    joined R (f zero x) (gather (λ n. f (suc n)) xs) (a zero x) (ascends R (λ n. f (suc n)) xs (λ n. a (suc n)) (λ n m x' y' u v l. h (suc n) (suc m) x' y' u v (omega arith)))
    (λ u v i k. let r = gathered (λ n. f (suc n)) xs k in h zero (suc r.0) x r.1 u v (omega arith) i r.3)
