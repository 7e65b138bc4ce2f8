-- A gathered list as one list for each number, appended in order. By induction on the list or the count.
use Prim.Native.Nat.{ℕ, zero, suc, ◌+◌, ◌-◌, ◌≤◌, ◌<◌}
use mathlib.Core.Path.{◌≡◌, refl, sym, ap, ◌∙◌}
use mathlib.Core.List.{List, [], ◌∷◌, ◌++◌, append_assoc}
use mathlib.Core.Option.{some, Option-elim}
use native.Mathlib.Omega.{arith}
use native.Mathlib.Numerals.{add-one}
use lib.ListN.{length, get_elem?}
use Rattle.rules.specs.Listing.{gather}
use Rattle.offers.specs.Slots.{at_number, up_to}

pub append-nil : {A : Type 0} (xs : List A) → xs ++ [] ≡ xs
append-nil [] = refl
append-nil (x ∷ xs) = ap (λ t. x ∷ t) (append-nil xs)

-- ---- counting up
pub up_none : {B : Type 0} (g : ℕ → List B) → up_to g 0 ≡ []
unfolding up_to
up_none g = refl

pub up_one : {B : Type 0} (g : ℕ → List B) (n : ℕ) → up_to g (n + 1) ≡ up_to g n ++ g n
unfolding up_to
up_one g n = ap (up_to g) (add-one n)

up-front : {B : Type 0} (g : ℕ → List B) (n : ℕ) → up_to g (suc n) ≡ g zero ++ up_to (λ i. g (suc i)) n
unfolding up_to
up-front g zero = sym (append-nil (g zero))
up-front g (suc n) = ap (λ t. t ++ g (suc n)) (up-front g n) ∙ append_assoc (g zero) (up_to (λ i. g (suc i)) n) (g (suc n))

skip : {B : Type 0} (g : ℕ → List B) (a d : ℕ) → ((q : ℕ) → a ≤ q → q < a + d → g q ≡ []) → up_to g (a + d) ≡ up_to g a
unfolding up_to
skip g a zero h = let e : a + 0 ≡ a = omega arith in ap (up_to g) e
skip g a (suc d) h =
    let e : a + suc d ≡ suc (a + d) = omega arith in
    ap (up_to g) e ∙ ap (λ t. up_to g (a + d) ++ t) (h (a + d) (omega arith) (omega arith)) ∙ append-nil (up_to g (a + d)) ∙ skip g a d (λ q l m. h q l (omega arith))

-- numbers from a to b that give nothing
pub up-skip : {B : Type 0} (g : ℕ → List B) (a b : ℕ) → a ≤ b → ((q : ℕ) → a ≤ q → q < b → g q ≡ []) → up_to g b ≡ up_to g a
up-skip g a b l h = let e : b ≡ a + (b - a) = omega arith in ap (up_to g) e ∙ skip g a (b - a) (λ q m n. h q m (omega arith))

-- ---- gathered lists
pub at_some : {A B : Type 0} (f : ℕ → A → List B) (xs : List A) (k : ℕ) {x : A} → get_elem? xs k ≡ some x → at_number f xs k ≡ f k x
unfolding at_number Option-elim
at_some f xs k e = rw e

pub gather-up : {A B : Type 0} (f : ℕ → A → List B) (xs : List A) → gather f xs ≡ up_to (at_number f xs) (length xs)
unfolding gather at_number Option-elim
gather-up f [] = unfold up_to in refl
gather-up {A} {B} f (x ∷ xs) =
    ap (λ t. f zero x ++ t) (gather-up (λ n. f (suc n)) xs) ∙ sym (up-front (λ k. Option-elim (get_elem? (x ∷ xs) k) [] (f k)) (length xs))

pub gather-same : {A B : Type 0} (f g : ℕ → A → List B) (xs : List A) → ((n : ℕ) (x : A) → f n x ≡ g n x) → gather f xs ≡ gather g xs
unfolding gather
gather-same f g [] h = refl
gather-same f g (x ∷ xs) h = ap (λ t. t ++ gather (λ n. f (suc n)) xs) (h zero x) ∙ ap (λ t. g zero x ++ t) (gather-same (λ n. f (suc n)) (λ n. g (suc n)) xs (λ n. h (suc n)))

pub gather-empty : {A B : Type 0} (f : ℕ → A → List B) (xs : List A) → ((n : ℕ) (x : A) → f n x ≡ []) → gather f xs ≡ []
unfolding gather
gather-empty f [] h = refl
gather-empty f (x ∷ xs) h = rw (h zero x) (gather-empty (λ n. f (suc n)) xs (λ n. h (suc n)))

-- where the number is not asked
pub each_append : {A B : Type 0} (f : A → List B) (xs ys : List A) → gather (λ n. f) (xs ++ ys) ≡ gather (λ n. f) xs ++ gather (λ n. f) ys
unfolding gather
each_append f [] ys = refl
each_append f (x ∷ xs) ys = ap (λ t. f x ++ t) (each_append f xs ys) ∙ sym (append_assoc (f x) (gather (λ n. f) xs) (gather (λ n. f) ys))

pub each-gather : {A B C : Type 0} (f : B → List C) (g : ℕ → A → List B) (xs : List A) → gather (λ n. f) (gather g xs) ≡ gather (λ n x. gather (λ k. f) (g n x)) xs
unfolding gather
each-gather f g [] = refl
each-gather f g (x ∷ xs) =
    each_append f (g zero x) (gather (λ n. g (suc n)) xs) ∙ ap (λ t. gather (λ n. f) (g zero x) ++ t) (each-gather f (λ n. g (suc n)) xs)
