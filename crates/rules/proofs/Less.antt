-- `less` is a strict total order of lists of whole numbers: by induction on the lists, from the same of whole numbers by cases of signs.
use mathlib.Core.Path.{◌≡◌, refl, ap, ap₂, sym}
use mathlib.Core.Bool.{Bool, true, false, ◌&&◌, ◌||◌}
use mathlib.Core.List.{List, [], ◌∷◌}
use mathlib.Core.Logic.{◌⊎◌, inl, inr, ⊎_elim}
use native.Mathlib.Omega.{arith}
use borrow.Author.Tests.{ltb-true, ltb-false, lt-ltb, le-ltb}
use lib.IntN.{ℤ, pos, negsuc}
use Rattle.value.specs.Arithmetic.{is_less}
use Rattle.value.proofs.Kit.{true-not-false, false-not-true, same-eq, eq-same}
use Rattle.rules.specs.Order.{less}

-- ---- whole numbers
z-irreflexive : (x : ℤ) → is_less x x ≡ false
z-irreflexive (pos m) = le-ltb m m (omega arith)
z-irreflexive (negsuc m) = le-ltb m m (omega arith)

z-trans : (x y z : ℤ) → is_less x y ≡ true → is_less y z ≡ true → is_less x z ≡ true
z-trans (pos a) (pos b) (pos c) e f = lt-ltb a c (omega (arith, ltb-true a b e, ltb-true b c f))
z-trans (pos a) (pos b) (negsuc c) e f = f
z-trans (pos a) (negsuc b) z e f = false-not-true e
z-trans (negsuc a) (pos b) (pos c) e f = refl
z-trans (negsuc a) (pos b) (negsuc c) e f = false-not-true f
z-trans (negsuc a) (negsuc b) (pos c) e f = refl
z-trans (negsuc a) (negsuc b) (negsuc c) e f = lt-ltb c a (omega (arith, ltb-true b a e, ltb-true c b f))

z-equal : (x y : ℤ) → is_less x y ≡ false → is_less y x ≡ false → x ≡ y
z-equal (pos a) (pos b) e f = let p = ltb-false a b e in let q = ltb-false b a f in let r : a ≡ b = omega arith in ap pos r
z-equal (pos a) (negsuc b) e f = true-not-false f
z-equal (negsuc a) (pos b) e f = true-not-false e
z-equal (negsuc a) (negsuc b) e f = let p = ltb-false b a e in let q = ltb-false a b f in let r : a ≡ b = omega arith in ap negsuc r

-- ---- from the first numbers to the lists
pub less-first : (x y : ℤ) (xs ys : List ℤ) → is_less x y ≡ true → less (x ∷ xs) (y ∷ ys) ≡ true
unfolding less
less-first x y xs ys e = rw e

pub less-rest : (x : ℤ) (xs ys : List ℤ) → less xs ys ≡ true → less (x ∷ xs) (x ∷ ys) ≡ true
unfolding less
less-rest x xs ys e = rw (z-irreflexive x, eq-same x x refl, e)

decided : (a b c : Bool) → a || b && c ≡ true → (a ≡ true) ⊎ ((b ≡ true) × (c ≡ true))
decided true b c e = inl refl
decided false true c e = inr (refl, e)
decided false false c e = inr (e, false-not-true e)

less-cases : (x y : ℤ) (xs ys : List ℤ) → less (x ∷ xs) (y ∷ ys) ≡ true → (is_less x y ≡ true) ⊎ ((x ≡ y) × (less xs ys ≡ true))
unfolding less
less-cases x y xs ys e = ⊎_elim (λ a. inl a) (λ b. inr (same-eq x y b.0, b.1)) (decided _ _ _ e)

undecided : (a b c : Bool) → a || b && c ≡ false → (a ≡ false) × (b ≡ true → c ≡ false)
undecided true b c e = true-not-false e
undecided false true c e = (refl, λ h. e)
undecided false false c e = (refl, λ h. false-not-true h)

-- ---- lists
pub less-irreflexive : (xs : List ℤ) → less xs xs ≡ false
unfolding less
less-irreflexive [] = refl
less-irreflexive (x ∷ xs) = rw (z-irreflexive x, eq-same x x refl, less-irreflexive xs)

pub less-trans : (xs ys zs : List ℤ) → less xs ys ≡ true → less ys zs ≡ true → less xs zs ≡ true
unfolding less
less-trans [] [] zs e f = false-not-true e
less-trans [] (y ∷ ys) [] e f = f
less-trans [] (y ∷ ys) (z ∷ zs) e f = refl
less-trans (x ∷ xs) [] zs e f = false-not-true e
less-trans (x ∷ xs) (y ∷ ys) [] e f = f
less-trans (x ∷ xs) (y ∷ ys) (z ∷ zs) e f =
    ⊎_elim
    (λ a. ⊎_elim (λ b. less-first x z xs zs (z-trans x y z a b)) (λ b. less-first x z xs zs (rw b.0 at a)) (less-cases y z ys zs f))
    (λ a. ⊎_elim (λ b. less-first x z xs zs (rw a.0 b)) (λ b. rw (a.0, b.0) (less-rest z xs zs (less-trans xs ys zs a.1 b.1))) (less-cases y z ys zs f))
    (less-cases x y xs ys e)

pub less_equal : (xs ys : List ℤ) → less xs ys ≡ false → less ys xs ≡ false → xs ≡ ys
unfolding less
less_equal [] [] e f = refl
less_equal [] (y ∷ ys) e f = true-not-false e
less_equal (x ∷ xs) [] e f = true-not-false f
less_equal (x ∷ xs) (y ∷ ys) e f =
    let p = undecided _ _ _ e in
    let q = undecided _ _ _ f in
    let r = z-equal x y p.0 q.0 in
    ap₂ (λ (z : ℤ) (zs : List ℤ). z ∷ zs) r (less_equal xs ys (p.1 (eq-same x y r)) (q.1 (eq-same y x (sym r))))
