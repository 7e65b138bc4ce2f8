-- Sums below a number, powers, and lists counted: by induction on the number.
use mathlib.Core.Path.{◌≡◌, refl, sym, ap, ◌∙◌}
use mathlib.Core.Bool.{Bool, true, false, cond}
use mathlib.Core.List.{List, [], ◌∷◌}
use Prim.Native.Nat.{ℕ, zero, suc, ◌+◌, ◌*◌, ◌^◌, ◌≤◌, ◌<◌}
use native.Mathlib.Nat.{pow-zero, pow-suc, zero-mul, suc-mul, one-mul, mul-zero, mul_comm, mul_assoc, mul-add}
use native.Mathlib.Omega.{arith}
use borrow.Author.Tests.{ltb-true, ltb-false, lt-ltb, le-ltb, eqb-true, eqb-false, ne_eqb}
use lib.Dec.{eqb, ltb}
use Rattle.waits.specs.Law.{sum_below, how_many}

-- ---- sums
pub same-sums : (n : ℕ) (f g : ℕ → ℕ) → ((i : ℕ) → i < n → f i ≡ g i) → sum_below n f ≡ sum_below n g
unfolding sum_below
same-sums zero f g h = refl
same-sums (suc n) f g h = rw (same-sums n f g (λ i l. h i (omega arith)), h n (omega arith)) refl

pub equal-terms : (n x : ℕ) → sum_below n (λ i. x) ≡ n * x
unfolding sum_below
equal-terms zero x = sym (zero-mul x)
equal-terms (suc n) x = rw (equal-terms n x) (sym (suc-mul n x))

pub no-terms : (n : ℕ) (f : ℕ → ℕ) → ((i : ℕ) → i < n → f i ≡ 0) → sum_below n f ≡ 0
no-terms n f h = same-sums n f (λ i. 0) h ∙ equal-terms n 0 ∙ mul-zero n

pub scaled : (n x : ℕ) (f : ℕ → ℕ) → sum_below n (λ i. x * f i) ≡ x * sum_below n f
unfolding sum_below
scaled zero x f = sym (mul-zero x)
scaled (suc n) x f = rw (scaled n x f) (sym (mul-add x (sum_below n f) (f n)))

-- one term alone isn't 0
pub one-term : (n u x : ℕ) → u < n → sum_below n (λ i. cond (eqb i u) x 0) ≡ x
unfolding sum_below
one-term zero u x l = absurd (omega arith)
one-term (suc n) u x l = go (eqb n u) refl (λ p. one-term n u x p)
  where
    others : eqb n u ≡ true → sum_below n (λ i. cond (eqb i u) x 0) ≡ 0
    others e = let q = eqb-true n u e in no-terms n (λ i. cond (eqb i u) x 0) (λ i h. let p : i ≡ u → ⊥ = λ r. omega arith in rw (ne_eqb i u p) refl)

    go : (b : Bool) → eqb n u ≡ b → (u < n → sum_below n (λ i. cond (eqb i u) x 0) ≡ x) → sum_below n (λ i. cond (eqb i u) x 0) + cond (eqb n u) x 0 ≡ x
    go true e f = rw e (omega (arith, others e))
    go false e f = let q = eqb-false n u e in let p : u < n = omega (arith, q) in rw e (omega (arith, f p))

-- terms that change at l: one more before the change
pub cut_later : (n l : ℕ) (h : ℕ → ℕ) (x : ℕ) → l < n → sum_below n (λ i. cond (ltb i (suc l)) (h i) x) + x ≡ sum_below n (λ i. cond (ltb i l) (h i) x) + h l
unfolding sum_below
cut_later zero l h x p = absurd (omega arith)
cut_later (suc n) l h x p = go (ltb l n) refl (λ q. cut_later n l h x q)
  where
    at-end : l ≡ n → sum_below n (λ i. cond (ltb i (suc l)) (h i) x) + cond (ltb n (suc l)) (h n) x + x ≡ sum_below n (λ i. cond (ltb i l) (h i) x) + cond (ltb n l) (h n) x + h l
    at-end q =
        let a : n < suc l = omega arith in
        let b : l ≤ n = omega arith in
        let s = same-sums n (λ i. cond (ltb i (suc l)) (h i) x) (λ i. cond (ltb i l) (h i) x)
        (λ i r. let c : i < suc l = omega arith in let d : i < l = omega arith in rw (lt-ltb i (suc l) c, lt-ltb i l d) refl) in
        rw (lt-ltb n (suc l) a, le-ltb n l b) (omega (arith, s, ap h q))

    go : (b : Bool) → ltb l n ≡ b
        → (l < n → sum_below n (λ i. cond (ltb i (suc l)) (h i) x) + x ≡ sum_below n (λ i. cond (ltb i l) (h i) x) + h l)
        → sum_below n (λ i. cond (ltb i (suc l)) (h i) x) + cond (ltb n (suc l)) (h n) x + x ≡ sum_below n (λ i. cond (ltb i l) (h i) x) + cond (ltb n l) (h n) x + h l
    go true e f =
        let q = ltb-true l n e in
        let a : suc l ≤ n = omega arith in
        let b : l ≤ n = omega arith in
        rw (le-ltb n (suc l) a, le-ltb n l b) (omega (arith, f q))
    go false e f = let q = ltb-false l n e in at-end (omega arith)

pub none_before : (n : ℕ) (h : ℕ → ℕ) (x : ℕ) → sum_below n (λ i. cond (ltb i 0) (h i) x) ≡ n * x
none_before n h x = same-sums n (λ i. cond (ltb i 0) (h i) x) (λ i. x) (λ i l. rw (le-ltb i 0 (omega arith)) refl) ∙ equal-terms n x

-- ---- powers
pub power-sum : (n a b : ℕ) → n ^ (a + b) ≡ n ^ a * n ^ b
power-sum n zero b = let q : 0 + b ≡ b = omega arith in rw (q, pow-zero) (sym (one-mul (n ^ b)))
power-sum n (suc a) b =
    let q : suc a + b ≡ suc (a + b) = omega arith in
    rw (q, pow-suc n (a + b), pow-suc n a, power-sum n a b) (mul_assoc (n ^ a) (n ^ b) n ∙ ap (λ (x : ℕ). n ^ a * x) (mul_comm (n ^ b) n) ∙ sym (mul_assoc (n ^ a) n (n ^ b)))

-- ---- lists counted
pub same-counts : (v n : ℕ) (f g : List ℕ → Bool) → ((ds : List ℕ) → f ds ≡ g ds) → how_many v n f ≡ how_many v n g
unfolding how_many
same-counts v zero f g h = rw (h []) refl
same-counts v (suc n) f g h = same-sums v (λ d. how_many v n (λ ds. f (d ∷ ds))) (λ d. how_many v n (λ ds. g (d ∷ ds))) (λ d l. same-counts v n (λ ds. f (d ∷ ds)) (λ ds. g (d ∷ ds)) (λ ds. h (d ∷ ds)))

-- a test that doesn't look counts all, or none
pub all-or-none : (v n : ℕ) (b : Bool) → how_many v n (λ ds. b) ≡ v ^ n * cond b 1 0
unfolding how_many
all-or-none v zero b = rw pow-zero (sym (one-mul (cond b 1 0)))
all-or-none v (suc n) b =
    equal-terms v (how_many v n (λ ds. b)) ∙ rw (all-or-none v n b, pow-suc v n) (sym (mul_assoc v (v ^ n) (cond b 1 0)) ∙ ap (λ (x : ℕ). x * cond b 1 0) (mul_comm v (v ^ n)))
