-- Even words give even draws: counted in rows of a total's length, each row has every draw once. By induction on the number of rows.
use mathlib.Core.Path.{◌≡◌, refl, sym, ap, ◌∙◌}
use mathlib.Core.Bool.{Bool, true, false, cond, not, ◌&&◌}
use Prim.Native.Nat.{ℕ, zero, suc, ◌+◌, ◌*◌, ◌/◌, ◌%◌, ◌≤◌, ◌<◌}
use native.Mathlib.Nat.{mod-lt, mod-eq_of_lt, mul-add-mod_self_left, zero-mul, suc-mul, mul-zero, mul-suc, mul-one, le-div_iff_mul-le, one-mul}
use native.Mathlib.Omega.{arith}
use borrow.Author.Tests.{lt-ltb, le-ltb, eqb-true, eqb-false, ne_eqb}
use lib.Dec.{eqb}
use Rattle.words.specs.Words.{usable, is_used}
use Rattle.words.specs.Exact.{count_words, gives_one, is_turned, Exact}
use Rattle.words.proofs.Drawing.{used-and-rest}

-- ---- counts
pub same_count : (p q : ℕ → Bool) (n : ℕ) → ((w : ℕ) → w < n → p w ≡ q w) → count_words p n ≡ count_words q n
unfolding count_words
same_count p q zero h = refl
same_count p q (suc n) h = rw (same_count p q n (λ w l. h w (omega arith)), h n (omega arith)) refl

-- words up to a, then b more
split : (p : ℕ → Bool) (a b : ℕ) → count_words p (a + b) ≡ count_words p a + count_words (λ w. p (a + w)) b
unfolding count_words
split p a zero = let e : a + 0 ≡ a = omega arith in rw e (omega arith)
split p a (suc b) = let e : a + suc b ≡ suc (a + b) = omega arith in rw (e, split p a b) (omega arith)

none-counted : (n : ℕ) → count_words (λ w. false) n ≡ 0
unfolding count_words
none-counted zero = refl
none-counted (suc n) = omega (arith, none-counted n)

all-counted : (n : ℕ) → count_words (λ w. true) n ≡ n
unfolding count_words
all-counted zero = refl
all-counted (suc n) = omega (arith, all-counted n)

-- a draw by itself
one-counted : (d n : ℕ) → d < n → count_words (eqb d) n ≡ 1
unfolding count_words
one-counted d zero l = absurd (omega arith)
one-counted d (suc n) l = go (eqb d n) refl (λ k. one-counted d n k)
  where
    none : d ≡ n → count_words (eqb d) n ≡ 0
    none e = same_count (eqb d) (λ w. false) n (λ w k. ne_eqb d w (λ f. omega arith)) ∙ none-counted n

    go : (b : Bool) → eqb d n ≡ b → (d < n → count_words (eqb d) n ≡ 1) → count_words (eqb d) n + cond (eqb d n) 1 0 ≡ 1
    go true e h = rw e (omega (arith, none (eqb-true d n e)))
    go false e h = let f = eqb-false d n e in let k : d < n = omega (arith, f) in rw e (omega (arith, h k))

-- k rows of t words, each of which has every draw once
module _ (p : ℕ → Bool) (t : ℕ) where
  row : (k : ℕ) → count_words (λ w. p ((t * k + w) % t)) t ≡ count_words p t
  row k = same_count (λ w. p ((t * k + w) % t)) p t (λ w l. ap p (mul-add-mod_self_left t k w ∙ mod-eq_of_lt l))

  rows : (k : ℕ) → count_words (λ w. p (w % t)) (t * k) ≡ k * count_words p t
  unfolding count_words
  rows zero = rw (mul-zero t) (sym (zero-mul (count_words p t)))
  rows (suc k) = rw (mul-suc t k) (split (λ w. p (w % t)) (t * k) t ∙ rw (rows k, row k) (sym (suc-mul k (count_words p t))))

-- ---- of all words
module _ (v t : ℕ) (above : 0 < t) (fits : t ≤ v) where
  used : (w : ℕ) → w < usable v t → is_used v t w ≡ true
  unfolding is_used
  used w l = lt-ltb w (usable v t) l

  turned : (w : ℕ) → is_used v t (usable v t + w) ≡ false
  unfolding is_used
  turned w = le-ltb (usable v t + w) (usable v t) (omega arith)

  by-test : (p : ℕ → Bool) → count_words (gives_one v t p) v ≡ v / t * count_words p t
  unfolding gives_one usable
  by-test p =
      ap (count_words (gives_one v t p)) (sym (used-and-rest v t))
      ∙ split (gives_one v t p) (usable v t) (v % t)
      ∙ rw (same_count (gives_one v t p) (λ w. p (w % t)) (usable v t) (λ w l. ap (λ (b : Bool). b && p (w % t)) (used w l)), same_count (λ w. gives_one v t p (usable v t + w)) (λ w. false) (v % t) (λ w l. ap (λ (b : Bool). b && p ((usable v t + w) % t)) (turned w)), none-counted (v % t), rows p t (v / t)) (omega arith)

  away : count_words (is_turned v t) v ≡ v % t
  unfolding is_turned
  away =
      ap (count_words (is_turned v t)) (sym (used-and-rest v t))
      ∙ split (is_turned v t) (usable v t) (v % t)
      ∙ rw (same_count (is_turned v t) (λ w. false) (usable v t) (λ w l. ap not (used w l)), same_count (λ w. is_turned v t (usable v t + w)) (λ w. true) (v % t) (λ w l. ap not (turned w)), none-counted (usable v t), all-counted (v % t)) (omega arith)

  -- R.2
  pub exact : Exact v t (v / t)
  exact = record {
    some_words = (le-div_iff_mul-le above).1 (rw (one-mul t) fits);
    draw = λ d l. by-test (eqb d) ∙ rw (one-counted d t l) (mul-one (v / t));
    draws = by-test;
    turned = rw away (mod-lt v above);
  }
