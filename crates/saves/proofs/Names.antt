-- A name as two numbers and back: from the letters to the numbers, and from numbers that pass their test to the letters. By induction on the letters.
use mathlib.Core.Path.{◌≡◌, refl, sym, ap, ap₂, ◌∙◌}
use mathlib.Core.List.{List, [], ◌∷◌, ◌++◌, append-nil}
use mathlib.Core.Bool.{Bool, true, false, cond, ◌&&◌, ◌||◌}
use mathlib.Core.Logic.{◌⊎◌, inl, inr, ⊎_elim}
use Prim.Native.Nat.{ℕ, zero, suc, ◌+◌, ◌*◌, ◌/◌, ◌%◌, ◌^◌, ◌≤◌, ◌<◌}
use native.Mathlib.Nat.{pow-suc}
use native.Mathlib.Omega.{arith}
use lib.Dec.{eqb, leb}
use lib.ListN.{length, take, drop, length-take, length-drop, length-append, take-append-drop, drop_of_length-le}
use lib.Seq.{take_all, take_at, drop_at}
use borrow.Author.Tests.{eqb-true, eqb-false, ne_eqb, leb-true, leb-false, le-leb}
use Rattle.word.specs.Name.{word_bytes, pack, longest}
use Rattle.machine.specs.Saves.{is_letter, are_letters, is_name}
use Rattle.state.specs.Test.{every}
use Rattle.state.proofs.Tests.{both}
use Rattle.saves.specs.Keys.{is_word, letters_in, full_word, is_second, is_key, name_in, low_of, high_of}

pub and-true : {a b : Bool} → a ≡ true → b ≡ true → a && b ≡ true
and-true e f = ap₂ (λ (x y : Bool). x && y) e f

-- the test of letters as a test of every byte
pub letters_every : (s : List ℕ) → are_letters s ≡ every is_letter s
unfolding are_letters every
letters_every [] = refl
letters_every (b ∷ s) = ap (λ (t : Bool). is_letter b && t) (letters_every s)

-- ---- letters

or_cases : {A : Type 0} (a b : Bool) → (a || b) ≡ true → (a ≡ true → A) → (b ≡ true → A) → A
or_cases true b e f g = f refl
or_cases false b e f g = g e

pub record Letter (b : ℕ) : Type 0 where
  pub low : 65 ≤ b
  pub high : b ≤ 122

pub letter-is : (b : ℕ) → is_letter b ≡ true → Letter b
unfolding is_letter
letter-is b e =
    or_cases (leb 65 b && leb b 90) (leb 97 b && leb b 122) e
    (λ f. let q = both (leb 65 b) _ f in record { low = leb-true _ _ q.0; high = omega (arith, leb-true b 90 q.1) })
    (λ f. let q = both (leb 97 b) _ f in record { low = omega (arith, leb-true 97 b q.0); high = leb-true _ _ q.1 })

-- ---- one number

not-zero : (b p : ℕ) → 65 ≤ b → eqb (b + 256 * p) 0 ≡ false
not-zero b p h = ne_eqb (b + 256 * p) 0 (λ (e : b + 256 * p ≡ 0). omega arith)

module _ (b p : ℕ) (l : Letter b) where
  digit : (b + 256 * p) % 256 ≡ b
  digit = omega (arith, l.high)

  rest : (b + 256 * p) / 256 ≡ p
  rest = omega (arith, l.high)

pub word-passes : (k : ℕ) (s : List ℕ) → every is_letter s ≡ true → length s ≤ k → is_word k (pack s) ≡ true
unfolding is_word pack every
word-passes zero [] e h = refl
word-passes (suc k) [] e h = refl
word-passes zero (b ∷ s) e h = absurd (omega arith)
word-passes (suc k) (b ∷ s) e h =
    let q = both (is_letter b) _ e in
    let l = letter-is b q.0 in
    rw (not-zero b (pack s) l.low, digit b (pack s) l, rest b (pack s) l) (and-true q.0 (word-passes k s q.1 (omega arith)))

pub word_back : (k : ℕ) (s : List ℕ) → every is_letter s ≡ true → length s ≤ k → letters_in k (pack s) ≡ s
unfolding letters_in pack every
word_back zero [] e h = refl
word_back (suc k) [] e h = refl
word_back zero (b ∷ s) e h = absurd (omega arith)
word_back (suc k) (b ∷ s) e h =
    let q = both (is_letter b) _ e in
    let l = letter-is b q.0 in
    rw (not-zero b (pack s) l.low, digit b (pack s) l, rest b (pack s) l) (ap (λ (t : List ℕ). b ∷ t) (word_back k s q.1 (omega arith)))

-- what a number that passes is
pub record Word (k w : ℕ) : Type 0 where
  pub packed : pack (letters_in k w) ≡ w
  pub letters : every is_letter (letters_in k w) ≡ true
  pub short : length (letters_in k w) ≤ k

pub word-is : (k w : ℕ) → is_word k w ≡ true → Word k w
unfolding is_word letters_in pack every
word-is zero w e = record { packed = sym (eqb-true w 0 e); letters = refl; short = omega arith }
word-is (suc k) w e = by (λ f. word-is k (w / 256) f) (eqb w 0) refl e
  where
    by : (is_word k (w / 256) ≡ true → Word k (w / 256)) → (b : Bool) → eqb w 0 ≡ b → cond b true (is_letter (w % 256) && is_word k (w / 256)) ≡ true → Word (suc k) w
    by go true f e = record { packed = rw f (sym (eqb-true w 0 f)); letters = rw f; short = rw f (omega arith) }
    by go false f e =
        let q = both (is_letter (w % 256)) _ e in
        let r = go q.1 in
        record {
          packed = rw f (ap (λ (p : ℕ). w % 256 + 256 * p) r.packed ∙ omega arith);
          letters = rw f (and-true q.0 r.letters);
          short = rw f (omega (arith, r.short));
        }

-- ---- how large

pub pack-large : (k : ℕ) (s : List ℕ) → every is_letter s ≡ true → k < length s → 256 ^ k ≤ pack s
unfolding pack every
pack-large k [] e h = absurd (omega arith)
pack-large zero (b ∷ s) e h = let l = letter-is b (both (is_letter b) _ e).0 in omega (arith, l.low)
pack-large (suc k) (b ∷ s) e h = let r = pack-large k s (both (is_letter b) _ e).1 (omega arith) in rw (pow-suc 256 k) (omega arith)

pub pack-small : (k : ℕ) (s : List ℕ) → every is_letter s ≡ true → length s ≤ k → pack s < 256 ^ k
unfolding pack every
pack-small zero [] e h = omega arith
pack-small (suc k) [] e h = let r = pack-small k [] e (omega arith) in rw (pow-suc 256 k) (omega arith)
pack-small zero (b ∷ s) e h = absurd (omega arith)
pack-small (suc k) (b ∷ s) e h =
    let q = both (is_letter b) _ e in
    let l = letter-is b q.0 in
    let r = pack-small k s q.1 (omega arith) in rw (pow-suc 256 k) (omega (arith, l.high))

-- ---- parts of letters

pub every_take : {A : Type 0} (t : A → Bool) (n : ℕ) (xs : List A) → every t xs ≡ true → every t (take n xs) ≡ true
unfolding every
every_take t zero xs e = refl
every_take t (suc n) [] e = refl
every_take t (suc n) (x ∷ xs) e = let q = both (t x) _ e in and-true q.0 (every_take t n xs q.1)

pub every_drop : {A : Type 0} (t : A → Bool) (n : ℕ) (xs : List A) → every t xs ≡ true → every t (drop n xs) ≡ true
unfolding every
every_drop t zero xs e = e
every_drop t (suc n) [] e = refl
every_drop t (suc n) (x ∷ xs) e = every_drop t n xs (both (t x) _ e).1

every_append : {A : Type 0} (t : A → Bool) (xs ys : List A) → every t xs ≡ true → every t ys ≡ true → every t (xs ++ ys) ≡ true
unfolding every
every_append t [] ys e f = f
every_append t (x ∷ xs) ys e f = let q = both (t x) _ e in and-true q.0 (every_append t xs ys q.1 f)

-- ---- names

pub record Name (n : List ℕ) : Type 0 where
  pub some-letter : 1 ≤ length n
  pub short : length n ≤ longest
  pub letters : every is_letter n ≡ true

pub name-is : (n : List ℕ) → is_name n ≡ true → Name n
unfolding is_name
name-is n e =
    let a = both (leb 1 (length n)) _ e in
    let b = both (leb (length n) longest) _ a.1 in
    record { some-letter = leb-true _ _ a.0; short = leb-true _ _ b.0; letters = sym (letters_every n) ∙ b.1 }

module _ (n : List ℕ) (e : is_name n ≡ true) where
  first_short : length (take word_bytes n) ≤ word_bytes
  first_short = omega (arith, length-take word_bytes n)

  second_short : length (drop word_bytes n) ≤ word_bytes
  second_short = omega (arith, length-drop word_bytes n, (name-is n e).short)

  pub name_back : name_in (low_of n) (high_of n) ≡ n
  unfolding name_in
  name_back =
      let l = (name-is n e).letters in
      ap₂ (λ (a b : List ℕ). a ++ b) (word_back word_bytes (take word_bytes n) (every_take is_letter word_bytes n l) first_short)
      (word_back word_bytes (drop word_bytes n) (every_drop is_letter word_bytes n l) second_short)
      ∙ take-append-drop word_bytes n

  pub low-positive : 1 ≤ low_of n
  low-positive =
      let l = every_take is_letter word_bytes n (name-is n e).letters in
      omega (arith, pack-large 0 (take word_bytes n) l (omega (arith, length-take word_bytes n, (name-is n e).some-letter)))

  second-passes : is_second (low_of n) (high_of n) ≡ true
  unfolding is_second
  second-passes = by (eqb (high_of n) 0) refl
    where
      by : (b : Bool) → eqb (high_of n) 0 ≡ b → cond b true (leb full_word (low_of n) && is_word word_bytes (high_of n)) ≡ true
      by true f = refl
      by false f =
          let l = (name-is n e).letters in
          and-true (le-leb full_word (low_of n) (pack-large 7 (take word_bytes n) (every_take is_letter word_bytes n l) (long (drop word_bytes n) refl)))
          (word-passes word_bytes (drop word_bytes n) (every_drop is_letter word_bytes n l) second_short)
        where
          long : (t : List ℕ) → drop word_bytes n ≡ t → 7 < length (take word_bytes n)
          long [] q = absurd (eqb-false (high_of n) 0 f (ap pack q ∙ none))
            where
              none : pack [] ≡ 0
              none = unfold pack in refl
          long (x ∷ t) q = omega (arith, length-take word_bytes n, length-drop word_bytes n, ap length q)

  pub name-passes : is_key (low_of n) (high_of n) ≡ true
  unfolding is_key
  name-passes =
      and-true (le-leb 1 (low_of n) low-positive)
      (and-true (word-passes word_bytes (take word_bytes n) (every_take is_letter word_bytes n (name-is n e).letters) first_short) second-passes)

-- what two numbers that pass are
pub record Key (a b : ℕ) : Type 0 where
  pub name : is_name (name_in a b) ≡ true
  pub low : low_of (name_in a b) ≡ a
  pub high : high_of (name_in a b) ≡ b
  pub positive : 1 ≤ a

module _ (a b : ℕ) (p : 1 ≤ a) (u : Word word_bytes a) (v : Word word_bytes b) (q : (length (letters_in word_bytes a) ≡ word_bytes) ⊎ (letters_in word_bytes b ≡ [])) where
  key-parts : (take word_bytes (name_in a b) ≡ letters_in word_bytes a) × (drop word_bytes (name_in a b) ≡ letters_in word_bytes b)
  unfolding name_in
  key-parts =
      ⊎_elim (λ e. (take_at (letters_in word_bytes a) (letters_in word_bytes b) word_bytes e, drop_at (letters_in word_bytes a) (letters_in word_bytes b) word_bytes e))
      (λ e.
      let f : letters_in word_bytes a ++ letters_in word_bytes b ≡ letters_in word_bytes a = ap (λ (s : List ℕ). letters_in word_bytes a ++ s) e ∙ append-nil (letters_in word_bytes a) in
      (ap (take word_bytes) f ∙ take_all word_bytes (letters_in word_bytes a) u.short, ap (drop word_bytes) f ∙ drop_of_length-le (letters_in word_bytes a) {i = word_bytes} u.short ∙ sym e))
      q

  one-letter : 1 ≤ length (letters_in word_bytes a)
  one-letter = by (letters_in word_bytes a) u.packed
    where
      by : (s : List ℕ) → pack s ≡ a → 1 ≤ length s
      by [] e = let z : pack [] ≡ 0 = unfold pack in refl in absurd (omega arith)
      by (x ∷ s) e = omega arith

  key-holds : Key a b
  unfolding is_name name_in
  key-holds = record {
    name =
        let l = length-append (letters_in word_bytes a) (letters_in word_bytes b) in
        and-true (le-leb 1 (length (name_in a b)) (omega (arith, l, one-letter)))
        (and-true (le-leb (length (name_in a b)) longest (omega (arith, l, u.short, v.short))) (letters_every (name_in a b) ∙ every_append is_letter _ _ u.letters v.letters));
    low = ap pack key-parts.0 ∙ u.packed;
    high = ap pack key-parts.1 ∙ v.packed;
    positive = p;
  }

zero_word : (b : ℕ) → b ≡ 0 → Word word_bytes b
zero_word b e = word-is word_bytes b (ap (is_word word_bytes) e ∙ zero-passes)
  where
    zero-passes : is_word word_bytes 0 ≡ true
    zero-passes = unfold is_word in refl

full-length : (a : ℕ) → Word word_bytes a → full_word ≤ a → length (letters_in word_bytes a) ≡ word_bytes
full-length a u h = by (leb (length (letters_in word_bytes a)) 7) refl
  where
    by : (t : Bool) → leb (length (letters_in word_bytes a)) 7 ≡ t → length (letters_in word_bytes a) ≡ word_bytes
    by true e = absurd (let k = pack-small 7 (letters_in word_bytes a) u.letters (leb-true _ _ e) in omega (arith, u.packed))
    by false e = omega (arith, u.short, leb-false (length (letters_in word_bytes a)) 7 e)

pub key-is : (a b : ℕ) → is_key a b ≡ true → Key a b
unfolding is_key is_second letters_in
key-is a b e =
    let x = both (leb 1 a) _ e in
    let y = both (is_word word_bytes a) _ x.1 in
    let u = word-is word_bytes a y.0 in
    by (leb-true _ _ x.0) u (eqb b 0) refl y.1
  where
    by : 1 ≤ a → Word word_bytes a → (t : Bool) → eqb b 0 ≡ t → cond t true (leb full_word a && is_word word_bytes b) ≡ true → Key a b
    by p u true f g = key-holds a b p u (zero_word b (eqb-true b 0 f)) (inr (rw f))
    by p u false f g =
        let x = both (leb full_word a) _ g in
        key-holds a b p u (word-is word_bytes b x.1) (inl (full-length a u (leb-true full_word a x.0)))
