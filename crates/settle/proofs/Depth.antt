-- However many channel names a text has, looking one up passes at most 192 kids: one for each bit of its hash and of its two words. From one parent a node, and no two names alike.
use mathlib.Core.Path.{◌≡◌, refl, sym, ap, ◌∙◌, subst}
use mathlib.Core.List.{List}
use Prim.Native.Nat.{ℕ, zero, suc, ◌+◌, ◌*◌, ◌/◌, ◌%◌, ◌^◌, ◌≤◌, ◌<◌}
use native.Mathlib.Omega.{arith}
use native.Mathlib.Decide.{dec_le, ℕ_discrete}
use lib.ListN.{length, get_or}
use Rattle.names.specs.Lists.{packed}
use Rattle.settle.specs.Kids.{hash_of, word_size, bits_of, kid_of, Way, here, down, Hung}
use Rattle.settle.proofs.Kids.{Seeking}

-- how many kids a way passes
abbrev pub steps : {t : List ℕ} {x i y j : ℕ} → Way t x i y j → ℕ
steps here = 0
steps (down a w) = suc (steps w)

-- ---- bits

-- without the lowest d bits
abbrev left : ℕ → ℕ → ℕ
left x zero = x
left x (suc d) = left x d / 2

left-half : (x d : ℕ) → left (x / 2) d ≡ left x d / 2
left-half x zero = refl
left-half x (suc d) = ap (λ (n : ℕ). n / 2) (left-half x d)

same_bits : (d x y : ℕ) → x < 2 ^ d → y < 2 ^ d → ((c : ℕ) → c < d → left x c % 2 ≡ left y c % 2) → x ≡ y
same_bits zero x y a b f = omega arith
same_bits (suc d) x y a b f =
    let r = same_bits d (x / 2) (y / 2) (omega arith) (omega arith) (λ c l. rw (left-half x c, left-half y c) (f (suc c) (omega arith))) in
    let z : x % 2 ≡ y % 2 = f 0 (omega arith) in
    omega arith

word_below : (a b m : ℕ) → a < word_size → b < m → a + word_size * b < word_size * m
word_below a b m k l = omega arith

word_same : (a b c d : ℕ) → a < word_size → c < word_size → a + word_size * b ≡ c + word_size * d → (a ≡ c) × (b ≡ d)
word_same a b c d k l e = (omega arith, omega arith)

hash-small : (a b : ℕ) → hash_of a b < word_size
unfolding hash_of
hash-small a b = omega arith

-- ---- one way to each node

-- by the bits of x, d kids down, the way from the root comes to a node
data Came (t : List ℕ) (x : ℕ) : ℕ → ℕ → Type 0 where
  root : Came t x 0 0
  kid : {d i j : ℕ} → Came t x d i → kid_of (get_or t i 0) (left x d % 2) ≡ j → 0 < j → Came t x (suc d) j

followed : {t : List ℕ} {x z i y j : ℕ} (d : ℕ) → Came t x d i → z ≡ left x d → (w : Way t z i y j) → Came t x (d + steps w) j
followed {t} {x} {z} {i} d c q here = let e : d ≡ d + 0 = omega arith in subst (λ (n : ℕ). Came t x n i) e c
followed {t} {x} {z} {i} {y} {j} d c q (down a w) =
    let e : suc d + steps w ≡ d + suc (steps w) = omega arith in
    subst (λ (n : ℕ). Came t x n j) e (followed (suc d) (kid c (ap (λ (n : ℕ). kid_of (get_or t i 0) (n % 2)) (sym q)) a) (ap (λ (n : ℕ). n / 2) q) w)

module _ {low high t seen : List ℕ} (h : Hung low high t seen) (some : 0 < length seen) where
  came-inside : {x d i : ℕ} → Came t x d i → i < length seen
  came-inside root = some
  came-inside {x} (kid {d} {i} c q l) = subst (λ (n : ℕ). n < length seen) q (h.inside i (left x d % 2) (came-inside c))

  one_way : {x y d e j : ℕ} → Came t x d j → Came t y e j → (d ≡ e) × ((c : ℕ) → c < d → left x c % 2 ≡ left y c % 2)
  one_way root root = (refl, λ c l. absurd (omega arith))
  one_way root (kid c q l) = absurd (omega arith)
  one_way (kid c q l) root = absurd (omega arith)
  one_way {x} {y} (kid {d} {i} c q l) (kid {d = e} {i = j} c' q' l') =
      let p = h.parents i j (left x d % 2) (left y e % 2) (came-inside c) (came-inside c') (omega arith) (omega arith) (omega arith) (q ∙ sym q') in
      let r = one_way c (subst (λ (n : ℕ). Came t y e n) (sym p.0) c') in
      (ap suc r.0, λ b m. by b m (ℕ_discrete b d) r.1 (p.1 ∙ ap (λ (n : ℕ). left y n % 2) (sym r.0)))
    where
      by : {d : ℕ} (b : ℕ) → b < suc d → Dec (b ≡ d) → ((c : ℕ) → c < d → left x c % 2 ≡ left y c % 2) → left x d % 2 ≡ left y d % 2 → left x b % 2 ≡ left y b % 2
      by b m (yes e) f z = rw e z
      by b m (no e) f z = f b (omega arith)

  module _ (words : (j : ℕ) → (get_or low j 0 < word_size) × (get_or high j 0 < word_size)) where
    bits_small : (k : ℕ) → bits_of low high k < 2 ^ 192
    unfolding bits_of
    bits_small k = word_below _ _ (2 ^ 128) (hash-small (get_or low k 0) (get_or high k 0)) (word_below _ _ (2 ^ 64) (words k).0 (words k).1)

    name-of-bits : (j k : ℕ) → bits_of low high j ≡ bits_of low high k → packed low high j ≡ packed low high k
    unfolding bits_of packed
    name-of-bits j k e =
        let p = word_same _ _ _ _ (hash-small (get_or low j 0) (get_or high j 0)) (hash-small (get_or low k 0) (get_or high k 0)) e in
        let q = word_same _ _ _ _ (words j).0 (words k).0 p.1 in
        rw (q.0, q.1)

    -- after 192 bits the name is known
    known : (k : ℕ) {d i : ℕ} → Came t (bits_of low high k) d i → 192 ≤ d → packed low high k ≡ packed low high (get_or seen i 0)
    known k {d} {i} c l =
        let w = h.ways i (came-inside c) in
        let o = one_way c (followed 0 root refl w.1) in
        name-of-bits k (get_or seen i 0) (same_bits 192 (bits_of low high k) (bits_of low high (get_or seen i 0)) (bits_small k) (bits_small (get_or seen i 0)) (λ b m. o.1 b (omega arith)))

    came-shallow : (k : ℕ) {d i : ℕ} → Came t (bits_of low high k) d i → d ≤ 192
    came-shallow k root = omega arith
    came-shallow k (kid {d} {i} {j} c q l) = by (dec_le 192 d)
      where
        by : Dec (192 ≤ d) → suc d ≤ 192
        by (yes e) =
            let p = h.differ i j (came-inside c) (came-inside (kid c q l)) (sym (known k c e) ∙ known k (kid c q l) (omega arith)) in
            let a = h.after i (left (bits_of low high k) d % 2) (came-inside c) (omega arith) in
            absurd (omega arith)
        by (no e) = omega arith

    shallow : (k : ℕ) {x i : ℕ} (w : Way t (bits_of low high k) 0 x i) → steps w ≤ 192
    shallow k w = let c = came-shallow k (followed 0 root refl w) in omega arith

-- a search stands nowhere deeper
pub search-shallow : {low high t seen : List ℕ} {k x i : ℕ} → Hung low high t seen → ((j : ℕ) → (get_or low j 0 < word_size) × (get_or high j 0 < word_size)) → (s : Seeking low high t seen k x i) → steps s.came ≤ 192
search-shallow {k = k} h words s = shallow h (let l = s.inside in omega arith) words k s.came
