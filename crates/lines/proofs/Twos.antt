-- The line `independent I J`: reading byte by byte comes to the word and two numbers, by induction on the bytes.
use Rattle.std.specs.List.{slice_index_or}
use Rattle.std.proofs.Common.{◌≡◌, ℕ, zero, suc, ◌+◌, ◌*◌, ◌<◌, ◌≤◌, Bool, true, false, cond, ◌&&◌, eqb, ltb, List, [], ◌∷◌, ◌++◌, length, take, drop, sym, refl, ap, ◌∙◌, arith, ltb-false, ltb-true, le-ltb, lt-ltb, eq-eqb, ne_eqb, eqb-true, Some, None, MatchOption}
use Rattle.word.specs.Number.{worth, digit_of}
use Rattle.token.specs.Bytes.{is_digit, within}
use Rattle.token.specs.Token.{same_bytes}
use Rattle.token.proofs.Words.{same-is}
use Rattle.lines.specs.declared.line.Line.{Line}
use Rattle.lines.specs.declared.line.Line.TheVariants.{Independent}
use Rattle.std.specs.Prelude.{Option}
use Rattle.lines.specs.declared.two.Two.{Two}
use Rattle.lines.specs.declared.two.Two.TheVariants.{Word, First, Gap, Both, Other}
use Rattle.lines.specs.Limit.{limit}
use Rattle.lines.specs.OneByte.{number_grown}
use Rattle.lines.specs.Two.{word_byte, word_next, grown_first, grown_second, digit_next, letter_next, two_next, run, begun, paired}
use Rattle.lines.specs.Line.{independent_bytes, digits_only, is_number, before_blank, after_blank, given_two, line_of}

-- ---- one more byte
pub run_on : (t : Two) (s : List ℕ) (b : ℕ) → run t (s ++ (b ∷ [])) ≡ two_next (run t s) b
unfolding run
run_on t [] b = refl
run_on t (a ∷ s) b = run_on (two_next t a) s b

-- ---- from each state on
lost : (s : List ℕ) → run Other s ≡ Other
unfolding run two_next
lost [] = refl
lost (b ∷ s) = go (is_digit b) (lost s)
  where
    go : (d : Bool) → run Other s ≡ Other → run (cond d Other Other) s ≡ Other
    go true e = e
    go false e = e

-- a number grows with its digits
worth-grows : (a : ℕ) (s : List ℕ) → a ≤ worth a s
unfolding worth
worth-grows a [] = omega arith
worth-grows a (x ∷ s) = omega (arith, worth-grows (a * 10 + digit_of x) s)

-- too large a number stays so
too_large : (b : Bool) (a : ℕ) (s : List ℕ) → limit ≤ a → (b && ltb (worth a s) limit) ≡ false
too_large true a s l = le-ltb (worth a s) limit (omega (arith, worth-grows a s))
too_large false a s l = refl

-- what a first number, a second number and the rest come to
abbrev asked : Bool → ℕ → ℕ → Option Line
asked t v w = cond t (Some (Independent v w)) None

from_second : (v w : ℕ) (s : List ℕ) → w < limit → paired (run (Both v w) s) ≡ asked (digits_only s && ltb (worth w s) limit) v (worth w s)
unfolding run two_next digits_only worth grown_second
from_second v w [] l = rw (lt-ltb w limit l) refl
from_second v w (b ∷ s) l = go (is_digit b) (λ h. from_second v (w * 10 + digit_of b) s h)
  where
    Grown : Type 0
    Grown = paired (run (Both v (w * 10 + digit_of b)) s) ≡ asked (digits_only s && ltb (worth (w * 10 + digit_of b) s) limit) v (worth (w * 10 + digit_of b) s)

    grows : (t : Bool) → ltb (w * 10 + digit_of b) limit ≡ t → (w * 10 + digit_of b < limit → Grown)
        → paired (run (cond t (Both v (w * 10 + digit_of b)) Other) s) ≡ asked (digits_only s && ltb (worth (w * 10 + digit_of b) s) limit) v (worth (w * 10 + digit_of b) s)
    grows true e h = h (ltb-true _ _ e)
    grows false e h = rw (lost s, too_large (digits_only s) (w * 10 + digit_of b) s (ltb-false _ _ e)) refl

    go : (d : Bool) → (w * 10 + digit_of b < limit → Grown)
        → paired (run (cond d (grown_second v w (digit_of b)) Other) s) ≡ asked ((d && digits_only s) && ltb (worth (w * 10 + digit_of b) s) limit) v (worth (w * 10 + digit_of b) s)
    go true h = grows (ltb (w * 10 + digit_of b) limit) refl h
    go false h = ap paired (lost s)

from-gap : (v : ℕ) (s : List ℕ) → paired (run (Gap v) s) ≡ cond (is_number s) (Some (Independent v (worth 0 s))) None
unfolding run two_next is_number digits_only worth
from-gap v [] = refl
from-gap v (b ∷ s) = let e : 0 * 10 + digit_of b ≡ digit_of b = omega arith in rw e (go (is_digit b))
  where
    go : (d : Bool) → paired (run (cond d (Both v (digit_of b)) Other) s)
        ≡ asked ((d && digits_only s) && ltb (worth (digit_of b) s) limit) v (worth (digit_of b) s)
    go true = from_second v (digit_of b) s (omega arith)
    go false = ap paired (lost s)

-- a blank is no digit
blank-digit : (b : ℕ) → eqb b 32 ≡ true → is_digit b ≡ false
unfolding is_digit within
blank-digit b e = rw (eqb-true b 32 e) refl

-- the digits before the blank after v, and what stands after it
abbrev asks_from : ℕ → List ℕ → List ℕ → Option Line
asks_from v s t = asked ((digits_only s && ltb (worth v s) limit) && is_number t) (worth v s) (worth 0 t)

from_first : (v : ℕ) (s : List ℕ) → v < limit → paired (run (First v) s) ≡ asks_from v (before_blank s) (after_blank s)
unfolding run two_next is_number digits_only worth before_blank after_blank grown_first
from_first v [] l = rw (lt-ltb v limit l) refl
from_first v (b ∷ s) l = by (eqb b 32) refl (λ h. from_first (v * 10 + digit_of b) s h)
  where
    Grown : Type 0
    Grown = paired (run (First (v * 10 + digit_of b)) s) ≡ asks_from (v * 10 + digit_of b) (before_blank s) (after_blank s)

    grows : (t : Bool) → ltb (v * 10 + digit_of b) limit ≡ t → (v * 10 + digit_of b < limit → Grown)
        → paired (run (cond t (First (v * 10 + digit_of b)) Other) s) ≡ asks_from (v * 10 + digit_of b) (before_blank s) (after_blank s)
    grows true e h = h (ltb-true _ _ e)
    grows false e h = rw (lost s, too_large (digits_only (before_blank s)) (v * 10 + digit_of b) (before_blank s) (ltb-false _ _ e)) refl

    go : (d : Bool) → (v * 10 + digit_of b < limit → Grown) → paired (run (cond d (grown_first v (digit_of b)) Other) s)
        ≡ asked (((d && digits_only (before_blank s)) && ltb (worth (v * 10 + digit_of b) (before_blank s)) limit) && is_number (after_blank s)) (worth (v * 10 + digit_of b) (before_blank s)) (worth 0 (after_blank s))
    go true h = grows (ltb (v * 10 + digit_of b) limit) refl h
    go false h = ap paired (lost s)

    by : (k : Bool) → eqb b 32 ≡ k → (v * 10 + digit_of b < limit → Grown)
        → paired (run (cond (is_digit b) (grown_first v (digit_of b)) (cond k (Gap v) Other)) s) ≡ asks_from v (cond k [] (b ∷ before_blank s)) (cond k s (after_blank s))
    by true e h = rw (blank-digit b e, lt-ltb v limit l) (from-gap v s)
    by false e h = go (is_digit b) h

-- after the whole word
from-word : (s : List ℕ) → paired (run (Word 7) s) ≡ given_two s
unfolding run two_next word_next given_two is_number digits_only worth before_blank after_blank
from-word [] = refl
from-word (b ∷ s) = by (eqb b 32) refl
  where
    go : (d : Bool) (x : ℕ) → x < limit → paired (run (cond d (First x) Other) s)
        ≡ asked (((d && digits_only (before_blank s)) && ltb (worth x (before_blank s)) limit) && is_number (after_blank s)) (worth x (before_blank s)) (worth 0 (after_blank s))
    go true x l = from_first x s l
    go false x l = ap paired (lost s)

    by : (k : Bool) → eqb b 32 ≡ k → paired (run (cond (is_digit b) (First (digit_of b)) Other) s)
        ≡ asked (is_number (cond k [] (b ∷ before_blank s)) && is_number (cond k s (after_blank s))) (worth 0 (cond k [] (b ∷ before_blank s))) (worth 0 (cond k s (after_blank s)))
    by true e = rw (blank-digit b e) (ap paired (lost s))
    by false e =
        let q : digit_of b ≡ 0 * 10 + digit_of b = omega arith in
        ap (λ (x : ℕ). paired (run (cond (is_digit b) (First x) Other) s)) q ∙ go (is_digit b) (0 * 10 + digit_of b) (omega arith)

-- ---- the word

-- these bytes, and then two numbers
abbrev wants : List ℕ → List ℕ → Option Line
wants ws s = cond (same_bytes (take (length ws) s) ws) (given_two (drop (length ws) s)) None

word-step : (n c : ℕ) (ws : List ℕ) → n < 7 → word_byte n ≡ c → is_digit c ≡ false → ((s : List ℕ) → paired (run (Word (n + 1)) s) ≡ wants ws s)
    → (s : List ℕ) → paired (run (Word n) s) ≡ wants (c ∷ ws) s
unfolding run two_next word_next same_bytes
word-step n c ws l e f h [] = refl
word-step n c ws l e f h (b ∷ s) = by (eqb b c) refl (is_digit b) refl
  where
    by : (k : Bool) → eqb b c ≡ k → (d : Bool) → is_digit b ≡ d
        → paired (run (cond d (cond (eqb n 7) (First (digit_of b)) Other) (cond (ltb n 7) (cond (eqb b (word_byte n)) (Word (n + 1)) Other) Other)) s)
        ≡ cond (k && same_bytes (take (length ws) s) ws) (given_two (drop (length ws) s)) None
    by true q true r = absurd (let z : true ≡ false = sym r ∙ ap is_digit (eqb-true b c q) ∙ f in let o : ◌≡◌ {A = ℕ} 0 1 = cc in omega arith)
    by true q false r = rw (lt-ltb n 7 l, e, q) (h s)
    by false q true r = rw (ne_eqb n 7 (λ o. omega arith)) (ap paired (lost s))
    by false q false r = rw (lt-ltb n 7 l, e, q) (ap paired (lost s))

-- 01: the whole line, whose first five bytes are `indep`
pub two_then : (u : List ℕ) → paired (run begun u) ≡ line_of (take 5 independent_bytes ++ u)
unfolding line_of same_bytes word_byte is_digit within
two_then u =
    word-step 0 101 (110 ∷ 100 ∷ 101 ∷ 110 ∷ 116 ∷ 32 ∷ []) (omega arith) refl refl
    (word-step 1 110 (100 ∷ 101 ∷ 110 ∷ 116 ∷ 32 ∷ []) (omega arith) refl refl
    (word-step 2 100 (101 ∷ 110 ∷ 116 ∷ 32 ∷ []) (omega arith) refl refl
    (word-step 3 101 (110 ∷ 116 ∷ 32 ∷ []) (omega arith) refl refl
    (word-step 4 110 (116 ∷ 32 ∷ []) (omega arith) refl refl (word-step 5 116 (32 ∷ []) (omega arith) refl refl (word-step 6 32 [] (omega arith) refl refl from-word))))))
    u

-- a line that begins otherwise
pub no_word : (s : List ℕ) → (take 5 s ≡ take 5 independent_bytes → ⊥) → same_bytes (take 12 s) independent_bytes ≡ false
no_word s n = by (same_bytes (take 12 s) independent_bytes) refl
  where
    shorter : (s : List ℕ) → take 5 (take 12 s) ≡ take 5 s
    shorter [] = refl
    shorter (a ∷ []) = refl
    shorter (a ∷ b ∷ []) = refl
    shorter (a ∷ b ∷ c ∷ []) = refl
    shorter (a ∷ b ∷ c ∷ d ∷ []) = refl
    shorter (a ∷ b ∷ c ∷ d ∷ e ∷ s) = refl

    by : (t : Bool) → same_bytes (take 12 s) independent_bytes ≡ t → t ≡ false
    by true e = absurd (n (sym (shorter s) ∙ ap (take 5) (same-is (take 12 s) independent_bytes e)))
    by false e = refl

-- ---- what the code tests

pub word-at : (n : ℕ) → n < 7 → slice_index_or (101 ∷ 110 ∷ 100 ∷ 101 ∷ 110 ∷ 116 ∷ 32 ∷ []) n 0 ≡ word_byte n
unfolding word_byte
word-at zero l = refl
word-at (suc zero) l = refl
word-at (suc (suc zero)) l = refl
word-at (suc (suc (suc zero))) l = refl
word-at (suc (suc (suc (suc zero)))) l = refl
word-at (suc (suc (suc (suc (suc zero))))) l = refl
word-at (suc (suc (suc (suc (suc (suc zero)))))) l = refl
word-at (suc (suc (suc (suc (suc (suc (suc n))))))) l = absurd (omega arith)

pub word_on : (n b : ℕ) → n < 7 → b ≡ word_byte n → Word (n + 1) ≡ word_next n b
unfolding word_next
word_on n b l e = simp (lt-ltb n 7 l, eq-eqb b (word_byte n) e)

pub word-off : (n b : ℕ) → n < 7 → (b ≡ word_byte n → ⊥) → Other ≡ word_next n b
unfolding word_next
word-off n b l e = simp (lt-ltb n 7 l, ne_eqb b (word_byte n) e)

pub word-past : (n b : ℕ) → 7 ≤ n → Other ≡ word_next n b
unfolding word_next
word-past n b l = simp (le-ltb n 7 l)

pub digit-on : (n d : ℕ) → n ≡ 7 → First d ≡ digit_next (Word n) d
digit-on n d e = rw (eq-eqb n 7 e) refl

pub digit-off : (n d : ℕ) → (n ≡ 7 → ⊥) → Other ≡ digit_next (Word n) d
digit-off n d e = rw (ne_eqb n 7 e) refl

pub blank-on : (v b : ℕ) → b ≡ 32 → Gap v ≡ letter_next (First v) b
blank-on v b e = rw (eq-eqb b 32 e) refl

pub blank-off : (v b : ℕ) → (b ≡ 32 → ⊥) → Other ≡ letter_next (First v) b
blank-off v b e = rw (ne_eqb b 32 e) refl

pub first-is : (v d : ℕ) (t : Two) → MatchOption (number_grown v d) (t ≡ Other) (λ n. t ≡ First n) → t ≡ grown_first v d
unfolding number_grown grown_first
first-is v d t h = by (ltb (v * 10 + d) limit) h
  where
    by : (u : Bool) → MatchOption (cond u (Some (v * 10 + d)) None) (t ≡ Other) (λ n. t ≡ First n) → t ≡ cond u (First (v * 10 + d)) Other
    by true h = h
    by false h = h

pub second-is : (v w d : ℕ) (t : Two) → MatchOption (number_grown w d) (t ≡ Other) (λ n. t ≡ Both v n) → t ≡ grown_second v w d
unfolding number_grown grown_second
second-is v w d t h = by (ltb (w * 10 + d) limit) h
  where
    by : (u : Bool) → MatchOption (cond u (Some (w * 10 + d)) None) (t ≡ Other) (λ n. t ≡ Both v n) → t ≡ cond u (Both v (w * 10 + d)) Other
    by true h = h
    by false h = h
