-- Tokens written with a blank before each are the tokens of the text they make: no token has a blank in it, so that each is the longest at its place. From the
-- law that no other tokens tile a text.
use mathlib.Core.Path.{◌≡◌, refl, sym, ap, ap₂, subst, ◌∙◌}
use mathlib.Core.List.{List, [], ◌∷◌, ◌++◌, map}
use mathlib.Core.Bool.{Bool, true, false, ◌&&◌}
use Prim.Native.Nat.{ℕ, zero, suc, ◌+◌, ◌-◌, ◌≤◌, ◌<◌}
use native.Mathlib.Omega.{arith}
use lib.Dec.{eqb}
use lib.ListN.{length, get_or, take, drop, length-append, length-drop}
use lib.Seq.{drop-drop, drop-append_seam, take-append_seam}
use borrow.Author.Tests.{eqb-true}
use Rattle.token.specs.Bytes.{within, is_blank, is_letter, is_digit, is_sign, sort_of, belongs, starts}
use Rattle.token.specs.Token.{pairs, Mark, tokens, kinds_of, column}
use Rattle.token.specs.Contents.{bytes_of}
use Rattle.token.specs.Tiling.{Run, Lexeme, Stands, Tiled}
use Rattle.token.specs.Tiling.Lexeme.{named, whole, decimal, single, double, stray}
use Rattle.token.specs.Tiling.Gap.{nothing, blank}
use Rattle.token.proofs.Sorts.{within-is, pairs_first}
use Rattle.token.proofs.Runs.{front}
use Rattle.token.proofs.Lexemes.{digit-first}
use Rattle.token.proofs.Only.{full, only}

-- a token to be written
pub record Spelt : Type 0 where
  pub kind : ℕ
  pub bytes : List ℕ
  pub made : Lexeme kind bytes

abbrev pub kinds : List Spelt → List ℕ
kinds xs = map (λ x. x.kind) xs

abbrev pub words : List Spelt → List (List ℕ)
words xs = map (λ x. x.bytes) xs

-- each after a blank
abbrev pub written : List Spelt → List ℕ
written [] = []
written (x ∷ xs) = 32 ∷ x.bytes ++ written xs

-- ---- no token has a blank in it

-- bytes of which none is a blank
abbrev Solid : List ℕ → Type 0
Solid [] = Unit {0}
Solid (b ∷ s) = (b ≡ 32 → ⊥) × Solid s

both : (s t : List ℕ) → Solid s → Solid t → Solid (s ++ t)
both [] t h g = g
both (b ∷ s) t h g = (h.0, both s t h.1 g)

goes_on : (class b : ℕ) → 0 < class → belongs class b ≡ true → b ≡ 32 → ⊥
unfolding belongs sort_of is_blank is_letter is_digit is_sign
goes_on class b h e q = let z = within-is class 2 (sort_of b) e in let y = ap sort_of q in omega arith

run-solid : (class : ℕ) (s : List ℕ) → 0 < class → Run class s → Solid s
run-solid class [] h r = tt
run-solid class (b ∷ s) h r = (goes_on class b h r.0, run-solid class s h r.1)

sort-solid : (a k : ℕ) → 0 < k → sort_of a ≡ k → a ≡ 32 → ⊥
unfolding sort_of is_blank is_letter is_digit is_sign within
sort-solid a k h e q = let z = rw q at e in omega arith

second-solid : (a b : ℕ) → pairs a b ≡ true → b ≡ 32 → ⊥
unfolding pairs within
second-solid a b e q = let z = rw q at e in let y : ◌≡◌ {A = ℕ} 0 1 = cc in omega arith

lexeme-solid : {k : ℕ} (s : List ℕ) → Lexeme k s → Solid s
lexeme-solid s (named e r q) = run-solid 1 s (omega arith) r
lexeme-solid s (whole p r q) = run-solid 2 s (omega arith) r
lexeme-solid s (decimal t u p r i v e q) = subst Solid (sym e) (both t (46 ∷ u) (run-solid 2 t (omega arith) r) (λ z. omega arith, run-solid 2 u (omega arith) v))
lexeme-solid s (single a e q i) = subst Solid (sym q) (sort-solid a 3 (omega arith) e, tt)
lexeme-solid s (double a b e q i) = subst Solid (sym q) (sort-solid a 3 (omega arith) (pairs_first a b e), (second-solid a b e, tt))
lexeme-solid s (stray a e q i) = subst Solid (sym q) (sort-solid a 4 (omega arith) e, tt)

-- more bytes than those before a blank have it among them
past-blank : (n : ℕ) (s r : List ℕ) → length s < n → Solid (take n (s ++ 32 ∷ r)) → ⊥
past-blank zero s r h g = omega arith
past-blank (suc n) [] r h g = g.0 refl
past-blank (suc n) (b ∷ s) r h g = past-blank n s r (omega arith) g.1

-- ---- no comment begins where a token is written

second : (xs : List Spelt) → get_or (written xs) 0 0 ≡ 47 → ⊥
second [] e = omega arith
second (x ∷ xs) e = omega arith

at_second : (a : ℕ) (s r : List ℕ) → s ≡ a ∷ [] → get_or (s ++ r) 1 0 ≡ get_or r 0 0
at_second a s r e = ap (λ (l : List ℕ). get_or (l ++ r) 1 0) e

two : (a b : ℕ) (s r : List ℕ) → s ≡ a ∷ b ∷ [] → (get_or (s ++ r) 0 0 ≡ a) × (get_or (s ++ r) 1 0 ≡ b)
two a b s r e = (ap (λ (l : List ℕ). get_or (l ++ r) 0 0) e, ap (λ (l : List ℕ). get_or (l ++ r) 1 0) e)

slashes : (a b : ℕ) → pairs a b ≡ true → a ≡ 47 → b ≡ 47 → ⊥
unfolding pairs within
slashes a b e p q = let z = rw (p, q) at e in let y : ◌≡◌ {A = ℕ} 0 1 = cc in omega arith

sort-slash : (a k : ℕ) → k < 3 → sort_of a ≡ k → a ≡ 47 → ⊥
unfolding sort_of is_blank is_letter is_digit is_sign within
sort-slash a k h e q = let z = rw q at e in omega arith

first-is : (s r : List ℕ) → 0 < length s → get_or (s ++ r) 0 0 ≡ get_or s 0 0
first-is [] r h = absurd (omega arith)
first-is (b ∷ s) r h = refl

no-slashes : {k : ℕ} (s : List ℕ) (xs : List Spelt) → Lexeme k s → get_or (s ++ written xs) 0 0 ≡ 47 → get_or (s ++ written xs) 1 0 ≡ 47 → ⊥
no-slashes s xs (named e r q) a b = sort-slash _ 1 (omega arith) e (sym (first-is s (written xs) (full s (named e r q))) ∙ a)
no-slashes s xs (whole p r q) a b = sort-slash _ 2 (omega arith) (digit-first s p r) (sym (first-is s (written xs) p) ∙ a)
no-slashes s xs (decimal t u p r i v e q) a b =
    let z : get_or (s ++ written xs) 0 0 ≡ get_or t 0 0 = ap (λ (l : List ℕ). get_or (l ++ written xs) 0 0) e ∙ first-is (t ++ 46 ∷ u) (written xs) (omega (arith, length-append t (46 ∷ u))) ∙ first-is t (46 ∷ u) p in
    sort-slash _ 2 (omega arith) (digit-first t p r) (sym z ∙ a)
no-slashes s xs (single c e q i) a b = second xs (sym (at_second c s (written xs) q) ∙ b)
no-slashes s xs (double c d e q i) a b = let t = two c d s (written xs) q in slashes c d e (sym t.0 ∙ a) (sym t.1 ∙ b)
no-slashes s xs (stray c e q i) a b = second xs (sym (at_second c s (written xs) q) ∙ b)

no-comment : (b n : ℕ) → (b ≡ 47 → n ≡ 47 → ⊥) → starts b n ≡ false
unfolding starts
no-comment b n h = by (eqb b 47) (eqb n 47) refl refl
  where
    by : (x y : Bool) → eqb b 47 ≡ x → eqb n 47 ≡ y → eqb b 47 && eqb n 47 ≡ false
    by true true e f = absurd (h (eqb-true b 47 e) (eqb-true n 47 f))
    by true false e f = simp (e, f)
    by false y e f = simp e

-- ---- the tiling

abbrev marks_from : ℕ → List Spelt → List Mark
marks_from from [] = []
marks_from from (x ∷ xs) = record { kind = x.kind; place = from + 1; size = length x.bytes } ∷ marks_from (from + 1 + length x.bytes) xs

module _ (text : List ℕ) where
  -- after the blank, and after the token
  after-blank : (from : ℕ) (x : Spelt) (xs : List Spelt) → drop from text ≡ written (x ∷ xs) → drop (from + 1) text ≡ x.bytes ++ written xs
  after-blank from x xs e = sym (drop-drop 1 from text) ∙ ap (drop 1) e

  after-token : (from : ℕ) (x : Spelt) (xs : List Spelt) → drop from text ≡ written (x ∷ xs) → drop (from + 1 + length x.bytes) text ≡ written xs
  after-token from x xs e = sym (drop-drop (length x.bytes) (from + 1) text) ∙ ap (drop (length x.bytes)) (after-blank from x xs e) ∙ drop-append_seam x.bytes (written xs)

  bytes-are : (from : ℕ) (x : Spelt) (xs : List Spelt) → drop from text ≡ written (x ∷ xs) → take (length x.bytes) (drop (from + 1) text) ≡ x.bytes
  bytes-are from x xs e = ap (take (length x.bytes)) (after-blank from x xs e) ∙ take-append_seam x.bytes (written xs)

  room : (from : ℕ) (x : Spelt) (xs : List Spelt) → drop from text ≡ written (x ∷ xs) → from + 1 + length x.bytes ≤ length text
  room from x xs e = omega (arith, ap length e, length-drop from text, length-append x.bytes (written xs))

  too_long : (x : Spelt) (xs : List Spelt) (n k : ℕ) → length x.bytes < n → n ≤ length (x.bytes ++ written xs) → Lexeme k (take n (x.bytes ++ written xs)) → ⊥
  too_long x [] n k h g l = omega (arith, length-append x.bytes [])
  too_long x (y ∷ ys) n k h g l = past-blank n x.bytes (y.bytes ++ written ys) h (lexeme-solid _ l)

  stands : (from : ℕ) (x : Spelt) (xs : List Spelt) → drop from text ≡ written (x ∷ xs) → Stands text from (record { kind = x.kind; place = from + 1; size = length x.bytes })
  unfolding sort_of is_blank is_letter is_digit is_sign within
  stands from x xs e =
      let u = after-blank from x xs e in
      let one : from + 1 - from ≡ 1 = omega arith in
      let first : get_or text (from + 1) 0 ≡ get_or (x.bytes ++ written xs) 0 0 = sym (front text (from + 1)) ∙ ap (λ (l : List ℕ). get_or l 0 0) u in
      let next : get_or text (from + 1 + 1) 0 ≡ get_or (x.bytes ++ written xs) 1 0 = sym (front text (from + 1 + 1)) ∙ ap (λ (l : List ℕ). get_or l 0 0) (sym (drop-drop 1 (from + 1) text)) ∙ ap (λ (l : List ℕ). get_or (drop 1 l) 0 0) u ∙ front (x.bytes ++ written xs) 1 in
      record {
        after = omega arith;
        inside = room from x xs e;
        gapped = rw (one, e) (blank refl nothing);
        solid = no-comment _ _ (λ a b. no-slashes x.bytes xs x.made (sym first ∙ a) (sym next ∙ b));
        made = rw (bytes-are from x xs e) x.made;
        longest = λ n k h g l. too_long x xs n k h (omega (arith, ap length u, length-drop (from + 1) text)) (rw u at l);
      }

  tiles : (from : ℕ) (xs : List Spelt) → drop from text ≡ written xs → Tiled text from (marks_from from xs)
  unfolding sort_of is_blank is_letter is_digit is_sign within
  tiles from [] e = rw e (blank refl nothing)
  tiles from (x ∷ xs) e = (stands from x xs e, tiles (from + 1 + length x.bytes) xs (after-token from x xs e))

  kinds-from : (from : ℕ) (xs : List Spelt) → kinds_of (marks_from from xs) ≡ kinds xs
  unfolding column
  kinds-from from [] = refl
  kinds-from from (x ∷ xs) = ap (λ (l : List ℕ). x.kind ∷ l) (kinds-from (from + 1 + length x.bytes) xs)

  words-from : (from : ℕ) (xs : List Spelt) → drop from text ≡ written xs → map (bytes_of text) (marks_from from xs) ≡ words xs
  words-from from [] e = refl
  words-from from (x ∷ xs) e =
      ap₂ (λ (s : List ℕ) (l : List (List ℕ)). s ∷ l) (bytes-are from x xs e) (words-from (from + 1 + length x.bytes) xs (after-token from x xs e))

module _ (xs : List Spelt) where
  marks-are : marks_from 0 xs ≡ tokens (written xs)
  marks-are = only (written xs) (marks_from 0 xs) (tiles (written xs) 0 xs refl)

  -- tokens that are written with blanks are the text's tokens
  pub kinds-are : kinds_of (tokens (written xs)) ≡ kinds xs
  kinds-are = sym (ap kinds_of marks-are) ∙ kinds-from (written xs) 0 xs

  pub words_are : map (bytes_of (written xs)) (tokens (written xs)) ≡ words xs
  words_are = sym (ap (map (bytes_of (written xs))) marks-are) ∙ words-from (written xs) 0 xs refl

-- ---- a text's own tokens

abbrev pub spelt_in : (text : List ℕ) (from : ℕ) (ms : List Mark) → Tiled text from ms → List Spelt
spelt_in text from [] h = []
spelt_in text from (m ∷ ms) h = record { kind = m.kind; bytes = bytes_of text m; made = h.0.made } ∷ spelt_in text (m.place + m.size) ms h.1

pub kinds-in : (text : List ℕ) (from : ℕ) (ms : List Mark) (h : Tiled text from ms) → kinds (spelt_in text from ms h) ≡ kinds_of ms
unfolding column
kinds-in text from [] h = refl
kinds-in text from (m ∷ ms) h = ap (λ (l : List ℕ). m.kind ∷ l) (kinds-in text (m.place + m.size) ms h.1)

pub words-in : (text : List ℕ) (from : ℕ) (ms : List Mark) (h : Tiled text from ms) → words (spelt_in text from ms h) ≡ map (bytes_of text) ms
words-in text from [] h = refl
words-in text from (m ∷ ms) h = ap (λ (l : List (List ℕ)). bytes_of text m ∷ l) (words-in text (m.place + m.size) ms h.1)
