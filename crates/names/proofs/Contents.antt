-- What the tables of kinds and contents say of a text's tokens: of names, whole numbers and decimals, and of a closing bracket. From how tokens are made.
use mathlib.Core.Path.{◌≡◌, refl, sym, ap, ◌∙◌}
use mathlib.Core.List.{List, [], ◌∷◌}
use mathlib.Core.Bool.{Bool, true, false, not}
use Prim.Native.Nat.{ℕ, zero, suc, ◌+◌, ◌<◌, min}
use native.Mathlib.Omega.{arith}
use borrow.Author.Tests.{eq-eqb, ne_eqb, eqb-true, ltb-true, ltb-false}
use lib.Dec.{eqb, ltb}
use lib.ListN.{length, get_or, take, length-take}
use lib.Seq.{get_or-take}
use Rattle.word.specs.Name.{longest, Plain}
use Rattle.word.specs.Number.{worth, cap}
use Rattle.word.proofs.Packs.{first, second, short-is, long-name, name-positive}
use Rattle.token.specs.declared.Content.{Content}
use Rattle.token.specs.Kind as kind
use Rattle.token.specs.Bytes.{sort_of, is_blank, is_letter, is_digit, is_sign, within}
use Rattle.token.specs.Token.{Mark, tokens, column}
use Rattle.token.specs.Contents.{words_of, name_content, few_digits, decimal_content, content_of, bytes_of, low_of, high_of}
use Rattle.token.specs.Tiling.{Run, Lexeme, Tiled}
use Rattle.token.specs.Tiling.Lexeme.{named, whole, decimal, single, double, stray}
use Rattle.token.proofs.Sorts.{run-byte}
use Rattle.token.proofs.Tiles.{tiled}
use Rattle.model.specs.Words.{nth}
use Rattle.model.specs.Limits.{word_beyond}
use Rattle.names.specs.Faults.{left_out}

-- ---- tokens are made as their kinds say
made_in : (text : List ℕ) (from : ℕ) (ms : List Mark) → Tiled text from ms → (i : ℕ) → i < length ms → Lexeme (nth ms i).kind (bytes_of text (nth ms i))
unfolding nth
made_in text from [] h i l = absurd (omega arith)
made_in text from (m ∷ ms) h zero l = h.0.made
made_in text from (m ∷ ms) h (suc i) l = made_in text (m.place + m.size) ms h.1 i (omega arith)

pub made : (text : List ℕ) (i : ℕ) → i < length (tokens text) → Lexeme (nth (tokens text) i).kind (bytes_of text (nth (tokens text) i))
made text i l = made_in text 0 (tokens text) (tiled text) i l

run-plain : (s : List ℕ) → Run 1 s → Plain s
run-plain [] r = tt
run-plain (b ∷ s) r = let h = run-byte b r.0 in (h.0, h.1, run-plain s r.1)

some_byte : (s : List ℕ) → sort_of (get_or s 0 0) ≡ 1 → 0 < length s
unfolding sort_of is_blank is_letter is_digit is_sign within
some_byte [] e = absurd (omega arith)
some_byte (b ∷ s) e = omega arith

-- a name's bytes
pub name-plain : {k : ℕ} {s : List ℕ} → Lexeme k s → k ≡ kind.name → Plain s × (0 < length s)
unfolding sort_of is_blank is_letter is_digit is_sign within
name-plain {s = s} (named e r q) h = (run-plain s r, some_byte s e)
name-plain (whole p r q) h = absurd (omega arith)
name-plain (decimal t u p r x v e q) h = absurd (omega arith)
name-plain (single a e p q) h = absurd (let z : a ≡ 1 = sym q ∙ h in let y = rw z at e in omega arith)
name-plain (double a b e p q) h = absurd (omega arith)
name-plain (stray a e p q) h = absurd (omega arith)

-- ---- a name or a decimal beyond its limit has no contents
name-left : (s : List ℕ) (b : Bool) → ltb longest (length s) ≡ b → Plain s → 0 < length s → b ≡ eqb (name_content s).low 0
unfolding name_content words_of
name-left s true e p h = rw (sym (long-name s (ltb-true longest (length s) e)))
name-left s false e p h =
    let q = short-is s (ltb-false longest (length s) e) in
    let r = name-positive s (first s) (second s) p h q in
    rw q (sym (ne_eqb (first s) 0 (λ z. omega arith)))

decimal-left : (s : List ℕ) (b : Bool) → few_digits s ≡ b → not b ≡ eqb (decimal_content s).high 0
unfolding decimal_content
decimal-left s true e = rw e
decimal-left s false e = rw e

-- contents by the kind
module _ (k : ℕ) (s : List ℕ) where
  pub of-name : k ≡ kind.name → content_of k s ≡ name_content s
  unfolding content_of
  of-name h = simp (eq-eqb k kind.name h)

  pub of-whole : k ≡ kind.whole → (content_of k s).low ≡ min cap (worth 0 s)
  unfolding content_of
  of-whole h = simp (ne_eqb k kind.name (λ e. omega arith), eq-eqb k kind.whole h)

  pub of-decimal : k ≡ kind.decimal → content_of k s ≡ decimal_content s
  unfolding content_of
  of-decimal h = simp (ne_eqb k kind.name (λ e. omega arith), ne_eqb k kind.whole (λ e. omega arith), eq-eqb k kind.decimal h)

pub beyond-is : (text : List ℕ) (m : Mark) → Lexeme m.kind (bytes_of text m) → word_beyond text m ≡ left_out m.kind (low_of text m) (high_of text m)
unfolding word_beyond left_out
beyond-is text m x = by (eqb m.kind kind.name) refl (eqb m.kind kind.decimal) refl
  where
    s : List ℕ
    s = bytes_of text m

    by : (p : Bool) → eqb m.kind kind.name ≡ p → (r : Bool) → eqb m.kind kind.decimal ≡ r → word_beyond text m ≡ left_out m.kind (low_of text m) (high_of text m)
    by true e r g =
        let k = eqb-true m.kind kind.name e in
        let n = name-plain x k in
        let c : (name_content s).low ≡ low_of text m = ap (λ (c : Content). c.low) (sym (of-name m.kind s k)) in
        simp e (name-left s (ltb longest (length s)) refl n.0 n.1 ∙ ap (λ (v : ℕ). eqb v 0) c)
    by false e true g =
        let c : (decimal_content s).high ≡ high_of text m = ap (λ (c : Content). c.high) (sym (of-decimal m.kind s (eqb-true m.kind kind.decimal g))) in
        simp (e, g) (decimal-left s (few_digits s) refl ∙ ap (λ (v : ℕ). eqb v 0) c)
    by false e false g = simp (e, g)

-- ---- the tables, token by token
pub nth-column : (f : Mark → ℕ) (ms : List Mark) (i : ℕ) → i < length ms → get_or (column f ms) i 0 ≡ f (nth ms i)
unfolding column nth
nth-column f [] i l = absurd (omega arith)
nth-column f (m ∷ ms) zero l = refl
nth-column f (m ∷ ms) (suc i) l = nth-column f ms i (omega arith)

pub column-length : (f : Mark → ℕ) (ms : List Mark) → length (column f ms) ≡ length ms
unfolding column
column-length f [] = refl
column-length f (m ∷ ms) = ap suc (column-length f ms)

pub tabled-at : (a : List ℕ) (ms : List Mark) (f : Mark → ℕ) {n : ℕ} → n ≡ length ms → take n a ≡ column f ms → (i : ℕ) → i < n → (i < length a) × (get_or a i 0 ≡ f (nth ms i))
tabled-at a ms f {n} c e i l =
    (omega (arith, length-take n a, ap length e, column-length f ms), sym (get_or-take n a i 0 l) ∙ ap (λ (b : List ℕ). get_or b i 0) e ∙ nth-column f ms i (omega arith))
