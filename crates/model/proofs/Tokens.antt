-- Tokens by their numbers: their bytes make their kinds, a decimal has digits after its point, and `)` is the one closing bracket. From the law
-- that a text's tokens tile it.
use mathlib.Core.Path.{◌≡◌, refl, sym, ap, ◌∙◌}
use mathlib.Core.List.{List, [], ◌∷◌, ◌++◌, head-eq_of_cons-eq}
use mathlib.Core.Bool.{Bool, true, false, cond}
use mathlib.Core.Option.{some}
use Prim.Native.Nat.{ℕ, zero, suc, ◌+◌, ◌≤◌}
use native.Mathlib.Omega.{arith}
use lib.ListN.{length, get_elem?, length-drop, length-append, get_or}
use Rattle.token.specs.Kind as kind
use Rattle.token.specs.Bytes.{within, is_blank, is_letter, is_digit, is_sign, sort_of, belongs, lead}
use Rattle.token.specs.Token.{same_bytes, abs_bytes, max_bytes, min_bytes, union_bytes, inter_bytes, word_kind, Mark, tokens}
use Rattle.token.specs.Contents.{bytes_of, after_point}
use Rattle.token.specs.Tiling.{Run, Lexeme, Tiled}
use Rattle.token.specs.Tiling.Lexeme.{named, whole, decimal, single, double, stray}
use Rattle.token.proofs.Tiles.{tiled}
use Rattle.model.specs.Words.{nth, word_of}
use Rattle.model.proofs.Members.{never}

pub nth-got : (ms : List Mark) (k : ℕ) (t : Mark) → get_elem? ms k ≡ some t → nth ms k ≡ t
unfolding nth
nth-got [] k t e = never e
nth-got (m ∷ ms) zero t e = cc
nth-got (m ∷ ms) (suc k) t e = nth-got ms k t e

tiled-at : (text : List ℕ) (from : ℕ) (ms : List Mark) (k : ℕ) (t : Mark) → Tiled text from ms → get_elem? ms k ≡ some t → Lexeme t.kind (bytes_of text t)
tiled-at text from [] k t h e = never e
tiled-at text from (m ∷ ms) zero t h e = let d : m ≡ t = cc in rw d at h.0.made
tiled-at text from (m ∷ ms) (suc k) t h e = tiled-at text (m.place + m.size) ms k t h.1 e

module _ (text : List ℕ) (k : ℕ) (t : Mark) (e : get_elem? (tokens text) k ≡ some t) where
  -- a token's bytes make its kind
  pub lexeme-at : Lexeme t.kind (bytes_of text t)
  lexeme-at = tiled-at text 0 (tokens text) k t (tiled text) e

  pub word_at : word_of text k ≡ bytes_of text t
  unfolding word_of
  word_at = ap (bytes_of text) (nth-got (tokens text) k t e)

-- ---- kinds

-- a word is a name or one of the five words
word-kinds : (s : List ℕ) (P : ℕ → Type 0) → P 1 → P 5 → P 6 → P 7 → P 8 → P 9 → P (word_kind s)
unfolding word_kind
word-kinds s P p1 p5 p6 p7 p8 p9 = by (same_bytes s abs_bytes) (same_bytes s max_bytes) (same_bytes s min_bytes) (same_bytes s union_bytes) (same_bytes s inter_bytes)
  where
    by : (a b c d e : Bool) → P (cond a 5 (cond b 6 (cond c 7 (cond d 8 (cond e 9 1)))))
    by true b c d e = p5
    by false true c d e = p6
    by false false true d e = p7
    by false false false true e = p8
    by false false false false true = p9
    by false false false false false = p1

not-word : (s : List ℕ) (k : ℕ) → (k ≡ 3 → ⊥) → k ≡ word_kind s → k ≤ 9
not-word s k h e = rw e (word-kinds s (λ n. n ≤ 9) (omega arith) (omega arith) (omega arith) (omega arith) (omega arith) (omega arith))

not-decimal : (s : List ℕ) → 3 ≡ word_kind s → ⊥
not-decimal s e = word-kinds s (λ n. 3 ≡ n → ⊥) (λ f. omega arith) (λ f. omega arith) (λ f. omega arith) (λ f. omega arith) (λ f. omega arith) (λ f. omega arith) e

no_sign : sort_of 3 ≡ 3 → ⊥
unfolding sort_of is_blank is_letter is_digit is_sign within
no_sign e = omega arith

-- ---- decimals

lead-run : (class : ℕ) (t x : List ℕ) → Run class t → lead class (t ++ x) ≡ length t + lead class x
unfolding lead
lead-run class [] x r = omega arith
lead-run class (b ∷ t) x r = let h = lead-run class t x r.1 in simp r.0 (omega arith)

lead-point : (u : List ℕ) → lead 2 (kind.point ∷ u) ≡ 0
unfolding lead belongs sort_of is_blank is_letter is_digit is_sign within
lead-point u = refl

-- a decimal has a digit after its point
pub some-fraction : {s : List ℕ} → Lexeme kind.decimal s → 1 ≤ length (after_point s)
some-fraction {s} (named e r q) = absurd (not-decimal s q)
some-fraction (whole h r q) = absurd (omega arith)
some-fraction {s} (decimal t u h r h' r' e q) =
    let l : lead 2 s ≡ length t = ap (lead 2) e ∙ lead-run 2 t (kind.point ∷ u) r ∙ omega (arith, lead-point u) in
    let n : length s ≡ length t + suc (length u) = ap length e ∙ length-append t (kind.point ∷ u) in
    omega (arith, length-drop (lead 2 s + 1) s)
some-fraction (single a e f q) = absurd (no_sign (ap sort_of q ∙ e))
some-fraction (double a b p f q) = absurd (omega arith)
some-fraction (stray a e f q) = absurd (omega arith)

-- ---- the closing bracket

close-sort : sort_of kind.close_round ≡ 3
unfolding sort_of is_blank is_letter is_digit is_sign within
close-sort = refl

close-digit : belongs 2 kind.close_round ≡ true → ⊥
unfolding belongs sort_of is_blank is_letter is_digit is_sign within
close-digit e = let z : ◌≡◌ {A = ℕ} 0 1 = cc in omega arith

-- a token of its kind is written `)`
pub close-bytes : {s : List ℕ} → Lexeme kind.close_round s → s ≡ kind.close_round ∷ []
close-bytes {s} (named e r q) = absurd (let h = not-word s kind.close_round (λ f. omega arith) q in omega arith)
close-bytes (whole h r q) = absurd (omega arith)
close-bytes (decimal t u h r h' r' e q) = absurd (omega arith)
close-bytes (single a e f q) = f ∙ ap (λ (b : ℕ). b ∷ []) (sym q)
close-bytes (double a b p f q) = absurd (omega arith)
close-bytes (stray a e f q) = absurd (omega arith)

first : Run 2 (kind.close_round ∷ []) → belongs 2 kind.close_round ≡ true
first r = r.0

-- what is written `)` is of its kind
pub bytes-close : {k : ℕ} {s : List ℕ} → s ≡ kind.close_round ∷ [] → Lexeme k s → k ≡ kind.close_round
bytes-close {k} {s} d (named e r q) = absurd (let f : sort_of kind.close_round ≡ 1 = sym (ap (λ (l : List ℕ). sort_of (get_or l 0 0)) d) ∙ e in omega (arith, close-sort))
bytes-close {k} {s} d (whole h r q) = absurd (close-digit (first (rw d at r)))
bytes-close d (decimal t u h r h' r' e q) = absurd (let f = ap length (sym d ∙ e) in omega (arith, length-append t (kind.point ∷ u)))
bytes-close d (single a e f q) = q ∙ head-eq_of_cons-eq (sym f ∙ d)
bytes-close d (double a b p f q) = absurd (let g = ap length (sym f ∙ d) in omega arith)
bytes-close {k} {s} d (stray a e f q) = absurd (let g : a ≡ kind.close_round = head-eq_of_cons-eq (sym f ∙ d) in let h = sym (ap sort_of g) ∙ e in omega (arith, close-sort))
