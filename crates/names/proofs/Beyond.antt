-- Question 7 of the tokens alone, one token on: what each turn of the loop over them needs. From the contents of tokens.
use mathlib.Core.Path.{◌≡◌, refl, sym, ap, ◌∙◌}
use mathlib.Core.List.{List, [], ◌∷◌, ◌++◌}
use mathlib.Core.Bool.{Bool, true, false}
use Prim.Native.Nat.{ℕ, zero, suc, ◌+◌, ◌≤◌, ◌<◌, min}
use native.Mathlib.Numerals.{add-one}
use native.Mathlib.Omega.{arith}
use lib.ListN.{length, get_or, drop, drop_of_length-le}
use Rattle.std.specs.Prelude.{Option, None, Some, zip, MatchOption}
use Rattle.std.specs.List.{AllWithin, HoldsAt}
use Rattle.std.proofs.lemmas.Slice.Zip.{length-zip, get_or-zip}
use Rattle.token.specs.declared.Content.{Content}
use Rattle.token.specs.Token.{Mark, tokens}
use Rattle.token.specs.Contents.{low_of, high_of, lows_in, highs_in, none}
use Rattle.token.proofs.Columns.{low_at, high_at, length-lows}
use Rattle.model.specs.Lists.{when, least}
use Rattle.model.specs.Words.{nth}
use Rattle.model.specs.Limits.{word_beyond, words_beyond}
use Rattle.names.specs.Tables.{Tabled}
use Rattle.names.specs.Faults.{left_out}
use Rattle.names.proofs.Earliest.{From, from_on, least-here}
use Rattle.names.proofs.Contents.{made, beyond-is, tabled-at}
use Rattle.names.proofs.Lookups.{reached}

-- the tokens from i on
drop_nth : (ms : List Mark) (i : ℕ) → i < length ms → drop i ms ≡ nth ms i ∷ drop (suc i) ms
unfolding nth
drop_nth [] i l = absurd (omega arith)
drop_nth (m ∷ ms) zero l = refl
drop_nth (m ∷ ms) (suc i) l = drop_nth ms i (omega arith)

-- faults stand in order
from-by : (b : Bool) (k : ℕ) (ks : List ℕ) → From (suc k) (least ks) → From k (least (when b k ++ ks))
unfolding when least
from-by true k ks h = rw (least-here k (least ks) (from_on k (least ks) h)) (omega arith)
from-by false k ks h = from_on k (least ks) h

words-from : (text : List ℕ) (k : ℕ) (ms : List Mark) → From k (least (words_beyond text k ms))
unfolding words_beyond least
words-from text k [] = tt
words-from text k (m ∷ ms) = from-by (word_beyond text m) k (words_beyond text (suc k) ms) (words-from text (suc k) ms)

module _ {text kinds low high : List ℕ} {n : ℕ} (h : Tabled text kinds low high n) (i : ℕ) (l : i < n) where
  abbrev ms : List Mark
  ms = tokens text

  abbrev m : Mark
  m = nth ms i

  pub kind-inside : i < length kinds
  kind-inside = (tabled-at kinds ms (λ m. m.kind) h.count h.kinds-are i l).0

  pub low-inside : i < length low
  low-inside = (tabled-at low ms (low_of text) h.count h.lows-are i l).0

  pub high-inside : i < length high
  high-inside = (tabled-at high ms (high_of text) h.count h.highs-are i l).0

  module _ (b : Bool) (e : b ≡ left_out (get_or kinds i 0) (get_or low i 0) (get_or high i 0)) where
    beyond-here : word_beyond text m ≡ b
    beyond-here =
        let k = (tabled-at kinds ms (λ m. m.kind) h.count h.kinds-are i l).1 in
        let v = (tabled-at low ms (low_of text) h.count h.lows-are i l).1 in
        let w = (tabled-at high ms (high_of text) h.count h.highs-are i l).1 in
        beyond-is text m (made text i (omega (arith, h.count))) ∙ sym (rw (k, v, w) at e)

    rest-is : words_beyond text i (drop i ms) ≡ when b i ++ words_beyond text (suc i) (drop (suc i) ms)
    unfolding words_beyond
    rest-is = ap (words_beyond text i) (drop_nth ms i (omega (arith, h.count))) ∙ rw beyond-here

    pub words-here : b ≡ true → Some i ≡ least (words_beyond text i (drop i ms))
    unfolding least when
    words-here q =
        let f = least (words_beyond text (suc i) (drop (suc i) ms)) in
        sym (ap least rest-is ∙ rw q (least-here i f (from_on i f (words-from text (suc i) (drop (suc i) ms)))))

    pub words-on : b ≡ false → least (words_beyond text i (drop i ms)) ≡ least (words_beyond text (i + 1) (drop (i + 1) ms))
    unfolding when
    words-on q = ap least rest-is ∙ rw (q, add-one i)

pub words-end : {text kinds low high : List ℕ} {n : ℕ} → Tabled text kinds low high n → (i : ℕ) → n ≤ i → None ≡ least (words_beyond text i (drop i (tokens text)))
unfolding words_beyond least
words-end {text} h i l = sym (ap (λ (ms : List Mark). least (words_beyond text i ms)) (drop_of_length-le (tokens text) {i = i} (omega (arith, h.count))))

-- ---- the search over the tokens' kinds and contents
abbrev pub Out : Bool → ℕ × Content → Type 0
Out b p = left_out p.0 p.1.low p.1.high ≡ b

module _ {text : List ℕ} (kinds : List ℕ) (cs : List Content) (h : Tabled text kinds (lows_in cs) (highs_in cs) (length kinds)) where
  abbrev entries : List (ℕ × Content)
  entries = zip kinds cs

  contents-there : (i : ℕ) → i < length kinds → i < length cs
  contents-there i l = omega (arith, length-lows cs, low-inside h i l)

  entry-count : length entries ≡ length kinds
  entry-count = length-zip kinds cs ∙ by (length kinds) refl
    where
      by : (n : ℕ) → length kinds ≡ n → min (length kinds) (length cs) ≡ length kinds
      by zero e = omega arith
      by (suc n) e = let l = contents-there n (omega arith) in omega arith

  entry-at : (i : ℕ) → i < length kinds → (b : Bool) → Out b (get_or entries i (0, none)) → left_out (get_or kinds i 0) (get_or (lows_in cs) i 0) (get_or (highs_in cs) i 0) ≡ b
  entry-at i l b o = rw (low_at cs i, high_at cs i) (rw (get_or-zip kinds cs i (0, none) l (contents-there i l)) at o)

  abbrev Here : ℕ → Type 0
  Here i = least (words_beyond text 0 (tokens text)) ≡ least (words_beyond text i (drop i (tokens text)))

  abbrev Passed : ℕ → Type 0
  Passed i = (i < length kinds) × Out false (get_or entries i (0, none))

  words-passed : (i : ℕ) → ((j : ℕ) → j < i → Passed j) → Here i
  words-passed = reached Here Passed refl (λ j p e. e ∙ words-on h j p.0 _ refl (entry-at j p.0 false p.1))

  pub words-found : (r : Option ℕ) → MatchOption r (AllWithin (Out false) entries 0 (length entries)) (λ i. (i < length entries) × HoldsAt (Out true) entries i × AllWithin (Out false) entries 0 i) → r ≡ least (words_beyond text 0 (tokens text))
  words-found None a =
      words-end h (length kinds) (omega arith) ∙ sym (words-passed (length kinds) (λ j l. (l, a j (0, none) (omega arith) (omega (arith, entry-count)))))
  words-found (Some i) a =
      let l : i < length kinds = omega (arith, a.0, entry-count) in
      words-here h i l _ refl (entry-at i l true (a.1 (0, none))) ∙ sym (words-passed i (λ j m. (omega arith, a.2 j (0, none) (omega arith) m)))
