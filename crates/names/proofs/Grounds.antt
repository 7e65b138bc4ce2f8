-- What the tables of a text that reads as a syntax tree tell of it: the ground that the walks stand on. From how tokens are made, and where the parts of the tree
-- are written.
use mathlib.Core.Path.{◌≡◌, refl, sym, ap, ap₂, ◌∙◌, subst}
use mathlib.Core.List.{List, [], ◌∷◌}
use mathlib.Core.Bool.{Bool, true, false}
use Prim.Native.Nat.{ℕ, zero, suc, ◌≤◌, ◌<◌, min}
use native.Mathlib.Omega.{arith}
use borrow.Author.Tests.{eq-eqb, eqb-true, eqb-false, ltb-false, ltb-true}
use lib.Dec.{eqb, ltb}
use lib.ListN.{length, get_or, take, length-take, get_or-eq_default}
use Rattle.std.specs.Prelude.{None}
use Rattle.word.specs.Name.{longest, Plain, name_of}
use Rattle.word.specs.Number.{worth, cap}
use Rattle.word.proofs.Packs.{first, second, short-is, same_name}
use Rattle.token.specs.declared.Content.{Content}
use Rattle.token.specs.Kind as kind
use Rattle.token.specs.Token.{Mark, tokens, kinds_of, same_bytes}
use Rattle.token.specs.Contents.{words_of, name_content, content_of, bytes_of, low_of, high_of}
use Rattle.token.specs.Tiling.{Lexeme}
use Rattle.token.proofs.Words.{same-is, is_same_lem}
use Rattle.grammar.specs.Syntax
use Rattle.grammar.specs.Syntax.{syntax_of}
use Rattle.grammar.proofs.Follows.{inside}
use Rattle.model.specs.Lists.{least, when}
use Rattle.model.specs.Words.{nth, word_of, same}
use Rattle.model.specs.Limits.{word_beyond, words_beyond}
use Rattle.model.proofs.Tokens.{close-bytes, bytes-close}
use Rattle.names.specs.declared.Question.{Question}
use Rattle.names.specs.declared.Lists.{Lists}
use Rattle.names.specs.Faults.{asks_names}
use Rattle.names.specs.Lists.{packed, Gathered}
use Rattle.names.specs.Placed.{IsName, Fits}
use Rattle.names.specs.Settings.{World}
use Rattle.names.specs.Tables.{Tabled, Read}
use Rattle.names.specs.Walks.{Closes, Ground}
use Rattle.names.proofs.Earliest.{least-none, none_left, none_right}
use Rattle.names.proofs.Contents.{made, name-plain, of-name, of-whole, nth-column, column-length, tabled-at}
use Rattle.names.proofs.Written.{all_fit}

-- ---- tokens by their numbers
kind_at : (ms : List Mark) (k : ℕ) → k < length ms → get_or (kinds_of ms) k 0 ≡ (nth ms k).kind
kind_at ms k l = nth-column (λ m. m.kind) ms k l

kind-inside : (ms : List Mark) (k : ℕ) → 0 < get_or (kinds_of ms) k 0 → k < length ms
kind-inside ms k h = omega (arith, inside (kinds_of ms) k h, column-length (λ m. m.kind) ms)

-- ---- a closing bracket
past_end : (text : List ℕ) (ms : List Mark) (k : ℕ) → length ms ≤ k → bytes_of text (nth ms k) ≡ []
unfolding nth
past_end text [] k l = refl
past_end text (m ∷ ms) zero l = absurd (omega arith)
past_end text (m ∷ ms) (suc k) l = past_end text ms k (omega arith)

close-is : (x : ℕ) (s : List ℕ) → Lexeme x s → eqb x kind.close_round ≡ same_bytes s (kind.close_round ∷ [])
close-is x s l = by (eqb x kind.close_round) refl (same_bytes s (kind.close_round ∷ [])) refl
  where
    by : (a : Bool) → eqb x kind.close_round ≡ a → (b : Bool) → same_bytes s (kind.close_round ∷ []) ≡ b → a ≡ b
    by true e true f = refl
    by true e false f =
        let q = eqb-true x kind.close_round e in
        let z = close-bytes (subst (λ (y : ℕ). Lexeme y s) q l) in
        absurd (let c : true ≡ false = sym (is_same_lem (kind.close_round ∷ [])) ∙ ap (λ (y : List ℕ). same_bytes y (kind.close_round ∷ [])) (sym z) ∙ f in let d : ◌≡◌ {A = ℕ} 0 1 = cc in omega arith)
    by false e true f = absurd (let q = bytes-close (same-is s (kind.close_round ∷ []) f) l in eqb-false x kind.close_round e q)
    by false e false f = refl

none-close : same_bytes [] (kind.close_round ∷ []) ≡ false
unfolding same_bytes
none-close = refl

pub closes_in : (text : List ℕ) → Closes (kinds_of (tokens text)) (word_of text)
unfolding word_of
closes_in text k = by (ltb k (length (tokens text))) refl
  where
    by : (b : Bool) → ltb k (length (tokens text)) ≡ b → eqb (get_or (kinds_of (tokens text)) k 0) kind.close_round ≡ same_bytes (bytes_of text (nth (tokens text) k)) (kind.close_round ∷ [])
    by true e =
        let l = ltb-true k (length (tokens text)) e in
        rw (kind_at (tokens text) k l) (close-is (nth (tokens text) k).kind (bytes_of text (nth (tokens text) k)) (made text k l))
    by false e =
        let l = ltb-false k (length (tokens text)) e in
        let z = get_or-eq_default (kinds_of (tokens text)) 0 {n = k} (omega (arith, column-length (λ m. m.kind) (tokens text))) in
        rw (z, past_end text (tokens text) k l) (sym none-close)

-- ---- names of at most 16 bytes
short-words : (text : List ℕ) (k : ℕ) (ms : List Mark) → words_beyond text k ms ≡ [] → (i : ℕ) → i < length ms → word_beyond text (nth ms i) ≡ false
unfolding words_beyond nth when
short-words text k [] e i l = absurd (omega arith)
short-words text k (m ∷ ms) e zero l = by (word_beyond text m) (none_left (when (word_beyond text m) k) (words_beyond text (suc k) ms) e)
  where
    by : (b : Bool) → when b k ≡ [] → b ≡ false
    by true q = absurd (let z : ◌≡◌ {A = ℕ} 0 1 = cc in omega arith)
    by false q = refl
short-words text k (m ∷ ms) e (suc i) l = short-words text (suc k) ms (none_right (when (word_beyond text m) k) (words_beyond text (suc k) ms) e) i (omega arith)

few_bytes : (text : List ℕ) (m : Mark) → m.kind ≡ kind.name → word_beyond text m ≡ false → length (bytes_of text m) ≤ longest
unfolding word_beyond
few_bytes text m e q = ltb-false longest (length (bytes_of text m)) (simp (eq-eqb m.kind kind.name e) at q)

module _ {text kinds low high : List ℕ} {n : ℕ} (h : Tabled text kinds low high n) (short : least (words_beyond text 0 (tokens text)) ≡ None) where
  module _ (k : ℕ) (e : IsName (kinds_of (tokens text)) k) where
    name_in : k < length (tokens text)
    name_in = kind-inside (tokens text) k (omega arith)

    is_name : (nth (tokens text) k).kind ≡ kind.name
    is_name = sym (kind_at (tokens text) k name_in) ∙ e

    name-bytes : Plain (word_of text k) × (length (word_of text k) ≤ longest)
    unfolding word_of
    name-bytes = (
      (name-plain (made text k name_in) is_name).0,
      few_bytes text (nth (tokens text) k) is_name (short-words text 0 (tokens text) (least-none (words_beyond text 0 (tokens text)) short) k name_in),
    )

    name-content : content_of (nth (tokens text) k).kind (bytes_of text (nth (tokens text) k)) ≡ words_of (name_of (word_of text k))
    unfolding word_of name_content
    name-content = of-name (nth (tokens text) k).kind (bytes_of text (nth (tokens text) k)) is_name

    packed-is : packed low high k ≡ first (word_of text k) ∷ second (word_of text k) ∷ []
    unfolding packed words_of
    packed-is =
        let l : k < n = omega (arith, name_in, h.count) in
        let c = name-content ∙ ap words_of (short-is (word_of text k) name-bytes.1) in
        let a = (tabled-at low (tokens text) (low_of text) h.count h.lows-are k l).1 ∙ ap (λ (x : Content). x.low) c in
        let b = (tabled-at high (tokens text) (high_of text) h.count h.highs-are k l).1 ∙ ap (λ (x : Content). x.high) c in
        ap₂ (λ (x y : ℕ). x ∷ y ∷ []) a b

  pub alike-names : (j k : ℕ) → IsName (kinds_of (tokens text)) j → IsName (kinds_of (tokens text)) k → same (packed low high) j k ≡ same (word_of text) j k
  unfolding same
  alike-names j k d e = rw (packed-is j d, packed-is k e) (by (same_bytes (word_of text j) (word_of text k)) refl (same_bytes ps qs) refl)
    where
      ps : List ℕ
      ps = first (word_of text j) ∷ second (word_of text j) ∷ []

      qs : List ℕ
      qs = first (word_of text k) ∷ second (word_of text k) ∷ []

      same-words : ps ≡ qs → word_of text j ≡ word_of text k
      same-words z =
          let a = name-bytes j d in
          let b = name-bytes k e in
          let x : first (word_of text j) ≡ first (word_of text k) = cc in
          let y : second (word_of text j) ≡ second (word_of text k) = cc in
          same_name (word_of text j) (word_of text k) a.0 b.0 a.1 b.1 (short-is (word_of text j) a.1 ∙ rw (x, y) (sym (short-is (word_of text k) b.1)))

      never : true ≡ false → ⊥
      never z = let d : ◌≡◌ {A = ℕ} 0 1 = cc in omega arith

      by : (b : Bool) → same_bytes (word_of text j) (word_of text k) ≡ b → (a : Bool) → same_bytes ps qs ≡ a → a ≡ b
      by true f true g = refl
      by true f false g =
          let w = same-is (word_of text j) (word_of text k) f in
          let z : ps ≡ qs = ap (λ (s : List ℕ). first s ∷ second s ∷ []) w in
          absurd (never (sym (is_same_lem qs) ∙ ap (λ (s : List ℕ). same_bytes s qs) (sym z) ∙ g))
      by false f true g =
          let w = same-words (same-is ps qs g) in
          absurd (never (sym (is_same_lem (word_of text k)) ∙ ap (λ (s : List ℕ). same_bytes s (word_of text k)) (sym w) ∙ f))
      by false f false g = refl

-- ---- the ground
module _ {text : List ℕ} {s : Syntax.Model} {kinds low high nodes : List ℕ} {root n : ℕ} (h : Read text s kinds low high nodes root n) where
  abbrev ts : List ℕ
  ts = kinds_of (tokens text)

  pub counts : length ts ≡ n
  counts = column-length (λ m. m.kind) (tokens text) ∙ sym h.tabled.count

  pub kinds-there : n ≤ length kinds
  kinds-there = omega (arith, length-take n kinds, ap length h.tabled.kinds-are, counts)

  pub lows-there : n ≤ length low
  lows-there = omega (arith, length-take n low, ap length h.tabled.lows-are, column-length (low_of text) (tokens text), h.tabled.count)

  pub highs-there : n ≤ length high
  highs-there = omega (arith, length-take n high, ap length h.tabled.highs-are, column-length (high_of text) (tokens text), h.tabled.count)

  pub numbers-there : (k : ℕ) → get_or ts k 0 ≡ kind.whole → get_or low k 0 ≡ min cap (worth 0 (word_of text k))
  unfolding word_of
  numbers-there k e =
      let l = kind-inside (tokens text) k (omega arith) in
      (tabled-at low (tokens text) (low_of text) h.tabled.count h.tabled.lows-are k (omega (arith, h.tabled.count))).1
      ∙ of-whole (nth (tokens text) k).kind (bytes_of text (nth (tokens text) k)) (sym (kind_at (tokens text) k l) ∙ e)

  pub tokens-fit : (i : ℕ) → i ≤ root → Fits ts (get_or nodes i 0)
  tokens-fit = all_fit ts nodes h.reading root h.reads (rw h.tree at h.holds)

  pub toks-are : (toks : List ℕ) → toks ≡ take n kinds → Closes toks (word_of text)
  toks-are toks e = rw (e ∙ h.tabled.kinds-are) (closes_in text)

  module _ (question : Question) (short : asks_names question ≡ true → least (words_beyond text 0 (tokens text)) ≡ None) (lists : Lists) (gathered : Gathered s root lists) (toks : List ℕ) (toks-is : toks ≡ take n kinds) where
    unfoldable pub world : World question low high nodes lists
    world =
        record {
          word = word_of text;
          kinds = ts;
          model = s;
          few = omega (arith, counts, h.few);
          lows = omega (arith, counts, lows-there);
          highs = omega (arith, counts, highs-there);
          numbers = numbers-there;
          alike = λ a. alike-names h.tabled (short a);
          holds = rw gathered.root_is h.holds;
          gathered = record { root_is = refl; variables-are = gathered.variables-are; definitions-are = gathered.definitions-are };
          placed = λ i l. tokens-fit i (omega (arith, gathered.root_is));
        }

    unfoldable pub ground : Ground question toks low high nodes lists
    unfolding world
    ground = record { world = world; closes = toks-are toks toks-is }
