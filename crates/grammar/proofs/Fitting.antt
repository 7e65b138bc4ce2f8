-- Question 5's place, given by kinds of tokens, is its place said of texts: what begins a fitting list of kinds is begun by a fitting text with the very same tokens,
-- which then has some token of each further kind. From Spelled.antt and Used.antt.
use mathlib.Core.Path.{◌≡◌, refl, sym, ap, ap₂, subst, ◌∙◌}
use mathlib.Core.List.{List, [], ◌∷◌, ◌++◌, map, map-append}
use mathlib.Core.Logic.{◌⊎◌, inl, inr, ◌↔◌}
use Prim.Native.Nat.{ℕ, zero, suc, ◌+◌, ◌<◌, ◌≤◌}
use native.Mathlib.Decide.{dec_lt}
use native.Mathlib.Omega.{arith}
use lib.ListN.{length, get_or, take, drop, take-append-drop}
use lib.Seq.{take-take}
use Rattle.token.specs.Token.{Mark, tokens, kinds_of, column}
use Rattle.token.specs.Contents.{bytes_of}
use Rattle.token.specs.Tiling.{Lexeme, Tiled}
use Rattle.token.proofs.Tiles.{tiled}
use Rattle.grammar.specs.Grammar.{Model, Reads, Viable, Wrong}
use Rattle.grammar.specs.Fitting.{Fits, spellings, Misfits}
use Rattle.grammar.proofs.Judged.{judged}
use Rattle.grammar.proofs.Spelled.{Spelt, kinds, words, written, kinds-are, words_are, spelt_in, kinds-in, words-in}
use Rattle.grammar.proofs.Used.{fits-used, used-back, spelt-as}

-- ---- lists

take-map : {A B : Type 0} (f : A → B) (n : ℕ) (l : List A) → take n (map f l) ≡ map f (take n l)
take-map f zero l = refl
take-map f (suc n) [] = refl
take-map f (suc n) (x ∷ l) = ap (λ (t : List _). f x ∷ t) (take-map f n l)

take_again : (n : ℕ) (l r : List (List ℕ)) → n ≤ length l → take n (take n l ++ r) ≡ take n l
take_again zero l r g = refl
take_again (suc n) [] r g = absurd (omega arith)
take_again (suc n) (y ∷ l) r g = ap (λ (t : List (List ℕ)). y ∷ t) (take_again n l r (omega arith))

length-words : (f : Mark → List ℕ) (ms : List Mark) → length (map f ms) ≡ length ms
length-words f [] = refl
length-words f (m ∷ ms) = let h = length-words f ms in omega arith

length-kinds : (ms : List Mark) → length (kinds_of ms) ≡ length ms
unfolding column
length-kinds [] = refl
length-kinds (m ∷ ms) = let h = length-kinds ms in omega arith

-- ---- some text begins with these tokens

-- for every list of kinds that a tree is written as, there is a text whose tokens have them
pub text_of : (ts : List ℕ) (m : Model) → Reads ts m → (text : List ℕ) × (kinds_of (tokens text) ≡ ts)
text_of ts m r = let x = spelt-as ts (fits-used ts m r) in (written x.0, kinds-are x.0 ∙ x.1)

module _ (text : List ℕ) where
  abbrev ts : List ℕ
  ts = kinds_of (tokens text)

  abbrev own : List Spelt
  own = spelt_in text 0 (tokens text) (tiled text)

  own-kinds : kinds own ≡ ts
  own-kinds = kinds-in text 0 (tokens text) (tiled text)

  own-words : words own ≡ spellings text
  own-words = words-in text 0 (tokens text) (tiled text)

  -- the first k tokens, then others
  module _ (k : ℕ) (h : k ≤ length (tokens text)) (xs : List Spelt) where
    abbrev both : List Spelt
    both = take k own ++ xs

    both-kinds : kinds_of (tokens (written both)) ≡ take k ts ++ kinds xs
    both-kinds = kinds-are both ∙ map-append (λ y. y.kind) (take k own) xs ∙ ap (λ (l : List ℕ). l ++ kinds xs) (sym (take-map (λ y. y.kind) k own) ∙ ap (take k) own-kinds)

    both_words : take k (spellings (written both)) ≡ take k (spellings text)
    both_words =
        ap (take k) (words_are both ∙ map-append (λ y. y.bytes) (take k own) xs ∙ ap (λ (l : List (List ℕ)). l ++ words xs) (sym (take-map (λ y. y.bytes) k own) ∙ ap (take k) own-words))
        ∙ take_again k (spellings text) (words xs) (omega (arith, length-words (bytes_of text) (tokens text)))

  -- what begins a fitting list of kinds is begun by a fitting text with the same tokens
  pub begun : (k : ℕ) → k ≤ length (tokens text) → Viable (take k ts) → (other : List ℕ) × Fits other × (take k (spellings other) ≡ take k (spellings text))
  unfolding Viable
  begun k h (m, more, r) =
      let x = spelt-as more (used-back (take k ts) more (fits-used _ m r)) in
      (written (both k h x.0), (m, subst (λ (l : List ℕ). Reads l m) (sym (both-kinds k h x.0 ∙ ap (λ (l : List ℕ). take k ts ++ l) x.1)) r), both_words k h x.0)

-- ---- the bytes of tokens tell their kinds

same_kind : (k j : ℕ) (s : List ℕ) → Lexeme k s → Lexeme j s → k ≡ j
same_kind k j s x y =
    let e = sym (kinds-are (record { kind = k; bytes = s; made = x } ∷ [])) ∙ kinds-are (record { kind = j; bytes = s; made = y } ∷ []) in
    ap (λ (l : List ℕ). get_or l 0 0) e

told-from : (text other : List ℕ) (i j n : ℕ) (ms ns : List Mark) → Tiled text i ms → Tiled other j ns → take n (map (bytes_of text) ms) ≡ take n (map (bytes_of other) ns) → take n (kinds_of ms) ≡ take n (kinds_of ns)
unfolding column
told-from text other i j zero ms ns h g e = refl
told-from text other i j (suc n) [] [] h g e = refl
told-from text other i j (suc n) [] (y ∷ ns) h g e = absurd (let z = ap length e in omega arith)
told-from text other i j (suc n) (x ∷ ms) [] h g e = absurd (let z = ap length e in omega arith)
told-from text other i j (suc n) (x ∷ ms) (y ∷ ns) h g e =
    let s : bytes_of text x ≡ bytes_of other y = cc in
    let r : take n (map (bytes_of text) ms) ≡ take n (map (bytes_of other) ns) = cc in
    ap₂ (λ (a : ℕ) (l : List ℕ). a ∷ l) (same_kind x.kind y.kind (bytes_of other y) (subst (λ (l : List ℕ). Lexeme x.kind l) s h.0.made) g.0.made)
    (told-from text other (x.place + x.size) (y.place + y.size) n ms ns h.1 g.1 r)

told : (text other : List ℕ) (n : ℕ) → take n (spellings other) ≡ take n (spellings text) → take n (kinds_of (tokens other)) ≡ take n (kinds_of (tokens text))
told text other n e = told-from other text 0 0 n (tokens other) (tokens text) (tiled other) (tiled text) e

-- ---- the place

-- tokens that a fitting text has begin a fitting list of kinds
begins-so : (text other : List ℕ) (n : ℕ) → Fits other → take n (spellings other) ≡ take n (spellings text) → Viable (take n (kinds_of (tokens text)))
unfolding Viable
begins-so text other n (m, r) e =
    (m, drop n (kinds_of (tokens other)), subst (λ (l : List ℕ). Reads l m) (sym (take-append-drop n (kinds_of (tokens other))) ∙ ap (λ (l : List ℕ). l ++ drop n (kinds_of (tokens other))) (told text other n e)) r)

module _ (text : List ℕ) where
  pub misfits : (k : ℕ) → Wrong (kinds_of (tokens text)) k → Misfits text k
  misfits k w =
      let n = length-kinds (tokens text) in
      record {
        inside = omega (arith, w.inside);
        before = begun text k (omega (arith, w.inside)) w.before;
        here = λ h other f e. w.here (omega arith) (begins-so text other (k + 1) f e);
        short = λ f. w.short f.0 f.1;
      }

  not_after : (j k : ℕ) → Misfits text j → Misfits text k → j < k → ⊥
  not_after j k v w h =
      let b = w.before in
      v.here (omega (arith, w.inside)) b.0 b.1
      (sym (take-take (j + 1) k (spellings b.0) (omega arith)) ∙ ap (take (j + 1)) b.2 ∙ take-take (j + 1) k (spellings text) (omega arith))

  -- a text misfits at one place only
  pub misfits-once : (j k : ℕ) → Misfits text j → Misfits text k → j ≡ k
  misfits-once j k v w = by (dec_lt j k) (dec_lt k j)
    where
      by : Dec (j < k) → Dec (k < j) → j ≡ k
      by (yes h) d = absurd (not_after j k v w h)
      by (no h) (yes g) = absurd (not_after k j w v g)
      by (no h) (no g) = omega arith

  -- question 5's place is the first token that no fitting text could have after those before it
  pub place-of-texts : (k : ℕ) → Wrong (kinds_of (tokens text)) k ↔ Misfits text k
  place-of-texts k = (misfits k, back)
    where
      by : Misfits text k → ((m : Model) × Reads (kinds_of (tokens text)) m) ⊎ ((j : ℕ) × Wrong (kinds_of (tokens text)) j) → Wrong (kinds_of (tokens text)) k
      by w (inl f) = absurd (w.short f)
      by w (inr (j, v)) = subst (λ (i : ℕ). Wrong (kinds_of (tokens text)) i) (misfits-once j k (misfits j v) w) v

      back : Misfits text k → Wrong (kinds_of (tokens text)) k
      back w = by w (judged (kinds_of (tokens text)))
