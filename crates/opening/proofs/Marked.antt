-- The words of a text's tokens stand where the tables of places and sizes say; tokens past the last have no bytes.
use mathlib.Core.Path.{◌≡◌, refl, sym, ap, ◌∙◌}
use mathlib.Core.List.{List, [], ◌∷◌, ◌++◌}
use Prim.Native.Nat.{ℕ, zero, suc, ◌+◌, ◌≤◌}
use native.Mathlib.Omega.{arith}
use lib.ListN.{length, get_or, take, drop, replicate, length-append}
use Rattle.std.specs.Prelude.{Err, Ok}
use Rattle.opening.specs.Models.{Held}
use Rattle.opening.specs.Trees.{Tree}
use Rattle.token.specs.declared.Refusal.{Refusal}
use Rattle.token.specs.Token.{Mark, tokens, column, places_of, sizes_of, Filled}
use Rattle.token.specs.Tiling.{Tiled}
use Rattle.token.proofs.Marks.{column-length}
use Rattle.token.proofs.Tiles.{tiled}
use Rattle.model.specs.Words.{nth, word_of}
use Rattle.tables.specs.Spelled.{Spells}
use Rattle.opening.specs.declared.SyntaxTree.{SyntaxTree}
use Rattle.opening.specs.declared.SoundTree.{SoundTree}
use Rattle.opening.specs.Sound.{SoundOr}
use Rattle.opening.specs.Marked.{Marked, TreeMarked, SoundMarked, ModelMarked}

-- ---- the returns of `read_tokens`, `read_tree`, `read_sound` and `read_model`

pub filled-marked : {text kinds₀ places₀ sizes₀ : List ℕ} {n : ℕ} {kinds places sizes : List ℕ} → Filled text kinds₀ places₀ sizes₀ n kinds places sizes → Marked text places₀ sizes₀ places sizes
filled-marked {text} {kinds₀} {places₀} {sizes₀} f =
    record {
      places-are = f.places-are ∙ ap (λ (k : ℕ). places_of (tokens text) ++ drop k places₀) f.count;
      sizes-are = f.sizes-are ∙ ap (λ (k : ℕ). sizes_of (tokens text) ++ drop k sizes₀) f.count;
    }

module _ (text places sizes places' sizes' : List ℕ) where
  pub tree-unmarked : (r : Refusal) → TreeMarked text places sizes places' sizes' (Err r)
  unfolding TreeMarked
  tree-unmarked r = tt

  pub sound-unmarked : (r : Refusal) → SoundMarked text places sizes places' sizes' (Err r)
  unfolding SoundMarked
  sound-unmarked r = tt

  pub model-unmarked : (r : Refusal) → ModelMarked text places sizes places' sizes' (Err r)
  unfolding ModelMarked
  model-unmarked r = tt

module _ {text places sizes places' sizes' : List ℕ} where
  pub tree-marked : (r : Tree) → Marked text places sizes places' sizes' → TreeMarked text places sizes places' sizes' r
  unfolding TreeMarked
  tree-marked (Err r) m = tt
  tree-marked (Ok t) m = m

  pub fits-marked : {r : Tree} {t : SyntaxTree} → TreeMarked text places sizes places' sizes' r → r ≡ Ok t → Marked text places sizes places' sizes'
  unfolding TreeMarked
  fits-marked m e = rw e at m

  pub sound-marked : (r : SoundOr) → Marked text places sizes places' sizes' → SoundMarked text places sizes places' sizes' r
  unfolding SoundMarked
  sound-marked (Err r) m = tt
  sound-marked (Ok t) m = m

  pub names-marked : {r : SoundOr} {t : SoundTree} → SoundMarked text places sizes places' sizes' r → r ≡ Ok t → Marked text places sizes places' sizes'
  unfolding SoundMarked
  names-marked m e = rw e at m

  pub model-marked : (r : Held) → Marked text places sizes places' sizes' → ModelMarked text places sizes places' sizes' r
  unfolding ModelMarked
  model-marked (Err r) m = tt
  model-marked (Ok f) m = m

-- ---- tables that were zero

zeros-drop : (k n i : ℕ) → ◌≡◌ {A = ℕ} (get_or (drop k (replicate n 0)) i 0) 0
zeros-drop zero zero i = refl
zeros-drop zero (suc n) zero = refl
zeros-drop zero (suc n) (suc i) = zeros-drop zero n i
zeros-drop (suc k) zero i = refl
zeros-drop (suc k) (suc n) i = zeros-drop k n i

-- a column and then zeros tell every token, those past the last too
nth-all : (f : Mark → ℕ) (zs : List ℕ) → ((i : ℕ) → get_or zs i 0 ≡ 0) → f (record { kind = 0; place = 0; size = 0 }) ≡ 0 → (ms : List Mark) (i : ℕ) → get_or (column f ms ++ zs) i 0 ≡ f (nth ms i)
unfolding column nth
nth-all f zs z e [] i = z i ∙ sym e
nth-all f zs z e (m ∷ ms) zero = refl
nth-all f zs z e (m ∷ ms) (suc i) = nth-all f zs z e ms i

inside-from : (text : List ℕ) (from : ℕ) (ms : List Mark) → Tiled text from ms → (i : ℕ) → (nth ms i).place + (nth ms i).size ≤ length text
unfolding nth
inside-from text from [] t i = omega arith
inside-from text from (m ∷ ms) t zero = t.0.inside
inside-from text from (m ∷ ms) t (suc i) = inside-from text (m.place + m.size) ms t.1 i

module _ (n : ℕ) {text places sizes : List ℕ} (m : Marked text (replicate n 0) (replicate n 0) places sizes) where
  place_is : (i : ℕ) → get_or places i 0 ≡ (nth (tokens text) i).place
  place_is i = ap (λ (xs : List ℕ). get_or xs i 0) m.places-are ∙ nth-all (λ (x : Mark). x.place) _ (zeros-drop (length (tokens text)) n) refl (tokens text) i

  size_is : (i : ℕ) → get_or sizes i 0 ≡ (nth (tokens text) i).size
  size_is i = ap (λ (xs : List ℕ). get_or xs i 0) m.sizes-are ∙ nth-all (λ (x : Mark). x.size) _ (zeros-drop (length (tokens text)) n) refl (tokens text) i

  pub spells : Spells (word_of text) text places sizes
  unfolding word_of
  spells =
      record {
        alike = omega (arith, ap length m.places-are, ap length m.sizes-are, length-append (places_of (tokens text)) (drop (length (tokens text)) (replicate n 0)), length-append (sizes_of (tokens text)) (drop (length (tokens text)) (replicate n 0)), column-length (λ (x : Mark). x.place) (tokens text), column-length (λ (x : Mark). x.size) (tokens text));
        within = λ i. omega (arith, place_is i, size_is i, inside-from text 0 (tokens text) (tiled text) i);
        word = λ i. sym (ap (λ (k : ℕ). take k (drop (get_or places i 0) text)) (size_is i) ∙ ap (λ (k : ℕ). take (nth (tokens text) i).size (drop k text)) (place_is i));
      }
