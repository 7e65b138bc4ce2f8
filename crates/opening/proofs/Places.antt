-- The places of tokens: what the table of places says of a token's number, and that filling makes that table.
use mathlib.Core.Path.{◌≡◌, refl, sym, ap, ◌∙◌}
use mathlib.Core.List.{List}
use mathlib.Core.Bool.{Bool, true, false}
use Prim.Native.Nat.{ℕ, ◌≤◌, ◌<◌}
use native.Mathlib.Omega.{arith}
use borrow.Author.Tests.{lt-ltb, le-ltb, leb-true, leb-false}
use lib.Dec.{leb}
use lib.ListN.{length, get_or, take, drop, length-append}
use lib.Seq.{take_at, take_all}
use Rattle.std.specs.Prelude.{Ok}
use Rattle.token.specs.Questions.{text_limit, bytes_judged}
use Rattle.token.specs.Token.{tokens, kinds_of, places_of, Filled}
use Rattle.token.proofs.Asks.{refused-length}
use Rattle.token.proofs.Marks.{column-length}
use Rattle.model.specs.Words.{place_of}
use Rattle.model.specs.Opening.{byte_place}
use Rattle.names.proofs.Contents.{tabled-at}
use Rattle.opening.specs.Trees.{Placed}

module _ (text : List ℕ) {places : List ℕ} (h : Placed text places) (k : ℕ) where
  placed-count : length places ≡ length (tokens text)
  placed-count = ap length h ∙ column-length (λ m. m.place) (tokens text)

  placed-all : take (length places) places ≡ places_of (tokens text)
  placed-all = take_all (length places) places (omega arith) ∙ h

  pub place_here : k < length places → get_or places k 0 ≡ byte_place text k
  unfolding byte_place place_of
  place_here l =
      let q : k < length (tokens text) = omega (arith, placed-count) in
      simp (lt-ltb k (length (tokens text)) q) (tabled-at places (tokens text) (λ m. m.place) placed-count placed-all k l).1

  pub place_end : length places ≤ k → length text ≡ byte_place text k
  unfolding byte_place
  place_end l =
      let q : length (tokens text) ≤ k = omega (arith, placed-count) in
      simp (le-ltb k (length (tokens text)) q)

-- question 2 was asked
pub passed-short : (s : List ℕ) → Ok tt ≡ bytes_judged s → length s ≤ text_limit
passed-short s e = by (leb (length s) text_limit) refl
  where
    by : (b : Bool) → leb (length s) text_limit ≡ b → length s ≤ text_limit
    by true q = leb-true (length s) text_limit q
    by false q = absurd (let r = refused-length s (leb-false (length s) text_limit q) ∙ sym e in let z : ◌≡◌ {A = ℕ} 0 1 = cc in omega arith)

module _ {text kinds₀ places₀ sizes₀ : List ℕ} {n : ℕ} {kinds places sizes : List ℕ} (f : Filled text kinds₀ places₀ sizes₀ n kinds places sizes) where
  pub filled-kinds : n ≤ length kinds
  filled-kinds = omega (arith, f.count, ap length f.kinds-are, length-append (kinds_of (tokens text)) (drop n kinds₀), column-length (λ m. m.kind) (tokens text))

  pub filled-places : n ≤ length places
  filled-places = omega (arith, f.count, ap length f.places-are, length-append (places_of (tokens text)) (drop n places₀), column-length (λ m. m.place) (tokens text))

  -- the tokens are those of the table's front
  pub filled-tokens : take n kinds ≡ kinds_of (tokens text)
  filled-tokens = ap (take n) f.kinds-are ∙ take_at (kinds_of (tokens text)) (drop n kinds₀) n (column-length (λ m. m.kind) (tokens text) ∙ sym f.count)

  pub filled-placed : Placed text (take n places)
  filled-placed = ap (take n) f.places-are ∙ take_at (places_of (tokens text)) (drop n places₀) n (column-length (λ m. m.place) (tokens text) ∙ sym f.count)
