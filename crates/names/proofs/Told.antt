-- The tables that token::contents and the reader leave are those of a text that reads as a tree: what a caller of `judge_names` needs. From laws of lists.
use mathlib.Core.Path.{◌≡◌, refl, ap, ◌∙◌}
use mathlib.Core.List.{List, ◌++◌}
use Prim.Native.Nat.{ℕ, ◌≤◌}
use native.Mathlib.Omega.{arith}
use lib.ListN.{length, take, drop}
use lib.Seq.{take_all, take-append_seam}
use Rattle.token.specs.Token.{Mark, tokens, kinds_of}
use Rattle.token.specs.Contents.{lows_of, highs_of, low_of, high_of, Held, Told}
use Rattle.grammar.specs.Grammar as derived
use Rattle.grammar.specs.Grammar.{Reads}
use Rattle.grammar.specs.Limit.{token_limit}
use Rattle.grammar.specs.Syntax.{syntax_of}
use Rattle.tree.specs.Table
use Rattle.names.specs.Tables.{Tabled, Read}
use Rattle.names.proofs.Contents.{column-length}

take-front : (n : ℕ) (xs ys : List ℕ) → n ≡ length xs → take n (xs ++ ys) ≡ xs
take-front n xs ys e = ap (λ (k : ℕ). take k (xs ++ ys)) e ∙ take-append_seam xs ys

module _ {text kinds places sizes low high low' high' : List ℕ} {n : ℕ} (all : n ≡ length (tokens text)) (held : Held text kinds places sizes n) (told : Told text low high n low' high') where
  every : take n (tokens text) ≡ tokens text
  every = take_all n (tokens text) (omega arith)

  pub tabled : Tabled text kinds low' high' n
  tabled =
      record {
        count = all;
        kinds-are = held.kinds-are ∙ ap kinds_of every;
        lows-are = ap (take n) (told.lows-are ∙ ap (λ (ms : List Mark). lows_of text ms ++ drop n low) every) ∙ take-front n (lows_of text (tokens text)) (drop n low) (omega (arith, column-length (low_of text) (tokens text)));
        highs-are = ap (take n) (told.highs-are ∙ ap (λ (ms : List Mark). highs_of text ms ++ drop n high) every) ∙ take-front n (highs_of text (tokens text)) (drop n high) (omega (arith, column-length (high_of text) (tokens text)));
      }

  -- with what judge_text says of the first n kinds
  pub read : {nodes : List ℕ} {root : ℕ} (m : derived.Model) → Reads (take n kinds) m → n ≤ token_limit → Table.Model nodes (syntax_of m) 0 root → Read text (syntax_of m) kinds low' high' nodes root n
  read m r l h = record { tabled = tabled; few = l; reading = m; reads = rw tabled.kinds-are at r; tree = refl; holds = h }
