-- What the tables of a text that fits hold, before questions 7, 8 and 9 are asked (01, Opening a text). Assumes nothing: these are definitions.
use Rattle.std.specs.Prelude.{◌≡◌, List, ℕ, ◌≤◌, length, take}
use Rattle.token.specs.Token.{tokens, kinds_of}
use Rattle.token.specs.Contents.{lows_of, highs_of}
use Rattle.grammar.specs.Grammar.{Reads}
use Rattle.grammar.specs.Grammar as derived
use Rattle.grammar.specs.Syntax
use Rattle.grammar.specs.Syntax.{syntax_of}
use Rattle.tree.specs.Table
use Rattle.grammar.specs.Limit.{token_limit}

-- three tables begin with the kinds and the contents of the text's n tokens
pub record Tabled (text kinds low high : List ℕ) (n : ℕ) : Type 0 where
  pub count : n ≡ length (tokens text)
  pub kinds-are : take n kinds ≡ kinds_of (tokens text)
  pub lows-are : take n low ≡ lows_of text (tokens text)
  pub highs-are : take n high ≡ highs_of text (tokens text)

-- 01, after question 6: at most 4,096 tokens, the text reads as the syntax tree s, and the table of nodes holds it, with its root
pub record Read (text : List ℕ) (s : Syntax.Model) (kinds low high nodes : List ℕ) (root n : ℕ) : Type 0 where
  pub tabled : Tabled text kinds low high n
  pub few : n ≤ token_limit
  pub reading : derived.Model
  pub reads : Reads (kinds_of (tokens text)) reading
  pub tree : s ≡ syntax_of reading
  pub holds : Table.Model nodes s 0 root
