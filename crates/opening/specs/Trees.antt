-- What reading a text's tree answers: questions 2 to 6 (01, Opening a text). Assumes nothing: these are definitions.
use Rattle.std.specs.Prelude.{◌≡◌, List, ℕ, ◌≤◌, ◌<◌, length, take, Err, Ok, Result}
use Rattle.std.proofs.Math.Option.{none}
use Rattle.token.specs.declared.Content.{Content}
use Rattle.token.specs.Contents.{lows_in, highs_in}
use Rattle.token.specs.Token.{tokens, places_of}
use Rattle.token.specs.declared.Refusal.{Refusal}
use Rattle.token.specs.Questions.{text_limit, question_number}
use Rattle.grammar.specs.Limit.{token_limit}
use Rattle.grammar.specs.Syntax
use Rattle.model.specs.Opening.{refused, tree_judged, opening}
use Rattle.model.specs.Held.{tree_held, model_in, held}
use Rattle.names.specs.Tables.{Read}
use Rattle.opening.specs.declared.SyntaxTree.{SyntaxTree}

-- a table has the places of the text's tokens (01, Model text)
abbrev pub Placed : (text places : List ℕ) → Type 0
Placed text places = places ≡ places_of (tokens text)

-- 01, Opening a text: the answer no to question n at the byte p, and no model
pub record Closed (text : List ℕ) (n p : ℕ) : Type 0 where
  pub opens : opening text ≡ refused n p
  pub holds : held text ≡ none

-- 01, after question 6: the text has the syntax tree s, the tables hold its tokens and its tree, and 7 to 10 are asked of s
pub record Fitted (text : List ℕ) (s : Syntax.Model) (kinds places : List ℕ) (contents : List Content) (nodes : List ℕ) (root : ℕ) : Type 0 where
  pub read : Read text s kinds (lows_in contents) (highs_in contents) nodes root (length kinds)
  pub placed : Placed text places
  pub fewer : root < length kinds
  pub opens : opening text ≡ tree_judged text s
  pub holds : held text ≡ model_in (tree_held text s)

-- 01, Opening a text: tables with room for every text, for reading its tree
pub record Room (kinds places sizes : List ℕ) (contents : List Content) (nodes : List ℕ) : Type 0 where
  pub kinds-room : text_limit ≤ length kinds
  pub places-room : text_limit ≤ length places
  pub sizes-room : text_limit ≤ length sizes
  pub contents-room : token_limit ≤ length contents
  pub nodes-room : token_limit ≤ length nodes

-- 01, after question 6: the same of tables that may go on past the text's n tokens
pub record FittedIn (text : List ℕ) (s : Syntax.Model) (kinds places : List ℕ) (contents : List Content) (nodes : List ℕ) (root n : ℕ) : Type 0 where
  pub count : n ≡ length (tokens text)
  pub cut : Fitted text s (take n kinds) (take n places) contents nodes root

-- the root of the tree and the number of tokens, or the first no to 2 to 6
abbrev pub Tree : Type 0
Tree = Result SyntaxTree Refusal

-- 01, Opening a text, 2 to 6: the first no with its place, or the text's tree
unfoldable pub TreeRead : (text kinds places : List ℕ) → List Content → (nodes : List ℕ) → Tree → Type 0
TreeRead text kinds places contents nodes (Err r) = Closed text (question_number r.question) r.place
TreeRead text kinds places contents nodes (Ok t) = (s : Syntax.Model) × FittedIn text s kinds places contents nodes t.root t.tokens
