-- Question 5 said of texts (01, Opening a text, 5): which texts fit, and the first token that no fitting text could have after those before it. A token is
-- here its bytes, and a text fits by the grammar alone, whatever the other questions say of it. proofs/Fitting.antt shows that this is the place that
-- Grammar.antt gives by kinds. Assumes nothing: these are definitions.
use Rattle.std.specs.Prelude.{◌≡◌, List, map, ℕ, ◌+◌, ◌<◌, ◌≤◌, length, take}
use Rattle.token.specs.Token.{tokens, kinds_of}
use Rattle.token.specs.Contents.{bytes_of}
use Rattle.grammar.specs.Grammar.{Model, Reads}

-- 01, Opening a text, 5: the text fits the grammar
abbrev pub Fits : List ℕ → Type 0
Fits text = (m : Model) × Reads (kinds_of (tokens text)) m

-- the bytes of each token of a text
abbrev pub spellings : List ℕ → List (List ℕ)
spellings text = map (bytes_of text) (tokens text)

-- 01, Opening a text, 5's place, as a token's number
pub record Misfits (text : List ℕ) (k : ℕ) : Type 0 where
  pub inside : k ≤ length (tokens text)
  -- some fitting text has the tokens before it
  pub before : (other : List ℕ) × Fits other × (take k (spellings other) ≡ take k (spellings text))
  -- no fitting text has it after those; where there is none, the text's end is the place
  pub here : k < length (tokens text) → (other : List ℕ) → Fits other → take (k + 1) (spellings other) ≡ take (k + 1) (spellings text) → ⊥
  pub short : Fits text → ⊥
