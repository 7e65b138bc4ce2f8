-- What opening a text under the steady profile answers (02, note 11): as opening does, and after 10 question 29. proofs/InOrder.antt shows that this is what the questions
-- say. Assumes nothing: these are definitions.
use Rattle.std.specs.Prelude.{List, ℕ, Some}
use Rattle.token.specs.Token.{tokens, kinds_of}
use Rattle.token.specs.Questions.{First}
use Rattle.grammar.specs.Syntax
use Rattle.grammar.specs.Syntax.{syntax_of}
use Rattle.grammar.specs.Verdict.{Verdict, fitting, failing, verdict}
use Rattle.model.specs.Lists.{least}
use Rattle.model.specs.Words.{word_of}
use Rattle.model.specs.Resolved.{Model}
use Rattle.model.specs.Opening.{Opening, refused, opened, byte_place, asked_of_text, opening}
use Rattle.model.specs.Questions.{Yes5, Answers}
use Rattle.profile.specs.Unsteady.{Offends, unsteady}

-- 02, note 11: 29, asked where 2 to 10 have the answer yes; s: the text's syntax tree
unfoldable pub also_steady : List ℕ → Syntax.Model → Opening → Opening
also_steady text s (refused n p) = refused n p
also_steady text s (opened m) = asked_of_text text 29 (least (unsteady (word_of text) s)) (opened m)

-- of a text's one reading; a text that goes wrong is refused before
unfoldable pub read_steady : List ℕ → Verdict → Opening → Opening
read_steady text (fitting d) o = also_steady text (syntax_of d) o
read_steady text (failing k) o = o

-- 2 to 10, then 29
unfoldable pub opening_steady : List ℕ → Opening
opening_steady text = read_steady text (verdict (kinds_of (tokens text))) (opening text)

-- ---- the first no, with its place, or yes to all

abbrev pub Yes29 : List ℕ → Syntax.Model → Type 0
Yes29 text s = (k : ℕ) → Offends (word_of text) s k → ⊥

pub data AnswersSteady (text : List ℕ) : Opening → Type 0 where
  no2to10 : {n p : ℕ} → Answers text (refused n p) → AnswersSteady text (refused n p)
  no29 : {s : Syntax.Model} {m : Model} {k : ℕ} → Answers text (opened m) → Yes5 text s → First (Offends (word_of text) s) (Some k) → AnswersSteady text (refused 29 (byte_place text k))
  yes_to_all : {s : Syntax.Model} {m : Model} → Answers text (opened m) → Yes5 text s → Yes29 text s → AnswersSteady text (opened m)
