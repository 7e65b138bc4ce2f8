-- Which model a text holds: questions 2 to 9 of opening (Opening.antt), which list and step ask of the text in a lent model buffer. Definitions only.
use Rattle.std.specs.Prelude.{List, ℕ, Err, Ok}
use Rattle.std.proofs.Math.Option.{Option, none, some}
use Rattle.token.specs.Token.{tokens, kinds_of}
use Rattle.token.specs.Questions.{bytes_judged, Judged}
use Rattle.grammar.specs.Syntax
use Rattle.grammar.specs.Syntax.{syntax_of}
use Rattle.grammar.specs.Verdict.{Verdict, fitting, failing, verdict}
use Rattle.model.specs.Lists.{least}
use Rattle.model.specs.Words.{word_of}
use Rattle.model.specs.Limits.{beyond}
use Rattle.model.specs.Fresh.{not_new}
use Rattle.model.specs.Given.{not_given}
use Rattle.model.specs.Resolved.{Model, resolved}
use Rattle.model.specs.Opening.{Opening, refused, opened, too_many, asked_of_text}

-- 6 to 9 of a text with this syntax tree
unfoldable pub tree_held : List ℕ → Syntax.Model → Opening
tree_held text s =
    asked_of_text text 6 (too_many text)
    (asked_of_text text 7 (least (beyond text s))
    (asked_of_text text 8 (least (not_new (word_of text) s))
    (asked_of_text text 9 (least (not_given (word_of text) s)) (opened (resolved (word_of text) s)))))

unfoldable pub model_in : Opening → Option Model
model_in (refused n p) = none
model_in (opened m) = some m

-- 5
unfoldable pub read_held : List ℕ → Verdict → Option Model
read_held text (fitting d) = model_in (tree_held text (syntax_of d))
read_held text (failing k) = none

-- 2 to 4
unfoldable pub bytes_held : List ℕ → Judged → Option Model
bytes_held text (Err r) = none
bytes_held text (Ok u) = read_held text (verdict (kinds_of (tokens text)))

-- 01, State: a text within questions 2 to 9, and the model that it holds
unfoldable pub held : List ℕ → Option Model
held text = bytes_held text (bytes_judged text)
