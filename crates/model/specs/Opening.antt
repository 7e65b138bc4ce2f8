-- What opening a text answers, questions 2 to 10 in order (01, Opening a text): a number with a byte's place, or the model. Assumes nothing: these are definitions.
use Rattle.std.specs.Prelude.{List, [], ◌∷◌, cond, ℕ, zero, suc, ◌+◌, ◌*◌, leb, ltb, length, None, Some, Err, Ok}
use Rattle.token.specs.Token.{tokens, kinds_of}
use Rattle.token.specs.Questions.{bytes_judged, Found, Judged}
use Rattle.grammar.specs.Limit.{token_limit}
use Rattle.grammar.specs.Syntax
use Rattle.grammar.specs.Syntax.{syntax_of}
use Rattle.grammar.specs.Verdict.{Verdict, fitting, failing, verdict}
use Rattle.model.specs.Lists.{least}
use Rattle.model.specs.Sites.{system}
use Rattle.model.specs.Words.{place_of, word_of}
use Rattle.model.specs.Limits.{beyond}
use Rattle.model.specs.Fresh.{not_new}
use Rattle.model.specs.Given.{not_given}
use Rattle.model.specs.Resolved.{Model, Defined, Start, resolved}

-- 10, 18: how many processes there may be
abbrev pub process_limit : ℕ
process_limit = 256

pub data Opening : Type 0 where
  refused : ℕ → ℕ → Opening
  opened : Model → Opening

-- the byte at which token k stands; past the last token, the text's end
unfoldable pub byte_place : List ℕ → ℕ → ℕ
byte_place text k = cond (ltb k (length (tokens text))) (place_of text k) (length text)

-- 6: the token that is one too many
unfoldable pub too_many : List ℕ → Found
too_many text = cond (leb (length (tokens text)) token_limit) None (Some token_limit)

-- how many sums the definition of number n has
unfoldable pub sums_in : List Defined → ℕ → ℕ
sums_in [] n = 0
sums_in (d ∷ ds) zero = length d.sums
sums_in (d ∷ ds) (suc n) = sums_in ds n

-- 10: how many processes there are at the start, counts written out
unfoldable pub processes_at_start : List Defined → List Start → ℕ
processes_at_start ds [] = 0
processes_at_start ds (s ∷ ss) = s.count * sums_in ds s.definition + processes_at_start ds ss

-- the first token of the system line
unfoldable pub start_token : Syntax.Start → ℕ
start_token (Syntax.once k s) = k
start_token (Syntax.counted c k s) = c

unfoldable pub system_token : Syntax.System → ℕ
system_token (Syntax.last_start s) = start_token s
system_token (Syntax.next_start s r) = start_token s

unfoldable pub crowded : Syntax.Model → Model → Found
crowded s m = cond (leb (processes_at_start m.definitions m.starts) process_limit) None (Some (system_token (system s)))

-- a no to question n at token k, or what the later questions say
unfoldable pub asked_of_text : List ℕ → ℕ → Found → Opening → Opening
asked_of_text text n (Some k) more = refused n (byte_place text k)
asked_of_text text n None more = more

-- 6 to 10 of a text with this syntax tree
unfoldable pub tree_judged : List ℕ → Syntax.Model → Opening
tree_judged text s =
    let m = resolved (word_of text) s in
    asked_of_text text 6 (too_many text)
    (asked_of_text text 7 (least (beyond text s))
    (asked_of_text text 8 (least (not_new (word_of text) s))
    (asked_of_text text 9 (least (not_given (word_of text) s))
    (asked_of_text text 10 (crowded s m) (opened m)))))

-- 5: the text's one reading, or the place at which it goes wrong
unfoldable pub read_judged : List ℕ → Verdict → Opening
read_judged text (fitting d) = tree_judged text (syntax_of d)
read_judged text (failing k) = refused 5 (byte_place text k)

unfoldable pub after_bytes : List ℕ → Judged → Opening
after_bytes text (Err r) = refused r.number r.place
after_bytes text (Ok u) = read_judged text (verdict (kinds_of (tokens text)))

-- 2 to 10
unfoldable pub opening : List ℕ → Opening
opening text = after_bytes text (bytes_judged text)
