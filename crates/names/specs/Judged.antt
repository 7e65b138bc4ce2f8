-- What questions 7, 8 and 9, asked in this order, answer of a text with its syntax tree (01, Opening a text). Assumes nothing: these are definitions.
use Rattle.std.specs.Prelude.{List, ℕ, Result, None, Some, Err, Ok}
use Rattle.token.specs.declared.Question as token
use Rattle.token.specs.declared.Question.TheVariants as all
use Rattle.token.specs.Questions.{No, question_number, asked, refusal, Found, Judged}
use Rattle.grammar.specs.Syntax
use Rattle.model.specs.Lists.{least}
use Rattle.model.specs.Words.{word_of}
use Rattle.model.specs.Limits.{beyond}
use Rattle.model.specs.Fresh.{not_new}
use Rattle.model.specs.Given.{not_given}
use Rattle.names.specs.declared.Question.{Question}
use Rattle.names.specs.declared.Question.TheVariants.{Limits, Fresh, Given}
use Rattle.names.specs.declared.Fault.{Fault}

-- 01, Opening a text: the questions about names among all questions
abbrev pub among_all : Question → token.Question
among_all Limits = all.Limits
among_all Fresh = all.Fresh
among_all Given = all.Given

-- 01, Opening a text: the number of the question that a fault is a no to, with the token at fault
unfoldable pub no_of : Fault → No
no_of f = refusal (question_number (among_all f.question)) f.token

-- 01, Opening a text: what a question answers, by its token at fault
unfoldable pub fault_of : Question → Found → Result (Unit {0}) Fault
fault_of q (Some k) = Err (record { question = q; token = k })
fault_of q None = Ok tt

-- 01, Opening a text: what an answer says, a no by its question's number
unfoldable pub answer_of : Result (Unit {0}) Fault → Judged
answer_of (Ok u) = Ok tt
answer_of (Err f) = Err (no_of f)

-- 01, Opening a text: the first of 7, 8 and 9 that has the answer no, with its token
unfoldable pub judged_names : List ℕ → Syntax.Model → Judged
judged_names text s = asked 7 (least (beyond text s)) (asked 8 (least (not_new (word_of text) s)) (asked 9 (least (not_given (word_of text) s)) (Ok tt)))
