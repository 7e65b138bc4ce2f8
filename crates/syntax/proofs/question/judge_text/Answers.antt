-- `syntax::question::judge_text` meets its contract: a case for each of its returns, from Questions.antt.
use Rattle.syntax.proofs.Answers.{raised}
use Rattle.syntax.proofs.Questions.{misfits, crowds, passed}
use Rattle.syntax.proofs.question.judge_text.Goals as goal

pub returns-then-toks-gt-TOKENS : goal.returns-then-toks-gt-TOKENS
returns-then-toks-gt-TOKENS c =
    crowds _ _ _ c.read_text.ensures _ c.map_err.ensures.cases c.in_ok-root.was c.if-toks-gt-TOKENS.true

pub returns-in_err-root : goal.returns-in_err-root
returns-in_err-root c =
    rw (raised c.from_residual.ensures.1) (misfits _ _ _ c.read_text.ensures _ c.map_err.ensures.cases c.in_err-root.was)

pub returns : goal.returns
returns c =
    passed _ _ _ c.read_text.ensures _ c.map_err.ensures.cases c.in_ok-root.was c.if-toks-gt-TOKENS.false
