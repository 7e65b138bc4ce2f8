-- `syntax::line::read_text` meets its contract: a case for each of its returns, from LineReturns.antt.
use Rattle.syntax.proofs.Answers.{raised}
use Rattle.syntax.proofs.LineReturns.{text-fault, text-longer, text-fits}
use Rattle.syntax.proofs.line.read_text.Goals as goal

pub returns-then-n-toks : goal.returns-then-n-toks
returns-then-n-toks c =
    text-longer _ _ _ (c.model_lent.ensures.follows, c.model_lent.ensures.parsed) c.in_ok-n.was c.if-n-toks.true

pub returns-in_err-n : goal.returns-in_err-n
returns-in_err-n c =
    rw (raised c.from_residual.ensures.1) (text-fault _ _ _ (c.model_lent.ensures.follows, c.model_lent.ensures.parsed) c.in_err-n.was)

pub returns : goal.returns
returns c =
    text-fits _ _ _ (c.model_lent.ensures.follows, c.model_lent.ensures.parsed) c.in_ok-n.was c.if-n-toks.false
