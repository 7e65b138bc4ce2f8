-- `syntax::condition::conjunction` meets its contract: a case for each of its returns, from Conditions.antt.
use Rattle.syntax.proofs.Answers.{raised}
use Rattle.syntax.proofs.Conditions.{conjunction-fault, conjunction-made}
use Rattle.syntax.proofs.condition.conjunction.Goals as goal

pub returns-in_err-n : goal.returns-in_err-n
returns-in_err-n c =
    rw (raised c.from_residual.ensures.1) (let r = conjunction-fault _ _ _ _ _ c.in_err-n.was (c.test.ensures.follows, c.test.ensures.parsed) in record { follows = r.0; parsed = r.1 })

pub returns : goal.returns
returns c =
    let r = conjunction-made _ _ _ _ _ _ _ c.in_ok-n.was (c.test.ensures.follows, c.test.ensures.parsed) (c.ands.ensures.follows, c.ands.ensures.extended) in record { follows = r.0; parsed = r.1 }
