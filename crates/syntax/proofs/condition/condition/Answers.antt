-- `syntax::condition::condition` meets its contract: a case for each of its returns, from Conditions.antt.
use Rattle.syntax.proofs.Answers.{raised}
use Rattle.syntax.proofs.Conditions.{condition-fault, condition-made}
use Rattle.syntax.proofs.condition.condition.Goals as goal

pub returns-in_err-n : goal.returns-in_err-n
returns-in_err-n c =
    rw (raised c.from_residual.ensures.1) (let r = condition-fault _ _ _ _ _ c.in_err-n.was (c.conjunction.ensures.follows, c.conjunction.ensures.parsed) in record { follows = r.0; parsed = r.1 })

pub returns : goal.returns
returns c =
    let r = condition-made _ _ _ _ _ _ _ c.in_ok-n.was (c.conjunction.ensures.follows, c.conjunction.ensures.parsed) (c.ors.ensures.follows, c.ors.ensures.extended) in record { follows = r.0; parsed = r.1 }
