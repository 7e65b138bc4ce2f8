-- `syntax::set::set` meets its contract: a case for each of its returns, from Sets.antt.
use Rattle.syntax.proofs.Answers.{raised}
use Rattle.syntax.proofs.Sets.{set-fault, set-made}
use Rattle.syntax.proofs.set.set.Goals as goal

pub returns-in_err-n : goal.returns-in_err-n
returns-in_err-n c =
    rw (raised c.from_residual.ensures.1) (let r = set-fault _ _ _ _ _ c.in_err-n.was (c.part.ensures.follows, c.part.ensures.parsed) in record { follows = r.0; parsed = r.1 })

pub returns : goal.returns
returns c =
    let r = set-made _ _ _ _ _ _ _ c.in_ok-n.was (c.part.ensures.follows, c.part.ensures.parsed) (c.parts.ensures.follows, c.parts.ensures.extended) in record { follows = r.0; parsed = r.1 }
