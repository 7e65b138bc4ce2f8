-- `rest_lent` meets its contract: each return is a law of Braces.antt.
use Rattle.syntax.proofs.Answers.{raised}
use Rattle.syntax.proofs.Braces.{rest-fault, rest-made}
use Rattle.syntax.proofs.braced.rest_lent.Goals as goal

pub returns-in_err-n : goal.returns-in_err-n
returns-in_err-n c =
    rw (raised c.from_residual.ensures.1) (let r = rest-fault c.args.left.now.toks.now c.args.nodes.now _ c.args.left.now.at c.args.left.now.root (c.factors.ensures.follows, c.factors.ensures.extended) c.in_err-n.was in record { follows = r.0; extended = r.1 })

pub returns : goal.returns
returns c =
    let r = rest-made c.args.left.now.toks.now c.args.nodes.now _ c.args.left.now.at c.args.left.now.root (c.factors.ensures.follows, c.factors.ensures.extended) c.in_ok-n.was _ _ (c.terms.ensures.follows, c.terms.ensures.extended) in record { follows = r.0; extended = r.1 }
