-- `syntax::line::params` meets its contract: a case for each of its returns, from LineReturns.antt.
use Rattle.grammar.proofs.Follows.{same, isnt}
use Rattle.syntax.proofs.LineReturns.{params_none, params-some}
use Rattle.syntax.proofs.line.params.Goals as goal

pub returns-then-peek-eq93 : goal.returns-then-peek-eq93
returns-then-peek-eq93 c =
    let r = params_none _ _ (same c.peek.ensures c.if-peek-eq93.true) in record { follows = r.0; parameters = r.1 }

pub returns : goal.returns
returns c =
    let r = params-some _ _ _ (isnt c.peek.ensures c.if-peek-eq93.false) c.names.ensures.follows c.names.ensures.listing in record { follows = r.0; parameters = r.1 }
