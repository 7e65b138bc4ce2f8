-- `syntax::rate::number` meets its contract: a case for each of its returns, from Rates.antt.
use Rattle.grammar.proofs.Follows.{same, isnt}
use Rattle.tree.specs.Node.{number_kind}
use Rattle.syntax.proofs.Rates.{number-negative, number-positive}
use Rattle.syntax.proofs.rate.number.Goals as goal

pub returns-then-peek-eq45 : goal.returns-then-peek-eq45
unfolding number_kind
returns-then-peek-eq45 c =
    let r = number-negative _ _ _ _ _ _ (same c.peek.ensures c.if-peek-eq45.true) (c.unsigned.ensures.follows, c.unsigned.ensures.parsed) in record { follows = r.0; parsed = r.1 }

pub returns : goal.returns
unfolding number_kind
returns c =
    let r = number-positive _ _ _ _ _ _ (isnt c.peek.ensures c.if-peek-eq45.false) (c.unsigned-2.ensures.follows, c.unsigned-2.ensures.parsed) in record { follows = r.0; parsed = r.1 }
