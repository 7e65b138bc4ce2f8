-- `syntax::condition::test` meets its contract: a case for each of its returns, from Conditions.antt.
use Rattle.grammar.proofs.Follows.{same, isnt}
use Rattle.syntax.proofs.Conditions.{test-turned, test_plain}
use Rattle.syntax.proofs.condition.test.Goals as goal

pub returns-then-peek-eq126 : goal.returns-then-peek-eq126
returns-then-peek-eq126 c =
    let r = test-turned _ _ _ _ _ _ (same c.peek.ensures c.if-peek-eq126.true) (c.compare.ensures.follows, c.compare.ensures.parsed) in record { follows = r.0; parsed = r.1 }

pub returns : goal.returns
returns c =
    let r = test_plain _ _ _ _ _ _ c.requires.inside (isnt c.peek.ensures c.if-peek-eq126.false) (c.compare-2.ensures.follows, c.compare-2.ensures.parsed) in record { follows = r.0; parsed = r.1 }
