-- `syntax::rate::scale` meets its contract: a case for each of its returns, from Rates.antt.
use native.Mathlib.Omega.{arith}
use Rattle.grammar.proofs.Follows.{same, isnt}
use Rattle.syntax.proofs.Rates.{scale-name, scale-number}
use Rattle.syntax.proofs.rate.scale.Goals as goal

pub returns-then-peek-eq-NAME : goal.returns-then-peek-eq-NAME
returns-then-peek-eq-NAME c =
    let r = scale-name _ _ _ _ _ (same c.peek.ensures c.if-peek-eq-NAME.true) (record { written = c.leaf.ensures; token-fits = omega (arith, c.requires.inside, c.requires.room, c.requires.few); left-fits = omega arith; third-fits = omega arith }) in record { follows = r.0; parsed = r.1 }

pub returns : goal.returns
returns c =
    let r = scale-number _ _ _ _ _ _ (isnt c.peek.ensures c.if-peek-eq-NAME.false) (c.number.ensures.follows, c.number.ensures.parsed) in record { follows = r.0; parsed = r.1 }
