-- `syntax::expression::literal` meets its contract: a case for each of its returns, from Expressions.antt.
use native.Mathlib.Omega.{arith}
use Rattle.grammar.proofs.Follows.{same, isnt}
use Rattle.syntax.proofs.Expressions.{literal-whole, literal-stray, literal-short, literal-negative}
use Rattle.syntax.proofs.expression.literal.Goals as goal

pub returns-then-t-eq-WHOLE : goal.returns-then-t-eq-WHOLE
returns-then-t-eq-WHOLE c =
    let r = literal-whole _ _ _ _ (same c.peek-t.ensures c.if-t-eq-WHOLE.true) (record { written = c.leaf.ensures; token-fits = omega arith; left-fits = omega arith; third-fits = omega arith }) in record { follows = r.0; parsed = r.1 }

pub returns-then-t-ne45 : goal.returns-then-t-ne45
returns-then-t-ne45 c =
    let r = literal-stray _ _ _ _ c.requires.inside (isnt c.peek-t.ensures c.if-t-eq-WHOLE.false) (isnt c.peek-t.ensures c.if-t-ne45.true) in record { follows = r.0; parsed = r.1 }

pub returns-then-peek-ne-WHOLE : goal.returns-then-peek-ne-WHOLE
returns-then-peek-ne-WHOLE c =
    let r = literal-short _ _ _ _ (same c.peek-t.ensures c.if-t-ne45.false) (isnt c.peek.ensures c.if-peek-ne-WHOLE.true) in record { follows = r.0; parsed = r.1 }

pub returns : goal.returns
returns c =
    let r = literal-negative _ _ _ _ (same c.peek-t.ensures c.if-t-ne45.false) (same c.peek.ensures c.if-peek-ne-WHOLE.false) (record { written = c.leaf-2.ensures; token-fits = omega arith; left-fits = omega arith; third-fits = omega arith }) in record { follows = r.0; parsed = r.1 }
