-- `syntax::rate::unsigned` meets its contract: a case for each of its returns, from Rates.antt.
use native.Mathlib.Omega.{arith}
use Rattle.grammar.proofs.Follows.{same, isnt}
use Rattle.syntax.proofs.Rates.{unsigned-whole, unsigned-decimal, unsigned-stray}
use Rattle.syntax.proofs.rate.unsigned.Goals as goal

pub returns-in-2 : goal.returns-in-2
returns-in-2 c =
    let r = unsigned-whole _ _ _ _ _ (same c.peek.ensures c.in-2.is) (record { written = c.leaf.ensures; token-fits = omega (arith, c.requires.ready.inside, c.requires.ready.room, c.requires.ready.few); left-fits = omega arith; third-fits = omega arith }) in record { follows = r.0; parsed = r.1 }

pub returns-in-3 : goal.returns-in-3
returns-in-3 c =
    let r = unsigned-decimal _ _ _ _ _ (same c.peek.ensures c.in-3.is) (record { written = c.leaf-in-3.ensures; token-fits = omega (arith, c.requires.ready.inside, c.requires.ready.room, c.requires.ready.few); left-fits = omega arith; third-fits = omega arith }) in record { follows = r.0; parsed = r.1 }

pub returns-in_default : goal.returns-in_default
returns-in_default c =
    let r = unsigned-stray _ _ _ _ _ c.requires.ready.inside (isnt c.peek.ensures (omega arith)) (isnt c.peek.ensures (omega arith)) in record { follows = r.0; parsed = r.1 }
