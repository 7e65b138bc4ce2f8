use native.Mathlib.Omega.{arith}
use Rattle.words.proofs.Drawing.{begins, used, turned, ended}
use Rattle.words.proofs.draw_from.Goals as goal

pub loop-i-init : goal.loop-i-init
loop-i-init c =
    begins _ _

pub returns-then-word-last : goal.returns-then-word-last
returns-then-word-last c =
    let r = used _ _ c.last_used-last.ensures _ _ c.loop-i.invariant c.loop-i-test.true c.requires (omega (arith, c.if-word-last.true)) in record { value = r.0; within = r.1 }

pub loop-i-preserved : goal.loop-i-preserved
loop-i-preserved c =
    turned _ _ c.last_used-last.ensures _ _ c.loop-i.invariant c.loop-i-test.true (omega (arith, c.if-word-last.false))

pub returns : goal.returns
returns c =
    let r = ended _ _ _ c.loop-i.invariant c.loop-i-test.false in record { value = r.0; within = r.1 }
