use mathlib.Core.Path.{refl}
use native.Mathlib.Omega.{arith}
use lib.ListN.{length-set}
use borrow.Author.Rules.{rules}
use Rattle.token.proofs.Cases.{written_none, written-end, written-stop, token-room, token-some, written-more}
use Rattle.token.proofs.fill.Goals as goal

pub loop-at-init : goal.loop-at-init
loop-at-init c =
    (search rules, search rules, refl, refl, refl, written_none _ _ _ _)

pub returns-then-t-eq-END : goal.returns-then-t-eq-END
returns-then-t-eq-END c =
    written-stop c.loop-at.invariant.5 c.next_token-t.ensures c.if-t-eq-END.true

pub overflow_add-start : goal.overflow_add-start
overflow_add-start c =
    omega (arith, token-room c.loop-at.invariant.5 c.next_token-t.ensures (omega arith))

pub overflow_cast-places : goal.overflow_cast-places
overflow_cast-places c =
    omega (arith, token-room c.loop-at.invariant.5 c.next_token-t.ensures (omega arith))

pub overflow_cast-sizes : goal.overflow_cast-sizes
overflow_cast-sizes c =
    omega (arith, token-room c.loop-at.invariant.5 c.next_token-t.ensures (omega arith))

pub overflow_add-at : goal.overflow_add-at
overflow_add-at c =
    omega (arith, token-room c.loop-at.invariant.5 c.next_token-t.ensures (omega arith))

pub loop-at-smaller : goal.loop-at-smaller
loop-at-smaller c =
    omega (arith, token-room c.loop-at.invariant.5 c.next_token-t.ensures (omega arith), token-some c.loop-at.invariant.5 c.next_token-t.ensures c.if-t-eq-END.false)

pub loop-at-preserved : goal.loop-at-preserved
loop-at-preserved c =
    (omega (arith, token-room c.loop-at.invariant.5 c.next_token-t.ensures (omega arith)), omega (arith, token-some c.loop-at.invariant.5 c.next_token-t.ensures c.if-t-eq-END.false), simp length-set (omega arith), simp length-set (omega arith), simp length-set (omega arith), written-more c.loop-at.invariant.5 c.next_token-t.ensures (omega arith) (omega arith) (omega arith) c.if-t-eq-END.false)

pub returns : goal.returns
returns c =
    written-end c.loop-at.invariant.5 (omega arith)
