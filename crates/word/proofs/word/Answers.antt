use native.Mathlib.Omega.{arith}
use Rattle.word.proofs.Packs.{begins, goes, few, ends}
use Rattle.word.proofs.word.Goals as goal

pub loop-b-init : goal.loop-b-init
loop-b-init c = begins _ _ (cc)

pub overflow_mul-w : goal.overflow_mul-w
overflow_mul-w c =
    omega (arith, few _ _ _ _ (rw c.in-Some.ensures.steps at c.loop-b.invariant) c.type_inv.s c.requires)

pub overflow_add-w : goal.overflow_add-w
overflow_add-w c =
    omega (arith, few _ _ _ _ (rw c.in-Some.ensures.steps at c.loop-b.invariant) c.type_inv.s c.requires, c.from.ensures)

pub loop-b-preserved : goal.loop-b-preserved
loop-b-preserved c =
    rw c.from.ensures (goes _ _ _ _ (rw c.in-Some.ensures.steps at c.loop-b.invariant))

pub returns : goal.returns
returns c = ends _ _ _ c.loop-b.invariant c.in-None.ensures.steps.0
