-- `eval::settled` meets its contract. By its test.
use borrow.Author.Tests.{eq-eqb, ne_eqb}
use Rattle.tree.specs.Node.{join_kind}
use Rattle.eval.specs.Skips.{settles}
use Rattle.eval.proofs.settled.Goals as goal

pub returns-then-kind-eq-UNION : goal.returns-then-kind-eq-UNION
unfolding settles join_kind
returns-then-kind-eq-UNION c = simp (eq-eqb _ _ c.if-kind-eq-UNION.true)

pub returns-else-kind-eq-UNION : goal.returns-else-kind-eq-UNION
unfolding settles join_kind
returns-else-kind-eq-UNION c = simp (ne_eqb _ _ c.if-kind-eq-UNION.false)
