-- `walk::is_lone` meets its contract: by the kind of the node.
use Rattle.names.proofs.Acts.{token-small, other-kind, named-kind}
use native.Mathlib.Omega.{arith}
use borrow.Author.Tests.{ne_eqb}
use Rattle.names.proofs.walk.is_lone.Goals as goal

pub overflow_add-token_of : goal.overflow_add-token_of
overflow_add-token_of c =
    omega (arith, c.token_of.ensures, token-small c.args.node)

pub returns-then-kind_of-eq-NAMED : goal.returns-then-kind_of-eq-NAMED
returns-then-kind_of-eq-NAMED c =
    named-kind c.args.kinds.now c.args.node c.kind_of.result c.token_of.result c.peek.result c.kind_of.ensures c.if-kind_of-eq-NAMED.true c.token_of.ensures c.peek.ensures

pub returns-else-kind_of-eq-NAMED : goal.returns-else-kind_of-eq-NAMED
returns-else-kind_of-eq-NAMED c =
    rw (ne_eqb c.kind_of.result 3 c.if-kind_of-eq-NAMED.false) (other-kind c.args.kinds.now c.args.node c.kind_of.result c.kind_of.ensures c.if-kind_of-eq-NAMED.false)
