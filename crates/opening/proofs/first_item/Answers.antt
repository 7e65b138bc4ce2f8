-- A case for each return, from System.antt.
use Rattle.opening.proofs.System.{first-left, first-itself}
use Rattle.opening.proofs.first_item.Goals as goal

pub returns-then-kind_of-eq-SYSTEM : goal.returns-then-kind_of-eq-SYSTEM
returns-then-kind_of-eq-SYSTEM c =
    first-left _ c.args.k _ c.kind_of.ensures c.if-kind_of-eq-SYSTEM.true c.left_of.ensures

pub returns : goal.returns
returns c =
    first-itself _ c.args.k _ c.kind_of.ensures c.if-kind_of-eq-SYSTEM.false
