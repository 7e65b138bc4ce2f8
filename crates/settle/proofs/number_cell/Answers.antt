use Rattle.settle.proofs.Cells.{cell-negated, cell-plain}
use Rattle.settle.proofs.number_cell.Goals as goal

pub returns-then-negated : goal.returns-then-negated
returns-then-negated c =
    cell-negated c.args.kind c.args.value c.args.negated c.requires c.if-negated.true

pub returns : goal.returns
returns c =
    cell-plain c.args.kind c.args.value c.args.negated c.if-negated.false
