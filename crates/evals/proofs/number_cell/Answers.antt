-- `number_cell` meets its contract. By unfolding.
use mathlib.Core.Path.{refl}
use Rattle.tables.specs.Settled.{lifted, number_cell}
use Rattle.evals.proofs.number_cell.Goals as goal

pub returns : goal.returns
unfolding number_cell lifted
returns c =
    refl
