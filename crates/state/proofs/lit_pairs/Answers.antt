-- As many rows of the pairs' part as the second count says; those of a state that passed ascend.
use mathlib.Core.Path.{ap, ◌∙◌}
use native.Mathlib.Omega.{arith}
use Rattle.state.specs.Test.{ascends}
use Rattle.state.proofs.Launch.{part-rows, rows_ascend}
use Rattle.state.proofs.Read.{pairs_below}
use Rattle.state.proofs.lit_pairs.Goals as goal

pub counted-requires : goal.counted-requires
counted-requires c = (omega (arith, c.requires.long), pairs_below c.args.state.now c.requires)

pub returns : goal.returns
returns c =
    let e = c.first_rows.ensures.0 ∙ part-rows c.args.state.now c.counted.result c.counted.ensures.0 in
    (e, ap ascends e ∙ rows_ascend c.args.state.now c.requires)
