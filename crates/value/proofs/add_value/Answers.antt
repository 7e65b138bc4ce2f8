-- The sum of two values fits an i64 (`add-fits`), and `value_of` judges it.
use mathlib.Core.Path.{◌∙◌, ap}
use lib.IntN.{◌+ℤ◌}
use Rattle.value.specs.Range.{value_of}
use Rattle.value.specs.Arithmetic.{sum_of}
use Rattle.value.proofs.Kit.{op-back}
use Rattle.value.proofs.Bounds.{add-fits, held_in_lem}
use Rattle.value.proofs.add_value.Goals as goal

pub overflow_add-x : goal.overflow_add-x
overflow_add-x c = search (add-fits, held_in_lem c.ranges.x c.requires.0, held_in_lem c.ranges.y c.requires.1)

pub returns : goal.returns
unfolding sum_of
returns c =
    let s = c in
    c.value_of.ensures ∙ ap value_of (op-back ◌+ℤ◌ s.ranges.x s.ranges.y (add-fits s.requires.0 s.requires.1))
