-- The difference of two values fits an i64 (`sub-fits`), and `value_of` judges it.
use mathlib.Core.Path.{◌∙◌, ap}
use lib.IntN.{◌-ℤ◌}
use Rattle.value.specs.Range.{value_of}
use Rattle.value.specs.Arithmetic.{difference_of}
use Rattle.value.proofs.Kit.{op-back}
use Rattle.value.proofs.Bounds.{sub-fits, held_in_lem}
use Rattle.value.proofs.sub_value.Goals as goal

pub overflow_sub-x : goal.overflow_sub-x
overflow_sub-x c = search (sub-fits, held_in_lem c.ranges.x c.requires.0, held_in_lem c.ranges.y c.requires.1)

pub returns : goal.returns
unfolding difference_of
returns c =
    let s = c in
    c.value_of.ensures ∙ ap value_of (op-back ◌-ℤ◌ s.ranges.x s.ranges.y (sub-fits s.requires.0 s.requires.1))
