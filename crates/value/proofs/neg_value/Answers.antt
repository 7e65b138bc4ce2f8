-- The negation of a value fits an i64, and `value_of` judges it.
use mir.Facts.{to_z-of_z}
use Rattle.value.specs.Arithmetic.{negation_of}
use Rattle.value.proofs.Kit.{neg_is}
use Rattle.value.proofs.Bounds.{neg-fits}
use Rattle.value.proofs.neg_value.Goals as goal

pub overflow_sub-x : goal.overflow_sub-x
overflow_sub-x c = simp (to_z-of_z c.ranges.x, neg_is c.args.x) (neg-fits c.args.x c.requires)

pub returns : goal.returns
unfolding negation_of
returns c =
    let s = c in
    simp (to_z-of_z s.ranges.x, neg_is s.args.x, to_z-of_z (neg-fits s.args.x s.requires)) at c.value_of.ensures
