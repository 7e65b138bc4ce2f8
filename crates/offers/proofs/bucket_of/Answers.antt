-- The parts of the three values added up.
use native.Mathlib.Omega.{arith}
use mir.Facts.{to_z-of_z}
use Rattle.offers.specs.Links.{bucket_of}
use Rattle.offers.proofs.bucket_of.Goals as goal

pub overflow_mul-result : goal.overflow_mul-result
overflow_mul-result c = omega arith

pub overflow_add-result : goal.overflow_add-result
overflow_add-result c = omega arith

pub overflow_mul-result-2 : goal.overflow_mul-result-2
overflow_mul-result-2 c = omega arith

pub overflow_add-result-2 : goal.overflow_add-result-2
overflow_add-result-2 c = omega arith

pub returns : goal.returns
unfolding bucket_of
returns c =
    let a = rw (to_z-of_z c.ranges.first) at c.bucket_part-a.ensures.0 in
    let b = rw (to_z-of_z c.ranges.second) at c.bucket_part-b.ensures.0 in
    let d = rw (to_z-of_z c.ranges.third) at c.bucket_part-c.ensures.0 in
    (rw (← a, ← b, ← d), omega arith)
