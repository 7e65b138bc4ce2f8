-- By the sign of the number. From the laws of buckets.
use mathlib.Core.Path.{sym}
use native.Mathlib.Omega.{arith}
use lib.IntN.{pos}
use mir.Facts.{to_z-of_z}
use Rattle.value.proofs.Kit.{back, ok-fits}
use Rattle.state.proofs.Tests.{natural-fits}
use Rattle.offers.proofs.Links.{turned, part-natural}
use Rattle.offers.proofs.bucket_part.Goals as goal

pub overflow_sub-result : goal.overflow_sub-result
overflow_sub-result c =
    let t = turned c.args.z c.ranges.z (simp (to_z-of_z c.ranges.z) at c.if-z-lt0.true) in
    rw (to_z-of_z c.ranges.z, t.1) (ok-fits (pos t.0) t.2)

pub overflow_cast-result : goal.overflow_cast-result
overflow_cast-result c =
    let t = turned c.args.z c.ranges.z (simp (to_z-of_z c.ranges.z) at c.if-z-lt0.true) in
    rw (to_z-of_z c.ranges.z, t.1, back (pos t.0) t.2) (tt, record { fits = omega (arith, t.2) })

pub returns-then-z-lt0 : goal.returns-then-z-lt0
returns-then-z-lt0 c =
    let t = turned c.args.z c.ranges.z (simp (to_z-of_z c.ranges.z) at c.if-z-lt0.true) in
    rw (to_z-of_z c.ranges.z, t.1, back (pos t.0) t.2) (sym t.3, omega arith)

pub overflow_cast-result-2 : goal.overflow_cast-result-2
overflow_cast-result-2 c =
    let e = to_z-of_z c.ranges.z in simp e (natural-fits c.args.z c.ranges.z (simp e at c.if-z-lt0.false))

pub returns : goal.returns
returns c =
    let e = to_z-of_z c.ranges.z in simp e (sym (part-natural c.args.z (simp e at c.if-z-lt0.false)), omega arith)
