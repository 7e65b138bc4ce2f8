-- `literal` meets its contract: below 0 the cell is as much below the offset.
use mathlib.Core.Path.{sym, ap, ◌∙◌}
use lib.IntN.{pos}
use lib.Signed.{lt_z}
use mir.Facts.{to_z-of_z}
use Rattle.evals.proofs.Tables.{below-zero}
use Rattle.evals.proofs.literal.Goals as goal

pub returns-then-z-lt0 : goal.returns-then-z-lt0
returns-then-z-lt0 c =
    let e = to_z-of_z c.ranges.z in
    rw (c.unsigned_abs-size.ensures.value, e) (below-zero c.args.z (sym (ap (λ y. lt_z y (pos 0)) e) ∙ c.if-z-lt0.true))
