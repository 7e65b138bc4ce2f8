-- Each test is a case of `is_count`, from what the calls ensure.
use mathlib.Core.Path.{sym, ◌∙◌}
use mir.Facts.{to_z-of_z}
use Rattle.state.proofs.Tests.{refused, passed, count_none, count-some}
use Rattle.state.proofs.is_count.Goals as goal

pub returns-then-not-is_zero : goal.returns-then-not-is_zero
returns-then-not-is_zero c =
    rw (to_z-of_z c.ranges.z) at c.is_below.ensures ∙ sym (count-some c.args.bound c.args.z (rw (to_z-of_z c.ranges.z) at (sym c.is_zero.ensures) ∙ refused c.is_zero.result c.if-not-is_zero.true-raw))

pub returns-else-not-is_zero : goal.returns-else-not-is_zero
returns-else-not-is_zero c =
    let p = passed c.is_zero.result c.if-not-is_zero.false-raw in
    rw p (sym (count_none c.args.bound c.args.z (rw (to_z-of_z c.ranges.z) at (sym c.is_zero.ensures) ∙ p)))
