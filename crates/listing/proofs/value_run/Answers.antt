-- Both searches, with the low end and with the high end of the range.
use native.Mathlib.Omega.{arith}
use mir.Syntax.{w64}
use mir.Facts.{to_z_pos, to_z-of_z}
use Rattle.listing.proofs.value_run.Goals as goal

pub returns : goal.returns
returns c =
    let s = c in (
      simp (to_z_pos w64 {n = s.args.count} (omega (arith, s.requires.1)), to_z-of_z s.ranges.low) at c.find_pair-from.ensures,
      simp (to_z_pos w64 {n = s.args.count} (omega (arith, s.requires.1)), to_z-of_z s.ranges.low, to_z-of_z s.ranges.high) at c.find_pair-to.ensures,
    )
