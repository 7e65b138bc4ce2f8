-- Seven numbers written over seven.
use native.Mathlib.Omega.{arith}
use Prim.Native.Nat.{◌/◌, ◌%◌}
use mir.Syntax.{w64}
use mir.Facts.{to_z_pos}
use Rattle.value.proofs.Kit.{back}
use Rattle.eval.specs.Channels.{numbers_of}
use Rattle.eval.proofs.channel.Channel.put.Goals as goal

pub returns : goal.returns
unfolding numbers_of
returns c =
    let s = c.args.self.shape in
    rw (
      c.copy_from_slice.ensures.after,
      to_z_pos w64 {n = s / 8} (omega arith),
      to_z_pos w64 {n = s % 2} (omega arith),
      to_z_pos w64 {n = s / 2 % 2} (omega arith),
      to_z_pos w64 {n = s / 4 % 2} (omega arith),
      back c.args.self.first (omega arith),
      back c.args.self.second (omega arith),
      back c.args.self.third (omega arith),
    )
