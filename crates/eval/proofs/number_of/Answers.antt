-- `eval::number_of` meets its contract: a cell's number fits an i64. From the size of a quotient.
use Prim.Native.Nat.{◌/◌, ◌<◌}
use native.Mathlib.Omega.{arith}
use mir.Syntax.{w64}
use mir.Facts.{to_z-of_z, to_z_pos}
use Rattle.tables.specs.Settled.{number_of}
use Rattle.eval.proofs.Cells.{number_fits}
use Rattle.eval.proofs.number_of.Goals as goal

pub overflow_sub-result : goal.overflow_sub-result
overflow_sub-result c =
    let h : c.args.cell / 256 < 72057594037927936 = omega arith in
    rw (to_z_pos w64 {n = c.args.cell / 256} (omega arith)) (number_fits (c.args.cell / 256) h)

pub returns : goal.returns
unfolding number_of
returns c =
    let h : c.args.cell / 256 < 72057594037927936 = omega arith in
    rw (to_z_pos w64 {n = c.args.cell / 256} (omega arith)) (to_z-of_z (number_fits (c.args.cell / 256) h))
