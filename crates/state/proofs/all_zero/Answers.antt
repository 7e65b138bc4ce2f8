use mathlib.Core.Path.{refl}
use native.Mathlib.Omega.{arith}
use borrow.Author.Rules.{rules}
use lib.IntN.{pos}
use lib.ListN.{get_or}
use mir.Syntax.{w64}
use mir.Val.{Fits, of_z}
use lib.Bits.{bit_or}
use Rattle.std.proofs.Math.Facts.{Fits-or, Fits-of_z, of_z-to_z}
use Rattle.value.proofs.Kit.{ok-fits}
use Rattle.state.specs.Test.{is_zero}
use Rattle.state.proofs.Tests.{zero_bits, bits-on, bits-done}
use Rattle.state.proofs.all_zero.Goals as goal

pub loop-z-init : goal.loop-z-init
loop-z-init c = (search rules, refl)

pub loop-z-preserved : goal.loop-z-preserved
loop-z-preserved c =
    let s = c.args.s.now in
    let i = c.loop-z.z-index in
    let z = get_or s i (pos 0) in
    let n = c.loop-z.bits-bits in
    let f : Fits w64 (bit_or n (of_z w64 z)) = Fits-or c.loop-z.auto.bits (Fits-of_z (ok-fits z (search rules))) in (
      search rules,
      rw (of_z-to_z f) (bits-on is_zero s i n (rw (of_z-to_z c.loop-z.auto.bits) at c.loop-z.invariant.1) (pos 0) (of_z w64 z) (omega arith) (zero_bits z (ok-fits z (search rules)))),
    )

pub returns : goal.returns
returns c = bits-done is_zero c.args.s.now c.loop-z.z-index c.loop-z.bits-bits (rw (of_z-to_z c.loop-z.auto.bits) at c.loop-z.invariant.1) (omega arith)
