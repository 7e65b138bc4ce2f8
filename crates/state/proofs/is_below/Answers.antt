-- The tests by sign and size, each a case of `is_below`.
use mathlib.Core.Path.{◌≡◌, refl}
use mathlib.Core.Bool.{true, false}
use Prim.Native.Nat.{ℕ}
use native.Mathlib.Omega.{arith}
use borrow.Author.Tests.{leb-false}
use lib.Dec.{ltb}
use lib.IntN.{ℤ, pos, negsuc, nat_abs}
use lib.Signed.{le_z}
use mir.Facts.{to_z-of_z}
use Rattle.value.proofs.Kit.{false-not-true}
use Rattle.state.specs.Test.{is_below}
use Rattle.state.proofs.is_below.Goals as goal

natural : (n : ℕ) (z : ℤ) → le_z (pos 0) z ≡ true → ltb (nat_abs z) n ≡ is_below n z
unfolding is_below
natural n (pos k) e = refl
natural n (negsuc k) e = false-not-true e

negative : (n : ℕ) (z : ℤ) → le_z (pos 0) z ≡ false → le_z (pos 0) z ≡ is_below n z
unfolding is_below
negative n (pos k) e = absurd (omega (arith, leb-false 0 k e))
negative n (negsuc k) e = refl

pub returns-then-z-ge0 : goal.returns-then-z-ge0
returns-then-z-ge0 c =
    let e = to_z-of_z c.ranges.z in simp e (natural c.args.n c.args.z (simp e at c.if-z-ge0.true))

pub returns-else-z-ge0 : goal.returns-else-z-ge0
returns-else-z-ge0 c =
    let e = to_z-of_z c.ranges.z in simp e (negative c.args.n c.args.z (simp e at c.if-z-ge0.false))
