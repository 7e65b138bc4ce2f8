-- What a cell holds fits an i64. From the size of a difference.
use Prim.Native.Nat.{ℕ, ◌<◌}
use native.Mathlib.Omega.{arith}
use lib.IntN.{pos, neg_ℤ, ◌-ℤ◌}
use mir.Syntax.{w64}
use mir.Val.{SFits}
use Rattle.value.proofs.Sizes.{mag-add}
use Rattle.tables.specs.Settled.{offset}

pub number_fits : (n : ℕ) → n < 72057594037927936 → SFits w64 (pos n -ℤ pos offset)
number_fits n h = omega (arith, mag-add (pos n) (neg_ℤ (pos offset)))
