-- A number and its kind are read back from its cell. From the kit's laws of ℤ and arithmetic.
use mathlib.Core.Path.{◌≡◌, ap, ◌∙◌}
use mathlib.Core.List.{List}
use Prim.Native.Nat.{ℕ, ◌/◌, ◌<◌}
use native.Mathlib.Omega.{arith}
use borrow.Author.Tests.{lt-ltb, le-ltb}
use lib.IntN.{ℤ, pos, negsuc, nat_abs, ◌-ℤ◌}
use lib.ListN.{get_or}
use Rattle.tree.specs.Node.{kind_of}
use Rattle.tables.specs.Settled.{offset, lifted, number_cell, number_of, Number}

-- the number above the offset, less the offset
lowered : (z : ℤ) → nat_abs z < offset → pos (lifted z) -ℤ pos offset ≡ z
unfolding lifted
lowered (pos n) h = rw (le-ltb (lifted (pos n)) offset (omega arith)) (ap pos (omega arith))
lowered (negsuc n) h = rw (lt-ltb (lifted (negsuc n)) offset (omega arith)) (ap negsuc (omega arith))

module _ (kind : ℕ) (z : ℤ) (k : kind < 256) where
  pub number-kind : kind_of (number_cell kind z) ≡ kind
  unfolding kind_of number_cell
  number-kind = omega arith

  number-quotient : number_cell kind z / 256 ≡ lifted z
  unfolding number_cell
  number-quotient = omega arith

  pub number-back : nat_abs z < offset → number_of (number_cell kind z) ≡ z
  unfolding number_of
  number-back h = rw number-quotient (lowered z h)

-- the same of a node
module _ {t : List ℕ} {kind : ℕ} {z : ℤ} {k : ℕ} (n : Number t kind z k) (h : kind < 256) where
  pub node-number : number_of (get_or t k 0) ≡ z
  node-number = ap number_of n.cell-is ∙ number-back kind z h n.fits

  pub node-number-kind : kind_of (get_or t k 0) ≡ kind
  node-number-kind = ap kind_of n.cell-is ∙ number-kind kind z h
