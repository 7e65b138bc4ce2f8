-- Parts of a slice as lists: one to its end, and one of a width; from the lengths of the parts.
use mathlib.Core.Path.{◌≡◌, ap}
use mathlib.Core.List.{List}
use Prim.Native.Nat.{ℕ, ◌+◌, ◌-◌}
use native.Mathlib.Nat.{le_refl}
use native.Mathlib.Omega.{arith}
use lib.ListN.{length, take, drop, length-drop}
use lib.Seq.{take_all}

pub tail-part : {A : Type 0} (a : ℕ) (s : List A) → take (length s - a) (drop a s) ≡ drop a s
tail-part a s = take_all (length s - a) (drop a s) (simp length-drop (le_refl _))

-- w numbers from a on
pub width-part : {A : Type 0} (a w : ℕ) (s : List A) → take (a + w - a) (drop a s) ≡ take w (drop a s)
width-part {A} a w s = let e : a + w - a ≡ w = omega arith in ap (λ (m : ℕ). take m (drop a s)) e
