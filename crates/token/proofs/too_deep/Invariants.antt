-- The loop's invariant: i stands in no comment and n brackets are open there, so that question 4 asked of the rest answers for the whole text.
use mathlib.Core.Path.{◌≡◌}
use mathlib.Core.Bool.{false}
use Prim.Native.Nat.{◌-◌, ◌≤◌}
use lib.ListN.{length, drop}
use Rattle.token.specs.Questions.{bracket_limit, too_deep}
use Rattle.token.proofs.too_deep.Given as goal

abbrev pub invariant-loop-i : goal.invariant-loop-i
invariant-loop-i l = (l.i ≤ length l.text) × (l.n ≤ bracket_limit) × (too_deep 0 false 0 l.text ≡ too_deep l.i false l.n (drop l.i l.text))

abbrev pub decreases-loop-i : goal.decreases-loop-i
decreases-loop-i l = length l.text - l.i
