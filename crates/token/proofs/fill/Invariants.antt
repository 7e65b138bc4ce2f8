-- The loop's invariant: the tokens written so far and those from the byte `at` on are the text's tokens, and the tables' rest is as it was.
use mathlib.Core.Path.{◌≡◌}
use Prim.Native.Nat.{◌-◌, ◌≤◌}
use lib.ListN.{length}
use Rattle.token.proofs.Cases.{Written}
use Rattle.token.proofs.fill.Given as goal

abbrev pub invariant-loop-at : goal.invariant-loop-at
invariant-loop-at l = (l.at ≤ length l.text) × (l.n ≤ l.at) × (length l.kinds ≡ length l.initial.kinds) × (length l.places ≡ length l.initial.places) × (length l.sizes ≡ length l.initial.sizes) × Written l.text l.initial.kinds l.initial.places l.initial.sizes l.kinds l.places l.sizes l.at l.n

abbrev pub decreases-loop-at : goal.decreases-loop-at
decreases-loop-at l = length l.text - l.at
