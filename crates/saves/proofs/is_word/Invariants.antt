-- The loop's invariant: what is left of the number has as many letters as are left.
use mathlib.Core.Path.{◌≡◌}
use Prim.Native.Nat.{◌-◌}
use Rattle.saves.specs.Keys.{is_word}
use Rattle.saves.proofs.is_word.Given as goal

abbrev pub invariant-loop-i : goal.invariant-loop-i
invariant-loop-i l = is_word 8 l.word ≡ is_word (8 - l.i) l.w
