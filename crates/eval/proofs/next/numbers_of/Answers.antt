-- `eval::next::numbers_of` meets its contract: the sum, the locals over zeros, the definition. From the numbers of a process.
use mathlib.Core.Path.{◌≡◌, ap}
use mathlib.Core.List.{List, ◌∷◌}
use native.Mathlib.Omega.{arith}
use Prim.Native.Nat.{◌+◌, ◌-◌}
use lib.IntN.{ℤ, pos}
use lib.ListN.{length}
use mir.Syntax.{w64}
use mir.Facts.{to_z_pos}
use Rattle.machine.specs.State.{process_numbers}
use Rattle.eval.proofs.Rows.{numbers-written}
use Rattle.eval.proofs.next.numbers_of.Goals as goal

pub returns : goal.returns
unfolding process_numbers
returns c =
    let L = c.args.locals.now in
    let k : 1 + length L - 1 ≡ length L = omega arith in
    rw (to_z_pos w64 {n = c.args.sum} (omega (arith, c.requires)), to_z_pos w64 {n = c.args.definition} (omega (arith, c.requires)), c.copy_from_slice.ensures.after, k)
    (ap (λ (t : List ℤ). pos c.args.sum ∷ t) (numbers-written 8 L (pos c.args.definition) c.requires.1))
