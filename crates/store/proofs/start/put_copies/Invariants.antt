-- `store::start::put_copies` meets its contract. The loop's invariant: i copies have been written.
use mathlib.Core.Path.{◌≡◌}
use mathlib.Core.List.{List}
use Prim.Native.Nat.{ℕ}
use Rattle.tables.specs.Represents.{Sums}
use Rattle.machine.specs.Machine.{copies}
use Rattle.eval.specs.Next.{entered, Rows}
use Rattle.store.proofs.start.put_copies.Given as goal

abbrev pub invariant-loop-i : goal.invariant-loop-i
invariant-loop-i l =
    (l.rows.fresh.ghost_name ≡ l.initial.rows.fresh.ghost_name)
    × ((ns : List ℕ) → Sums l.tables.nodes.now ns l.k → Rows l.initial.rows.fresh.now l.initial.rows.next (copies l.i (entered l.tables.scopes.now ns l.locals)) l.rows.fresh.now l.rows.next)
