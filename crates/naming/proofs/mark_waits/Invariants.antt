-- The loop's invariant: the waits of the sums from number n on are left.
use Rattle.std.proofs.Common.{◌≡◌, drop}
use Rattle.model.specs.Lists.{each}
use Rattle.model.specs.Resolved
use Rattle.waitnames.specs.Names.{sum_waits, all_waits}
use Rattle.naming.specs.Marks.{marked, Shown}
use Rattle.naming.proofs.mark_waits.Given as goal

abbrev pub invariant-loop-n : goal.invariant-loop-n
invariant-loop-n l = (m : Resolved.Model) → Shown l.tables.nodes.now l.tables.roots.now l.sums m → marked l.initial.marks (all_waits m) ≡ marked l.marks (each sum_waits (drop l.n m.sums))
