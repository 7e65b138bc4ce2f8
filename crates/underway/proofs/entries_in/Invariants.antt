-- The loop's invariant: so many are read, and all of them have an entry where those left have.
use Rattle.underway.proofs.Entries.{read, Left}
use mathlib.Core.Path.{◌≡◌}
use Rattle.underway.proofs.entries_in.Given as goal

abbrev pub invariant-loop-i : goal.invariant-loop-i
invariant-loop-i l = (l.run ≡ read l.search l.i) × Left l.search l.i
