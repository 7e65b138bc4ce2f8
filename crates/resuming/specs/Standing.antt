-- Where the search of a buffer stands, as the walk over tables takes it, and what carrying it on comes to (02, note 10). Definitions only.
use Rattle.std.specs.Prelude.{List, not, ℕ, ℤ, nat_abs, Option, None, Some}
use Rattle.model.specs.Resolved
use Rattle.runs.specs.Marks as marks
use Rattle.machine.specs.Machine.{Search, moves_by}
use Rattle.state.specs.Test.{at, is_zero}
use Rattle.underway.specs.Buffer.{entries_in}
use Rattle.pieces.specs.declared.Position.{Position}
use Rattle.pieces.specs.declared.Going.{Going}
use Rattle.pieces.specs.declared.Going.TheVariants.{On, Over}

-- docs/LAYOUT.md: count, flag and length, with these entries
abbrev pub position_with : List ℤ → List ℕ → Position
position_with l es = record { count = nat_abs (at l 2); met = not (is_zero (at l 3)); last = record { length = nat_abs (at l 4); entries = es } }

unfoldable pub placed : List ℤ → Option (List ℕ) → Option Position
placed l None = None
placed l (Some es) = Some (position_with l es)

-- none where a number of the run is beyond every listing
abbrev pub position_in : List ℤ → Option Position
position_in l = placed l (entries_in l)

-- 02, note 10: what carrying a search on by n states comes to
abbrev pub carried_on : Resolved.Model → (n : ℕ) → Search → marks.Going
carried_on m n x = marks.carry_on (moves_by m x.wait) x.start x.depth n (marks.going x.count x.mark)

-- the count since the beginning
unfoldable pub count_of : Going → ℕ
count_of (On x) = x.count
count_of (Over e) = e.count
