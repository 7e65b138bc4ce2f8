-- Where a search under way stands over tables, and what carrying it on comes to (02, note 10). Definitions only.
use Rattle.std.specs.Prelude.{◌≡◌, List, cond, ℕ, ◌≤◌, eqb, length, take, Ok, Err}
use Rattle.std.proofs.Math.Option.{Option, none, some, Option-elim}
use Rattle.runs.specs.Tree.{Listed, found}
use Rattle.runs.specs.Walk.{Event, walk, later, ending}
use Rattle.runs.specs.Marks as marks
use Rattle.runs.specs.Marks.{Mark, mark, going, gone}
use Rattle.search.specs.Walks.{met_in}
use Rattle.search.specs.declared.Missed.{Missed}
use Rattle.machine.specs.Machine.{depth_limit}
use Rattle.pieces.specs.declared.Run.{Run}
use Rattle.pieces.specs.declared.Position.{Position}
use Rattle.pieces.specs.declared.Going.{Going}
use Rattle.pieces.specs.declared.Going.TheVariants.{On, Over}

abbrev pub run_of : Run → List ℕ
run_of r = take r.length r.entries

-- 02, note 10: absent before the first
unfoldable pub last_of : Position → Option (List ℕ)
last_of x = cond (eqb x.count 0) none (some (run_of x.last))

abbrev pub mark_of : Position → Mark
mark_of x = mark (last_of x) x.met

-- 02, note 10: what is still to be walked
unfoldable pub remaining : {S : Type 0} → (S → Listed S) → S → (d : ℕ) → Option (List ℕ) → List Event
remaining ways s d o = Option-elim o (walk ways s d) (later ways s d)

-- its run stands in its table, without entries where none was walked
pub record Sound (x : Position) : Type 0 where
  pub room : length x.last.entries ≡ depth_limit
  pub short : x.last.length ≤ length x.last.entries
  pub first : x.count ≡ 0 → x.last.length ≡ 0

-- what carrying on comes to
pub data Comes : marks.Going → Going → Type 0 where
  stands : {x : Position} → Sound x → Comes (going x.count (mark_of x)) (On x)
  finds : {c : ℕ} {r : Run} → r.length ≤ length r.entries → Comes (gone c (found (run_of r))) (Over (record { count = c; found = Ok r }))
  misses : {c : ℕ} {m : Missed} → Comes (gone c (ending (met_in m))) (Over (record { count = c; found = Err m }))
