-- What a walk with so many states comes upon, from the first run of a length or after one of them, and what it gives (02, note 10). Definitions only.
use Rattle.std.specs.Prelude.{◌≡◌, List, map, Bool, true, false, cond, ℕ, suc, ◌≤◌, length, take, Result, Ok, Err}
use Rattle.std.proofs.Math.Option.{some, Option-elim}
use Rattle.model.specs.Resolved
use Rattle.machine.specs.State.{State}
use Rattle.machine.specs.Machine.{moves_to}
use Rattle.runs.specs.Tree.{Listed, way_in, unsought}
use Rattle.runs.specs.Walk.{Event, behind, of_way, events, next, later_same, follows}
use Rattle.spend.specs.Spend as spec
use Rattle.pieces.specs.declared.Sought.{Sought}
use Rattle.pieces.specs.declared.Budget.{Budget}
use Rattle.pieces.specs.declared.Stop.{Stop}
use Rattle.pieces.specs.declared.Stop.TheVariants.{Wait, Spent}
use Rattle.pieces.specs.declared.Reached.{Reached}

-- ---- what it comes upon

module _ {S : Type 0} (ways : S → Listed S) where
  -- 02, note 10: the runs of n and one more entries from s that begin with e
  unfoldable pub events_at : S → (n e : ℕ) → List Event
  events_at s n e = of_way (events ways n) e (way_in (ways s) e)

  -- 02, note 10: those after the run e ∷ r that begin with e and are as long
  unfoldable pub events_behind : S → (e : ℕ) → List ℕ → List Event
  events_behind s e r = map (behind e) (later_same ways (next ways s e) r)

  -- 02, note 8: a run from s; what led to s is of no account but for the empty one
  pub record IsRun (s : S) (r : List ℕ) : Type 0 where
    pub before : Bool
    pub wait : Bool
    pub follows : follows ways before s r ≡ some wait

-- 02, note 10, 11: whether r is one
unfoldable pub is_run : {S : Type 0} → (S → Listed S) → Bool → S → List ℕ → Bool
is_run ways k s r = Option-elim (follows ways k s r) false (λ h. true)

-- 02, note 10: the moves to the wait of the name, or to none
unfoldable pub moves_as : Resolved.Model → (named : Bool) (name : List ℕ) → State → Listed State
moves_as m named x s = cond named (moves_to m x s) (unsought (moves_to m x s))

abbrev pub ways_of : Sought → Resolved.Model → State → Listed State
ways_of x m = moves_as m x.named x.search.name.now

-- ---- what it gives

-- x is what was spent; the run that stopped it stands in the first n numbers
pub data Spends (run : List ℕ) (n : ℕ) : spec.Spent → Result Budget Stop → Type 0 where
  passes : {x : spec.Spent} {l : Budget} → x ≡ spec.through (suc l.further) l.met → Spends run n x (Ok l)
  waits : {x : spec.Spent} {b : ℕ} → x ≡ spec.hit b (take n run) → Spends run n x (Err (Wait b))
  stops : {x : spec.Spent} {m : Bool} → x ≡ spec.stop m (take n run) → Spends run n x (Err (Spent m))

-- the same over lengths
pub data Reaches (run : List ℕ) : spec.Spent → Result Budget Reached → Type 0 where
  ends : {x : spec.Spent} {l : Budget} → x ≡ spec.through (suc l.further) l.met → Reaches run x (Ok l)
  reaches-run : {x : spec.Spent} {r : Reached} → r.length ≤ length run → Spends run r.length x (Err r.stop) → Reaches run x (Err r)
