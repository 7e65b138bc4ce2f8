-- A walk that may walk so many states and no more (02, note 10), said so that it joins over parts of the walk. Definitions only.
use Rattle.std.specs.Prelude.{List, [], ◌∷◌, Bool, true, false, ℕ, zero, suc, ◌+◌, ◌-◌}
use Rattle.std.proofs.Math.Option.{some}
use Rattle.runs.specs.Tree.{found}
use Rattle.runs.specs.Walk.{Event, meets, reaches, ending}
use Rattle.runs.specs.Marks.{Going, going, gone, mark}

-- 02, note 10: what a walk that may walk so many states comes to
pub data Spent : Type 0 where
  -- all was walked, so many states may still be walked, and whether a refusal was met
  through : (left : ℕ) (met : Bool) → Spent
  -- the wait was reached, with this run
  hit : (left : ℕ) → List ℕ → Spent
  -- no state is left to walk after this run, and whether a refusal was met up to it
  stop : (met : Bool) → List ℕ → Spent

-- suc b states may be walked; m: whether a refusal was met before
unfoldable pub spend : (b : ℕ) (m : Bool) → List Event → Spent
spend b m [] = through (suc b) m
spend b m (meets ∷ es) = spend b true es
spend b m (reaches true r ∷ es) = hit b r
spend zero m (reaches false r ∷ es) = stop m r
spend (suc b) m (reaches false r ∷ es) = spend b m es

-- the same of what comes after, where the first part is walked through
unfoldable pub and_then : Spent → List Event → Spent
and_then (through zero m) es = through zero m
and_then (through (suc b) m) es = spend b m es
and_then (hit b r) es = hit b r
and_then (stop m r) es = stop m r

-- behind entry e
unfoldable pub behind_spent : ℕ → Spent → Spent
behind_spent e (through b m) = through b m
behind_spent e (hit b r) = hit b (e ∷ r)
behind_spent e (stop m r) = stop m (e ∷ r)

-- 02, note 10: what it comes to where c states were walked before, and n more could be
unfoldable pub comes_to : (c n : ℕ) → Spent → Going
comes_to c n (through b m) = gone (c + n - b) (ending m)
comes_to c n (hit b r) = gone (c + n - b) (found r)
comes_to c n (stop m r) = going (c + n) (mark (some r) m)
