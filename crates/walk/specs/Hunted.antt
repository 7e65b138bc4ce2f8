-- The first run to the wait of what a walk comes upon, or whether it meets a refusal (02, notes 8 and 9), said so that it joins over parts of the walk. Definitions only.
use Rattle.std.specs.Prelude.{◌≡◌, List, [], ◌∷◌, Bool, true, false, ◌||◌, ℕ, suc, ◌-◌, take, Result, Ok, Err}
use Rattle.runs.specs.Tree.{Listed, way_in, Answer, found}
use Rattle.search.specs.declared.Missed.{Missed}
use Rattle.search.specs.Walks.{met_in}
use Rattle.runs.specs.Walk.{Event, meets, reaches, of_way, events, events_from, levels, ending}

-- no run to the wait, and whether a refusal was met; or the first
pub data Hunted : Type 0 where
  gone : (met : Bool) → Hunted
  hits : List ℕ → Hunted

-- in the second of two parts, where the first has none
unfoldable pub or_else : Hunted → Hunted → Hunted
or_else (hits r) y = hits r
or_else (gone m) (hits r) = hits r
or_else (gone m) (gone n) = gone (m || n)

-- behind entry e
unfoldable pub behind_hunted : ℕ → Hunted → Hunted
behind_hunted e (gone m) = gone m
behind_hunted e (hits r) = hits (e ∷ r)

unfoldable pub hunted : List Event → Hunted
hunted [] = gone false
hunted (meets ∷ es) = or_else (gone true) (hunted es)
hunted (reaches true r ∷ es) = hits r
hunted (reaches false r ∷ es) = hunted es

-- 02, note 8: the run, none, or 27
unfoldable pub hunt_answer : Hunted → Answer
hunt_answer (hits r) = found r
hunt_answer (gone m) = ending m

module _ {S : Type 0} (ways : S → Listed S) where
  -- among the runs of n and one more entries from s that begin with e
  unfoldable pub hunt_at : (s : S) (n e : ℕ) → Hunted
  hunt_at s n e = hunted (of_way (events ways n) e (way_in (ways s) e))

  -- with e or a later entry
  unfoldable pub hunt_from : (s : S) (n e : ℕ) → Hunted
  hunt_from s n e = hunted (events_from ways e n s)

  -- among those of more than n entries, up to d
  unfoldable pub hunt_longer : (s : S) (d n : ℕ) → Hunted
  hunt_longer s d n = hunted (levels ways s (suc n) (d - n))

-- a run to the wait; or why there is none
abbrev pub Hit : Type 0
Hit = Result (Unit {0}) Missed

-- x is what was found; a run stands in the first n numbers
pub data Hunts (run : List ℕ) (n : ℕ) : Hunted → Hit → Type 0 where
  none : {x : Hunted} {m : Missed} → x ≡ gone (met_in m) → Hunts run n x (Err m)
  one : {x : Hunted} → x ≡ hits (take n run) → Hunts run n x (Ok tt)
