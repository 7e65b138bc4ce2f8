-- The walk over all runs up to a depth, by length and then by entry numbers, as a function (02, notes 8 to 10). Definitions only.
use Rattle.std.specs.Prelude.{List, [], ◌∷◌, ◌++◌, map, Bool, true, false, cond, ◌||◌, ℕ, zero, suc, ◌-◌, length, drop}
use Rattle.std.proofs.Math.Option.{Option, none, some}
use Rattle.runs.specs.Tree.{Way, idle, refused, leads, Listed, unlisted, lists, way_in, Answer, found, nothing, unsure}

-- what the walk comes upon: a refusal, or a run, and whether its last entry is the wait
pub data Event : Type 0 where
  meets : Event
  reaches : (wait : Bool) → List ℕ → Event

-- the same behind entry e
unfoldable pub behind : ℕ → Event → Event
behind e meets = meets
behind e (reaches h r) = reaches h (e ∷ r)

-- where taking leads to, from s
unfoldable pub end_of : {S : Type 0} → S → Way S → S
end_of s idle = s
end_of s refused = s
end_of s (leads h t) = t

-- f of the state that an entry leads to
unfoldable pub of_way : {S : Type 0} → (Bool → S → List Event) → ℕ → Way S → List Event
of_way f e idle = []
of_way f e refused = meets ∷ []
of_way f e (leads h t) = map (behind e) (f h t)

-- entries numbered from e on, in order
unfoldable pub of_ways : {S : Type 0} → (Bool → S → List Event) → ℕ → List (Way S) → List Event
of_ways f e [] = []
of_ways f e (w ∷ ws) = of_way f e w ++ of_ways f (suc e) ws

-- entries from number e on
unfoldable pub of_listed : {S : Type 0} → (Bool → S → List Event) → ℕ → Listed S → List Event
of_listed f e unlisted = meets ∷ []
of_listed f e (lists ws) = of_ways f e (drop e ws)

module _ {S : Type 0} (ways : S → Listed S) where
  -- every run of just n entries from s, by entry numbers, with the refusals on the way; h: whether the wait led to s
  unfoldable pub events : ℕ → Bool → S → List Event
  events zero h s = reaches h [] ∷ []
  events (suc n) h s = of_listed (events n) 0 (ways s)

  -- those of n and one more entries whose first entry is e or later
  unfoldable pub events_from : ℕ → ℕ → S → List Event
  events_from e n s = of_listed (events n) e (ways s)

  -- every run of n entries, then those of n + 1, and on, k lengths in all
  unfoldable pub levels : S → ℕ → ℕ → List Event
  levels s n zero = []
  levels s n (suc k) = events n false s ++ levels s (suc n) k

  -- note 10: the whole walk, by length from zero
  unfoldable pub walk : S → ℕ → List Event
  walk s d = levels s 0 (suc d)

  -- ---- what comes after a run

  -- the state after entry e
  unfoldable pub next : S → ℕ → S
  next s e = end_of s (way_in (ways s) e)

  -- of the same length
  unfoldable pub later_same : S → List ℕ → List Event
  later_same s [] = []
  later_same s (e ∷ es) = map (behind e) (later_same (next s e) es) ++ events_from (suc e) (length es) s

  -- up to the depth
  unfoldable pub later : S → ℕ → List ℕ → List Event
  later s d r = later_same s r ++ levels s (suc (length r)) (d - length r)

  -- the states along a run
  unfoldable pub trail : S → List ℕ → List S
  trail s [] = s ∷ []
  trail s (e ∷ es) = s ∷ trail (next s e) es

-- what f says of the state that taking leads to
unfoldable pub led : {S : Type 0} → (Bool → S → Option Bool) → Way S → Option Bool
led f idle = none
led f refused = none
led f (leads h t) = f h t

-- is r a run from s? then whether its last entry is the wait; h: whether the wait led to s
unfoldable pub follows : {S : Type 0} → (S → Listed S) → Bool → S → List ℕ → Option Bool
follows ways h s [] = some h
follows ways h s (e ∷ es) = led (λ k t. follows ways k t es) (way_in (ways s) e)

-- ---- what is answered

-- at the end of the walk, m: whether a refusal was met
unfoldable pub ending : Bool → Answer
ending m = cond m unsure nothing

-- note 9: the first run to the wait; else by the refusals met
unfoldable pub judge : Bool → List Event → Answer
judge m [] = ending m
judge m (meets ∷ es) = judge true es
judge m (reaches true r ∷ es) = found r
judge m (reaches false r ∷ es) = judge m es

-- notes 8 and 9: the search in one call
unfoldable pub search : {S : Type 0} → (S → Listed S) → S → ℕ → Answer
search ways s d = judge false (walk ways s d)

-- the next run that the walk comes upon, whether it meets a refusal before, and whether the run's last entry is the wait
pub data Next : Type 0 where
  lost : (met : Bool) → Next
  finds : (met wait : Bool) → List ℕ → Next

-- after a refusal
unfoldable pub met_before : Bool → Next → Next
met_before m (lost n) = lost (m || n)
met_before m (finds n h r) = finds (m || n) h r

unfoldable pub next_of : List Event → Next
next_of [] = lost false
next_of (meets ∷ es) = met_before true (next_of es)
next_of (reaches h r ∷ es) = finds false h r

-- the runs that the walk comes upon, in order
unfoldable pub runs_of : List Event → List (List ℕ)
runs_of [] = []
runs_of (meets ∷ es) = runs_of es
runs_of (reaches h r ∷ es) = r ∷ runs_of es

-- what comes after the next run
unfoldable pub rest_of : List Event → List Event
rest_of [] = []
rest_of (meets ∷ es) = rest_of es
rest_of (reaches h r ∷ es) = es

-- behind entry e
unfoldable pub behind_next : ℕ → Next → Next
behind_next e (lost m) = lost m
behind_next e (finds m h r) = finds m h (e ∷ r)

-- in the second of two parts, where the first has none
unfoldable pub or_next : Next → Next → Next
or_next (lost m) x = met_before m x
or_next (finds m h r) x = finds m h r
