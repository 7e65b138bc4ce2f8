-- A search that is carried on by a number of states in each call, by the run that is walked next (02, note 10); Marks, which keeps the run walked last, is proved to go alike. Definitions only.
use Rattle.std.specs.Prelude.{List, [], ◌∷◌, Bool, true, false, cond, ℕ, zero, suc}
use Rattle.runs.specs.Tree.{Listed, Answer, found}
use Rattle.runs.specs.Walk.{Event, meets, reaches, later, ending, Next, lost, finds, met_before, next_of}

-- where a search under way stands: the run to be walked next, whether its last entry is the wait, and whether a refusal was met before it
pub record Place : Type 0 where
  pub run : List ℕ
  pub wait : Bool
  pub met : Bool

-- note 10: the beginning walks nothing
unfoldable pub begun : Place
begun = record { run = []; wait = false; met = false }

-- what walking comes to, with the count of states since the beginning
pub data Carried : Type 0 where
  under : (count : ℕ) → Place → Carried
  ended : (count : ℕ) → Answer → Carried

-- on to the next run, or the end; c states were walked
unfoldable pub onto : ℕ → Next → Carried
onto c (lost m) = ended c (ending m)
onto c (finds m h r) = under c (record { run = r; wait = h; met = m })

module _ {S : Type 0} (ways : S → Listed S) (s : S) (d : ℕ) where
  -- note 10: one state is walked
  unfoldable pub walked : ℕ → Place → Carried
  walked c p = cond p.wait (ended (suc c) (found p.run)) (onto (suc c) (met_before p.met (next_of (later ways s d p.run))))

  -- one that has ended stays so
  unfoldable pub turn : Carried → Carried
  turn (under c p) = walked c p
  turn (ended c a) = ended c a

  -- note 10: exactly n states, unless the search ends
  unfoldable pub carry : ℕ → Carried → Carried
  carry zero x = x
  carry (suc n) x = carry n (turn x)

  -- note 10: calls one after the other, each on what the one before has left
  unfoldable pub calls : List ℕ → Carried → Carried
  calls [] x = x
  calls (n ∷ ns) x = calls ns (carry n x)

-- how many runs are walked: up to the first to the wait, else all
unfoldable pub states : List Event → ℕ
states [] = 0
states (meets ∷ es) = states es
states (reaches true r ∷ es) = 1
states (reaches false r ∷ es) = suc (states es)
