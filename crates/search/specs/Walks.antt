-- What a search gives, whatever a state is (02, notes 8 and 9). Definitions only.
use Rattle.std.specs.Prelude.{◌≡◌, List, Bool, true, false, ℕ, ◌≤◌, length, take, Result, Ok, Err}
use Rattle.runs.specs.Tree.{Answer, found, nothing, unsure}
use Rattle.search.specs.declared.Missed.{Missed}
use Rattle.search.specs.declared.Missed.TheVariants.{Nothing, Unsure}

-- 02, note 8: whether a refusal was met
abbrev pub met_in : Missed → Bool
met_in Nothing = false
met_in Unsure = true

-- 02, note 8: in one part of a walk or the other
abbrev pub joined : Missed → Missed → Missed
joined Nothing b = b
joined Unsure b = Unsure

-- a run's length; or why there is none
abbrev pub Walked : Type 0
Walked = Result ℕ Missed

-- 02, note 8: the search's answer
pub data Answered (a : Answer) : Walked → List ℕ → Type 0 where
  a-run : {n : ℕ} {run : List ℕ} → n ≤ length run → a ≡ found (take n run) → Answered a (Ok n) run
  no_run : {run : List ℕ} → a ≡ nothing → Answered a (Err Nothing) run
  not_known : {run : List ℕ} → a ≡ unsure → Answered a (Err Unsure) run
