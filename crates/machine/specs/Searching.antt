-- What a search is asked and answers, said without the functions that walk (02, notes 8 and 9): taking an entry, the wait of a name, the refusals that a run meets,
-- a constructor for each answer. Assumes nothing: these are definitions.
use Rattle.std.specs.Prelude.{◌≡◌, List, Bool, true, false, ℕ, ◌≤◌, ◌<◌, length}
use Rattle.model.specs.Resolved
use Rattle.model.specs.Opening.{process_limit}
use Rattle.rules.specs.Kind as kind
use Rattle.rules.specs.Rules.{Nth, Change, Key, key, Moves}
use Rattle.rules.specs.Listing.{Entry, entry}
use Rattle.rules.specs.Pairs.{pairs_after}
use Rattle.runs.specs.Tree.{Answer as RunAnswer, MeansOf}
use Rattle.machine.specs.Offer.{Process, branches}
use Rattle.machine.specs.State.{State, pair_limit}
use Rattle.machine.specs.Machine.{as_lent, Answer, no, entries_are, refused_with, depth_limit, searched_as}
use Rattle.machine.specs.Questions.{BranchAt, Lists, AllGiven}

-- whether it is so
pub data Tells (P : Type 0) : Bool → Type 0 where
  is : P → Tells P true
  is-not : (P → ⊥) → Tells P false

module _ (m : Resolved.Model) where
  -- 02, note 8: entry e of an accepted listing is above weight zero
  pub record Above (s : State) (e : ℕ) (k : Key) (w : ℕ) : Type 0 where
    pub entries : List Entry
    pub listed : Lists m s (entries_are entries)
    pub at : Nth entries e (entry k w)
    pub above : 0 < w

  -- what the rules move with it, 17 answered with yes
  pub record Ready (s : State) (e : ℕ) (k : Key) (w : ℕ) (n : Change) (ps : List Process) : Type 0 where
    pub entry : Above s e k w
    pub given : AllGiven m s k
    pub moves : Moves (branches m) s k w n ps

  -- 02, note 8: an entry that is the wait of this name
  pub data IsWait (name : List ℕ) (s : State) : Key → Type 0 where
    waits : {i j k n q t : ℕ} {p : Process} {b : Resolved.Branch}
        → BranchAt m s.processes i j p b → b.action ≡ Resolved.wait t → m.words t ≡ name → IsWait name s (key kind.wait i j k n q)

  -- 02, note 8: entry e is taken unrefused, to t; h: whether it is the wait of this name
  pub record Takes (name : List ℕ) (s : State) (e : ℕ) (h : Bool) (t : State) : Type 0 where
    pub key : Key
    pub weight : ℕ
    pub change : Change
    pub processes : List Process
    pub ready : Ready s e key weight change processes
    pub few : length processes ≤ process_limit
    pub few-pairs : length (pairs_after change s.pairs) ≤ pair_limit
    pub leads-to : t ≡ record { processes = processes; pairs = pairs_after change s.pairs }
    pub wait : Tells (IsWait name s key) h

  -- 02, note 8: the listing is refused, or an entry above weight zero when it is taken
  pub data Refuses (s : State) : Type 0 where
    under12-14 : {a : Answer} → Lists m s (refused_with a) → Refuses s
    under17 : {e w : ℕ} {k : Key} → Above s e k w → (AllGiven m s k → ⊥) → Refuses s
    under18 : {e w : ℕ} {k : Key} {n : Change} {ps : List Process} → Ready s e k w n ps → process_limit < length ps → Refuses s
    under19 : {e w : ℕ} {k : Key} {n : Change} {ps : List Process} → Ready s e k w n ps → length ps ≤ process_limit → pair_limit < length (pairs_after n s.pairs) → Refuses s

  -- 02, notes 8 and 9: what a search answers: 26, or the first run, none, 27
  pub data Searches (name : List ℕ) (s : State) (d : ℕ) : Answer → Type 0 where
    no26 : ((1 ≤ d) × (d ≤ depth_limit) → ⊥) → Searches name s d (no 26 0 0 as_lent)
    yes26 : {a : RunAnswer} → 1 ≤ d → d ≤ depth_limit → MeansOf (Takes name) Refuses s d a → Searches name s d (searched_as a)
