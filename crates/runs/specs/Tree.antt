-- What a search goes over and answers, said without the functions that walk it (02, notes 8 and 9). Definitions only.
use Rattle.std.specs.Prelude.{◌≡◌, map, Bool, true, false, ◌⊎◌, ◌↔◌, ℕ, ◌≤◌, ◌<◌, length, get_or}
use mathlib.Core.List.{List, [], ◌∷◌, Memᴰ as In}

-- note 9: entry numbers compared from the left
pub data Lower : List ℕ → List ℕ → Type 0 where
  first : {e f : ℕ} {es fs : List ℕ} → e < f → Lower (e ∷ es) (f ∷ fs)
  same : {e : ℕ} {es fs : List ℕ} → Lower es fs → Lower (e ∷ es) (e ∷ fs)

-- note 9: fewer steps, and among equals the one whose entry numbers come first
pub data Before (p q : List ℕ) : Type 0 where
  shorter : length p < length q → Before p q
  earlier : length p ≡ length q → Lower p q → Before p q

-- note 8: a run to the wait; none; or 27
pub data Answer : Type 0 where
  found : List ℕ → Answer
  nothing : Answer
  unsure : Answer

-- ---- runs, of what taking an entry leads to and of the states that meet a refusal

-- Leads s e h t: entry e at s is above weight zero and taken unrefused to t; h: whether it is the wait
module _ {S : Type 0} (Leads : S → ℕ → Bool → S → Type 0) where
  -- note 8: a run of entries, all taken unrefused, and the state at its end
  pub data RunOf : S → List ℕ → S → Type 0 where
    stay : {s : S} → RunOf s [] s
    go : {s t u : S} {e : ℕ} {h : Bool} {es : List ℕ} → Leads s e h t → RunOf t es u → RunOf s (e ∷ es) u

  -- note 8: a run whose last entry is the wait
  pub data PerformsOf : S → List ℕ → Type 0 where
    last : {s t : S} {e : ℕ} → Leads s e true t → PerformsOf s (e ∷ [])
    later : {s t : S} {e : ℕ} {h : Bool} {es : List ℕ} → Leads s e h t → PerformsOf t es → PerformsOf s (e ∷ es)

  -- note 8: a run to the wait within the depth
  pub record AnswersOf (s : S) (d : ℕ) (r : List ℕ) : Type 0 where
    pub performs : PerformsOf s r
    pub short : length r ≤ d

  -- Refuses s: 12 to 14 at s, or 17 to 19 of an entry above weight zero
  module _ (Refuses : S → Type 0) where
    -- note 8: a run of fewer entries than the depth meets one of those refusals
    pub record MeetsOf (s : S) (d : ℕ) : Type 0 where
      pub run : List ℕ
      pub end : S
      pub runs : RunOf s run end
      pub short : length run < d
      pub stuck : Refuses end

    -- notes 8 and 9: what an answer says
    pub data MeansOf (s : S) (d : ℕ) : Answer → Type 0 where
      -- a run to the wait within the depth; every other is longer or later
      earliest : {r : List ℕ} → AnswersOf s d r → ((q : List ℕ) → AnswersOf s d q → (q ≡ r) ⊎ Before r q) → MeansOf s d (found r)
      -- no such run, and no run meets a refusal
      none_at_all : ((q : List ℕ) → AnswersOf s d q → ⊥) → (MeetsOf s d → ⊥) → MeansOf s d nothing
      -- 27: no such run, but some run meets one
      none-known : ((q : List ℕ) → AnswersOf s d q → ⊥) → MeetsOf s d → MeansOf s d unsure

-- ---- where both are told by what a state lists

-- what taking an entry of a listing comes to
pub data Way (S : Type 0) : Type 0 where
  idle : Way S  -- weight zero, or no entry: no run takes it
  refused : Way S  -- 17 to 19
  leads : (wait : Bool) → S → Way S  -- to a state; whether the entry is the wait that is searched

-- what a listing comes to
pub data Listed (S : Type 0) : Type 0 where
  unlisted : Listed S  -- 12 to 14
  lists : List (Way S) → Listed S

-- entry e of a listing
unfoldable pub way_in : {S : Type 0} → Listed S → ℕ → Way S
way_in unlisted e = idle
way_in (lists ws) e = get_or ws e idle

-- 02, note 10: the same, where no entry is the wait
unfoldable pub way_unsought : {S : Type 0} → Way S → Way S
way_unsought idle = idle
way_unsought refused = refused
way_unsought (leads h t) = leads false t

unfoldable pub unsought : {S : Type 0} → Listed S → Listed S
unsought unlisted = unlisted
unsought (lists ws) = lists (map way_unsought ws)

module _ {S : Type 0} (ways : S → Listed S) where
  -- note 8: entry e is above weight zero and taken unrefused
  abbrev pub Takes : S → ℕ → Bool → S → Type 0
  Takes s e h t = way_in (ways s) e ≡ leads h t

  -- note 8: 12 to 14, or 17 to 19 of one more entry
  pub data Stuck (s : S) : Type 0 where
    no-listing : ways s ≡ unlisted → Stuck s
    no-taking : (e : ℕ) → way_in (ways s) e ≡ refused → Stuck s

  abbrev pub Run : S → List ℕ → S → Type 0
  Run = RunOf Takes

  abbrev pub Performs : S → List ℕ → Type 0
  Performs = PerformsOf Takes

  abbrev pub Answers : S → ℕ → List ℕ → Type 0
  Answers = AnswersOf Takes

  abbrev pub Meets : S → ℕ → Type 0
  Meets = MeetsOf Takes Stuck

  abbrev pub Means : S → ℕ → Answer → Type 0
  Means = MeansOf Takes Stuck

-- each member stands before all that follow it, so that none stands twice
unfoldable pub Ascending : {A : Type 0} → (A → A → Type 0) → List A → Type 0
Ascending R [] = Unit {0}
Ascending {A} R (x ∷ xs) = ((y : A) → In y xs → R x y) × Ascending R xs

-- note 10: which runs come up to what is answered: the one that is found and those before it; all, where none is
unfoldable pub UpTo : Answer → List ℕ → Type 0
UpTo (found r) q = (q ≡ r) ⊎ Before q r
UpTo nothing q = Unit {0}
UpTo unsure q = Unit {0}

-- note 10: how many runs within the depth come up to what is answered: just these, each once
pub record CountOf {S : Type 0} (ways : S → Listed S) (s : S) (d : ℕ) (a : Answer) (n : ℕ) : Type 0 where
  pub runs : List (List ℕ)
  pub ascends : Ascending Before runs
  pub exact : (q : List ℕ) → In q runs ↔ (((u : S) × Run ways s q u) × (length q ≤ d) × UpTo a q)
  pub many : n ≡ length runs
