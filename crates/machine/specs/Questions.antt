-- What questions 12 to 19 and 23 to 25 ask, said without the functions that answer them (01, Listing and stepping): a constructor for each answer, in the order of asking.
-- Assumes nothing: these are definitions.
use Rattle.std.specs.Prelude.{◌≡◌, ◌↔◌, ◌⊎◌, ℕ, ◌+◌, ◌≤◌, ◌<◌, ℤ, length, Some, Ok, Err}
use mathlib.Core.List.{List, ◌++◌, Memᴰ as In}
use Rattle.std.proofs.Math.Option.{none, some}
use Rattle.model.specs.Resolved
use Rattle.model.specs.Opening.{process_limit}
use Rattle.rules.specs.Offers as offers
use Rattle.rules.specs.Order.{Ascending}
use Rattle.rules.specs.Kind as kind
use Rattle.rules.specs.Rules.{Nth, Change, unchanged, label, plain, Offered, Alone, Key, key, Moves, Derivable}
use Rattle.rules.specs.Listing.{Entry, entry, Earlier}
use Rattle.rules.specs.Pairs.{pairs_after}
use Rattle.rules.specs.Draw.{weights, total, First}
use Rattle.waits.specs.declared.Unread.TheVariants as unread
use Rattle.waits.specs.ByRuns.{Waits}
use Rattle.clock.specs.declared.Clock.{Clock}
use Rattle.clock.specs.Clock.{clock_limit, ticks_of}
use Rattle.machine.specs.Evaluate.{eval_expr, eval_branch}
use Rattle.machine.specs.Offer.{Process, branches_of, branches}
use Rattle.machine.specs.State.{State, pair_limit}
use Rattle.machine.specs.Timed.{Timed, timed}
use Rattle.machine.specs.Machine.{entry_limit, total_limit, zeroed, no, listed_as, Listed, entries_are, refused_with, Turn, turn, refusing, accepting}

-- ---- 12

-- 01, State: b is branch j of the process p at place i
pub record BranchAt (m : Resolved.Model) (ps : List Process) (i j : ℕ) (p : Process) (b : Resolved.Branch) : Type 0 where
  pub place : Nth ps i p
  pub branch : Nth (branches_of m p) j b

-- 01, Listing, 12: every evaluated part has a value, and every rate its range
pub record Evaluated (m : Resolved.Model) (ps : List Process) : Type 0 where
  pub guard : {i j : ℕ} {p : Process} {b : Resolved.Branch} → BranchAt m ps i j p b → (g : offers.Guard) × (eval_branch p.locals b ≡ some g)

-- 01, Listing, 12: branch j at place i has a part without value, or a rate beyond its range
pub record Lacks (m : Resolved.Model) (ps : List Process) (i j : ℕ) : Type 0 where
  pub process : Process
  pub branch : Resolved.Branch
  pub at : BranchAt m ps i j process branch
  pub lacks : eval_branch process.locals branch ≡ none

-- 01, Listing, 12: the first place, and of that process the first branch
pub record FirstLacking (m : Resolved.Model) (ps : List Process) (i j : ℕ) : Type 0 where
  pub lacking : Lacks m ps i j
  pub none_before : (k n : ℕ) → Lacks m ps k n → (i < k) ⊎ ((i ≡ k) × (j ≤ n))

-- ---- 12 to 14

-- 01, Transitions: the derivable transitions and no others, each once, in order
pub record IsListing (m : Resolved.Model) (s : State) (es : List Entry) : Type 0 where
  pub derivable : (k : Key) (w : ℕ) → In (entry k w) es ↔ Derivable (branches m) s k w
  pub ascending : Ascending Earlier es

-- 01, Listing: what a listing answers
pub data Lists (m : Resolved.Model) (s : State) : Listed → Type 0 where
  -- refused under a question, all before it answered yes
  no12 : {i j : ℕ} → FirstLacking m s.processes i j → Lists m s (refused_with (no 12 i j zeroed))
  no13 : {es : List Entry} → Evaluated m s.processes → IsListing m s es → entry_limit < length es → Lists m s (refused_with (no 13 0 0 zeroed))
  no14 : {es : List Entry} → Evaluated m s.processes → IsListing m s es → length es ≤ entry_limit → total_limit < total (weights es)
      → Lists m s (refused_with (no 14 0 0 zeroed))
  -- accepted
  yes14 : {es : List Entry} → Evaluated m s.processes → IsListing m s es → length es ≤ entry_limit → total (weights es) ≤ total_limit
      → Lists m s (entries_are es)

-- ---- 17

-- 01, Step: the continuations that the entry with a key enters, each with the place of its process and with its locals: the process's own, then the values that its
-- names take
pub data Enters (m : Resolved.Model) (s : State) : Key → (place : ℕ) → (locals : List ℤ) → List Resolved.Part → Type 0 where
  -- a process by itself
  alone : {a : offers.Action} {c i j r q : ℕ} {n : Change} {vs : List ℤ} {p : Process} {b : Resolved.Branch} {g : offers.Guard}
      → Alone a c → BranchAt m s.processes i j p b → eval_branch p.locals b ≡ some g → Offered s.pairs g (label a r q n vs)
      → Enters m s (key c i j 0 0 q) i (p.locals ++ vs) b.next
  -- a handshake's sender
  sender : {i j k n : ℕ} {p : Process} {b : Resolved.Branch}
      → BranchAt m s.processes i j p b → Enters m s (key kind.handshake i j k n 0) i p.locals b.next
  -- its receiver, without names
  receiver : {i j k n : ℕ} {p : Process} {b : Resolved.Branch} {g : offers.Guard} {w : offers.Query} {r : ℕ}
      → BranchAt m s.processes k n p b → eval_branch p.locals b ≡ some g → Offered s.pairs g (plain (offers.take w) r)
      → Enters m s (key kind.handshake i j k n 0) k p.locals b.next
  -- its receiver, whose names take the values sent
  binder : {i j k n : ℕ} {p p' : Process} {b b' : Resolved.Branch} {g g' : offers.Guard} {x : offers.Pair} {w : offers.Query} {r r' : ℕ}
      → BranchAt m s.processes i j p b → eval_branch p.locals b ≡ some g → Offered s.pairs g (plain (offers.send x) r)
      → BranchAt m s.processes k n p' b' → eval_branch p'.locals b' ≡ some g' → Offered s.pairs g' (label (offers.take_bind w) r' 0 unchanged x.values)
      → Enters m s (key kind.handshake i j k n 0) k (p'.locals ++ x.values) b'.next

-- 01, Listing and stepping, 17: every argument of every call has a value
pub record Given (ls : List ℤ) (xs : List Resolved.Part) : Type 0 where
  pub value : {d : ℕ} {es : List Resolved.Expr} {e : Resolved.Expr} → In (Resolved.call d es) xs → In e es → (z : ℤ) × (eval_expr ls e ≡ Some z)

-- 01, Listing and stepping, 17: of all the continuations that an entry enters
pub record AllGiven (m : Resolved.Model) (s : State) (k : Key) : Type 0 where
  pub given : {i : ℕ} {ls : List ℤ} {xs : List Resolved.Part} → Enters m s k i ls xs → Given ls xs

-- ---- 15 to 19

-- the entry that the draw chooses: its number, key and weight
pub record Chosen (es : List Entry) (d c : ℕ) (k : Key) (w : ℕ) : Type 0 where
  pub first : First (weights es) d c
  pub entry : Nth es c (entry k w)

-- 15 to 17 passed: the entry that the draw chooses, whose arguments all have values, and what the rules move with it
pub record Ready (m : Resolved.Model) (s : State) (es : List Entry) (d c : ℕ) (n : Change) (ps : List Process) : Type 0 where
  pub key : Key
  pub weight : ℕ
  pub chosen : Chosen es d c key weight
  pub given : AllGiven m s key
  pub moves : Moves (branches m) s key weight n ps

-- 01, Listing and stepping: what a step with draw d answers, and the state afterwards, where es is listed
pub data Steps (m : Resolved.Model) (s : State) (es : List Entry) (d : ℕ) : Turn State → Type 0 where
  -- refused under a question, all before it answered yes
  no15 : total (weights es) ≡ 0 → Steps m s es d (refusing s es 15)
  no16 : 0 < total (weights es) → total (weights es) ≤ d → Steps m s es d (refusing s es 16)
  no17 : {c w : ℕ} {k : Key} → Chosen es d c k w → (AllGiven m s k → ⊥) → Steps m s es d (refusing s es 17)
  no18 : {c : ℕ} {n : Change} {ps : List Process} → Ready m s es d c n ps → process_limit < length ps → Steps m s es d (refusing s es 18)
  no19 : {c : ℕ} {n : Change} {ps : List Process} → Ready m s es d c n ps → length ps ≤ process_limit → pair_limit < length (pairs_after n s.pairs)
      → Steps m s es d (refusing s es 19)
  -- accepted: the state is the one that the rules move to
  yes19 : {c : ℕ} {n : Change} {ps : List Process} → Ready m s es d c n ps → length ps ≤ process_limit → length (pairs_after n s.pairs) ≤ pair_limit
      → Steps m s es d (accepting (record { processes = ps; pairs = pairs_after n s.pairs }) es c)

-- ---- 23 to 25

-- 02, note 4: the clock c later by the time of E at a total, and by u waiting draws
abbrev pub later_by : Clock → (e total u : ℕ) → Clock
later_by c e total u = record { ticks = c.ticks + ticks_of e total; draws = c.draws + u }

-- 02, note 4: refused with number n, neither the state nor the clock moves
abbrev pub standing : State → Clock → List Entry → ℕ → Turn Timed
standing s c es n = turn (timed s c) (listed_as n 0 es)

-- 02, note 4: what a timed step with the choosing draw d and the waiting draws ds answers, and the state and clock afterwards, where es is listed
pub data Times (m : Resolved.Model) (s : State) (c : Clock) (es : List Entry) (ds : List ℕ) (d : ℕ) : Turn Timed → Type 0 where
  -- refused as the step is
  no15-19 : (n : ℕ) → 0 < n → Steps m s es d (refusing s es n) → Times m s c es ds d (standing s c es n)
  -- the step is accepted: the draws end first, k would be 32, or a number of the clock would pass its range
  no23 : {s' : State} (i : ℕ) → Steps m s es d (accepting s' es i) → Waits 0 ds (Err unread.Ended) → Times m s c es ds d (standing s c es 23)
  no24 : {s' : State} (i : ℕ) → Steps m s es d (accepting s' es i) → Waits 0 ds (Err unread.Long) → Times m s c es ds d (standing s c es 24)
  no25 : {s' : State} {e u : ℕ} (i : ℕ) → Steps m s es d (accepting s' es i) → Waits 0 ds (Ok (e, u))
      → (clock_limit < (later_by c e (total (weights es)) u).ticks) ⊎ (clock_limit < (later_by c e (total (weights es)) u).draws)
      → Times m s c es ds d (standing s c es 25)
  -- accepted: the state is the step's, and the clock goes on
  yes25 : {s' : State} {e u : ℕ} (i : ℕ) → Steps m s es d (accepting s' es i) → Waits 0 ds (Ok (e, u))
      → (later_by c e (total (weights es)) u).ticks ≤ clock_limit → (later_by c e (total (weights es)) u).draws ≤ clock_limit
      → Times m s c es ds d (turn (timed s' (later_by c e (total (weights es)) u)) (listed_as 0 i es))
