-- The rule machine (01, State and rule machine): fed texts, draws and the lengths of all that is lent, it answers each call and reads no buffer. What it holds is a
-- record, a call asks something and carries the lengths of the parts that it is lent. Assumes nothing: these are definitions.
use Rattle.std.specs.Prelude.{List, [], ◌∷◌, ◌++◌, map, Bool, true, false, cond, ◌&&◌, ◌||◌, ℕ, zero, suc, ◌+◌, ◌-◌, ◌*◌, ◌/◌, min, eqb, leb, ℤ, length, drop, None, Some, Err, Ok, ◌≡◌, ◌≤◌, ltb, get_or}
use Rattle.std.proofs.Math.Option.{Option, none, some, Option-elim}
use Rattle.std.proofs.Math.ListN.{get_elem?}
use Rattle.token.specs.Token.{same_bytes}
use Rattle.token.specs.Questions.{text_limit}
use Rattle.model.specs.Resolved
use Rattle.model.specs.Opening.{process_limit, Opening, refused, opened, opening}
use Rattle.profile.specs.Opening.{opening_steady}
use Rattle.waitnames.specs.Names.{wait_names, wait_number}
use Rattle.rules.specs.Offers as offers
use Rattle.rules.specs.Kind as kind
use Rattle.rules.specs.Rules.{Key, key}
use Rattle.rules.specs.Listing.{Entry, entry, key_of, entries}
use Rattle.rules.specs.Draw.{weights, total, chosen}
use Rattle.rules.specs.Step as steps
use Rattle.runs.specs.Tree as tree
use Rattle.runs.specs.Walk as walk
use Rattle.runs.specs.Marks as marks
use Rattle.runs.specs.Marks.{Mark, unmarked, Going, going, gone}
use Rattle.words.specs.Words.{draw_of, Drawn}
use Rattle.clock.specs.declared.Clock.{Clock}
use Rattle.clock.specs.Clock.{fresh_clock, InRange, late_number, Brought, brought_by}
use Rattle.machine.specs.Offer.{Process, branches_of, called, arguments_given, branches, missing}
use Rattle.machine.specs.State.{State, GoodState, state_length, pair_limit}
use Rattle.machine.specs.Timed.{Timed, timed, clock_length}
use Rattle.machine.specs.Saves.{Saves, no_saves, saves_length, GoodSaves, Stored, saving, returning, forgetting}
use Rattle.machine.specs.Report.{report_length, report_of}

-- ---- lengths of what is lent

-- 01, State: the model buffer's length, free; two bytes for the text's length, then the text (docs/LAYOUT.md)
abbrev pub model_length : ℕ
model_length = 2 + text_limit

-- 01, Transitions: entries that the listing buffer has, and 13's limit
abbrev pub entry_limit : ℕ
entry_limit = 1024

-- 01, Transitions: kind, place, branch, partner, partner branch, pair, weight
abbrev pub entry_width : ℕ
entry_width = 7

-- 01, Transitions: the listing buffer's length
abbrev pub listing_length : ℕ
listing_length = entry_limit * entry_width

-- R.4: the numbers of an event: the ticks, and the seven of the entry
abbrev pub event_width : ℕ
event_width = 8

-- ---- answers

-- R.4: an accepted step of a run: the ticks of the clock after it, and the entry that it took
pub record Event : Type 0 where
  pub ticks : ℕ
  pub entry : Entry

-- 01, Rule machine: the listing buffer after a call, as it was lent where this document neither fills nor zeroes it; 02, note 6: or the report, by its numbers; R.4: or the events of a
-- run, over what was lent
pub data Shown : Type 0 where
  as_lent : Shown
  zeroed : Shown
  filled : List Entry → Shown
  reported : List ℕ → Shown
  happened : List Event → Shown

-- 01, Rule machine: all that the result carries, and the listing or report; place is a byte's of a text, or a process's
pub record Answer : Type 0 where
  pub number : ℕ
  pub place : ℕ
  pub branch : ℕ
  pub count : ℕ
  pub total : ℕ
  pub chosen : ℕ
  pub run : List ℕ  -- 02, note 8: the entry numbers of the run that a search answers
  pub used : List ℕ  -- R.5: the steps, words and waiting draws that a run of timed steps used; 02, note 10: whether a search that is carried on has ended, 1 or 0, alone
  pub listing : Shown

-- 01, Opening a text, Listing and stepping: a refusal carries 0 beyond its number and places, as does an opening's acceptance
unfoldable pub no : ℕ → ℕ → ℕ → Shown → Answer
no n p b l = record { number = n; place = p; branch = b; count = 0; total = 0; chosen = 0; run = []; used = []; listing = l }

-- 01, Listing and stepping: acceptance and 15 to 19 carry entry count and total, and leave the listing filled
unfoldable pub listed_as : ℕ → ℕ → List Entry → Answer
listed_as n c es = record { number = n; place = 0; branch = 0; count = length es; total = total (weights es); chosen = c; run = []; used = []; listing = filled es }

-- 02, note 6: an accepted report carries entry count and total as a list call does, and leaves these numbers
unfoldable pub reported_as : List ℕ → List Entry → Answer
reported_as ns es = record { number = 0; place = 0; branch = 0; count = length es; total = total (weights es); chosen = 0; run = []; used = []; listing = reported ns }

-- 02, note 8: a search answers a run, the empty one where there is none
unfoldable pub found_as : List ℕ → Answer
found_as r = record { number = 0; place = 0; branch = 0; count = 0; total = 0; chosen = 0; run = r; used = []; listing = as_lent }

-- what a call leaves, and its answer
pub record Turn (M : Type 0) : Type 0 where
  pub machine : M
  pub answer : Answer

abbrev pub turn : {M : Type 0} → M → Answer → Turn M
turn x a = record { machine = x; answer = a }

-- ---- listing: 12 to 14

-- 01, Listing: the largest total
abbrev pub total_limit : ℕ
total_limit = 9000000000000000000

-- the entries, or the refusal's answer
pub data Listed : Type 0 where
  entries_are : List Entry → Listed
  refused_with : Answer → Listed

-- 01, Listing: 13, then 14
unfoldable pub counted : List Entry → Listed
counted es =
    cond (leb (length es) entry_limit)
    (cond (leb (total (weights es)) total_limit) (entries_are es) (refused_with (no 14 0 0 zeroed)))
    (refused_with (no 13 0 0 zeroed))

-- 01, Listing: 12, then 13 and 14
unfoldable pub listing : Resolved.Model → State → Listed
listing m s = Option-elim (missing m 0 s.processes) (counted (entries (branches m) s)) (λ ij. refused_with (no 12 ij.0 ij.1 zeroed))

-- ---- the step: 15 to 19

-- 01, 17: the arguments in branch j's continuation at place i, whose names take these values
unfoldable pub branch_arguments : Resolved.Model → State → ℕ → ℕ → List ℤ → Bool
branch_arguments m s i j vs =
    Option-elim (get_elem? s.processes i) true (λ p. Option-elim (get_elem? (branches_of m p) j) true (λ b. arguments_given (p.locals ++ vs) b.next))

-- f of the action of branch j at place i, which sends values or binds them
unfoldable pub on_guard : Resolved.Model → State → ℕ → ℕ → (offers.Action → List ℤ) → List ℤ
on_guard m s i j f =
    Option-elim (get_elem? s.processes i) [] (λ p. Option-elim (get_elem? (branches m p) j) [] (λ b. steps.on_action [] f b.guard))

-- 01, 17: of all the continuations that an entry enters, a handshake's being two
unfoldable pub entry_arguments : Resolved.Model → State → Key → Bool
entry_arguments m s (key c i j k n q) =
    cond (eqb c kind.handshake)
    (branch_arguments m s i j [] && branch_arguments m s k n (on_guard m s k n (steps.bound_by (on_guard m s i j steps.sent_by))))
    (branch_arguments m s i j (on_guard m s i j (steps.bound_by (steps.values_at s.pairs q))))

-- 01, Step: the state that an entry leads to
unfoldable pub entry_state : Resolved.Model → State → Key → State
entry_state m s k = steps.state_after s (steps.step (branches m) s k)

-- 01, Listing and stepping: refused with number n, 15 to 19; the state is as before
abbrev pub refusing : State → List Entry → ℕ → Turn State
refusing s es n = turn s (listed_as n 0 es)

-- 01, Listing and stepping: accepted; entry number c led to the state s
abbrev pub accepting : State → List Entry → ℕ → Turn State
accepting s es c = turn s (listed_as 0 c es)

-- 01, Listing and stepping: 17 to 19 of the chosen entry, which has number c and key k
unfoldable pub taken : Resolved.Model → State → List Entry → ℕ → Key → Turn State
taken m s es c k =
    let s' = entry_state m s k in
    cond (entry_arguments m s k)
    (cond (leb (length s'.processes) process_limit)
    (cond (leb (length s'.pairs) pair_limit) (accepting s' es c) (refusing s es 19))
    (refusing s es 18))
    (refusing s es 17)

-- 01, Listing and stepping: 15, 16, then the entry that the draw chooses
unfoldable pub drawn : Resolved.Model → State → List Entry → ℕ → Turn State
drawn m s es d =
    cond (eqb (total (weights es)) 0) (refusing s es 15)
    (Option-elim (chosen (weights es) d) (refusing s es 16)
    (λ c. Option-elim (get_elem? es c) (refusing s es 16) (λ e. taken m s es c (key_of e))))

-- ---- turns of a state: what each request does where 11 is answered with yes

-- 01, Rule machine: a list call moves nothing
unfoldable pub showing : State → Listed → Turn State
showing s (entries_are es) = turn s (listed_as 0 0 es)
showing s (refused_with a) = turn s a

-- 01, Listing
unfoldable pub lists : Resolved.Model → State → Turn State
lists m s = showing s (listing m s)

-- 02, note 6: a report is refused as a listing is, and moves nothing either
unfoldable pub sharing : Resolved.Model → State → Listed → Turn State
sharing m s (entries_are es) = turn s (reported_as (report_of m s es) es)
sharing m s (refused_with a) = turn s a

unfoldable pub reports : Resolved.Model → State → Turn State
reports m s = sharing m s (listing m s)

-- a listing from which a draw chooses, or its refusal
unfoldable pub choosing : Resolved.Model → State → ℕ → Listed → Turn State
choosing m s d (entries_are es) = drawn m s es d
choosing m s d (refused_with a) = turn s a

-- 01, Listing and stepping: the listing's questions, then the step's
unfoldable pub steps_with : ℕ → Resolved.Model → State → Turn State
steps_with d m s = choosing m s d (listing m s)

-- ---- the search for a wait (02, notes 8 and 9)

-- 02, note 8: is the action a wait of this name?
unfoldable pub is_wait : Resolved.Model → (name : List ℕ) → Resolved.Action → Bool
is_wait m x (Resolved.wait k) = same_bytes (m.words k) x
is_wait m x (Resolved.launch c v) = false
is_wait m x (Resolved.kill c v) = false
is_wait m x (Resolved.receive c q) = false
is_wait m x (Resolved.bind c q) = false
is_wait m x (Resolved.check c q) = false
is_wait m x (Resolved.hand_send c v) = false
is_wait m x (Resolved.hand_receive c q) = false
is_wait m x (Resolved.hand_bind c q) = false

-- 02, note 8: is an entry's branch one?
unfoldable pub is_sought : Resolved.Model → (name : List ℕ) → State → Key → Bool
is_sought m x s (key c i j k n q) =
    eqb c kind.wait && Option-elim (get_elem? s.processes i) false (λ p. Option-elim (get_elem? (branches_of m p) j) false (λ b. is_wait m x b.action))

-- 02, note 8: 17 to 19, or the state that taking an entry leads to; h: whether it is the wait
unfoldable pub way_taken : Bool → Turn State → tree.Way State
way_taken h t = cond (eqb t.answer.number 0) (tree.leads h t.machine) tree.refused

-- 02, note 8: only entries above weight zero are taken, without a draw
unfoldable pub way_of : Resolved.Model → (name : List ℕ) → State → List Entry → Entry → tree.Way State
way_of m x s es (entry k w) = cond (eqb w 0) tree.idle (way_taken (is_sought m x s k) (taken m s es 0 k))

-- 02, note 8: 12 to 14, or the entries
unfoldable pub moves_of : Resolved.Model → (name : List ℕ) → State → Listed → tree.Listed State
moves_of m x s (refused_with a) = tree.unlisted
moves_of m x s (entries_are es) = tree.lists (map (way_of m x s es) es)

-- what a search goes over
unfoldable pub moves_to : Resolved.Model → (name : List ℕ) → State → tree.Listed State
moves_to m x s = moves_of m x s (listing m s)

-- 02, note 8: the deepest search, and how many entry numbers an answer has
abbrev pub depth_limit : ℕ
depth_limit = 8

-- 02, note 8, 26
unfoldable pub is_depth : ℕ → Bool
is_depth d = leb 1 d && leb d depth_limit

-- 02, note 8: the run, none, or 27
unfoldable pub searched_as : tree.Answer → Answer
searched_as (tree.found r) = found_as r
searched_as tree.nothing = no 0 0 0 as_lent
searched_as tree.unsure = no 27 0 0 as_lent

-- 02, notes 8 and 9: 26, then the first run of at most d entries to the wait of this name; the state isn't touched
unfoldable pub searches : (name : List ℕ) (depth : ℕ) → Resolved.Model → State → Turn State
searches x d m s = turn s (cond (is_depth d) (searched_as (walk.search (moves_to m x) s d)) (no 26 0 0 as_lent))

-- ---- a search that is begun and carried on (02, note 10)

-- a search under way: the state at which it began, the wait by its number, none where no wait has the name that was lent, the depth, how many states were walked, and where it stands
pub record Search : Type 0 where
  pub start : State
  pub wait : Option ℕ
  pub depth : ℕ
  pub count : ℕ
  pub mark : Mark

-- 02, note 10: begun at a state; nothing is walked
abbrev pub search_from : State → (wait : Option ℕ) (depth : ℕ) → Search
search_from s w d = record { start = s; wait = w; depth = d; count = 0; mark = unmarked }

-- the same search, so many states and this far on
abbrev pub search_at : Search → ℕ → Mark → Search
search_at x c p = record { start = x.start; wait = x.wait; depth = x.depth; count = c; mark = p }

-- what it goes over: to the wait of this number; where there is none, no entry is the wait
unfoldable pub moves_by : Resolved.Model → (wait : Option ℕ) → State → tree.Listed State
moves_by m none s = tree.unsought (moves_to m [] s)
moves_by m (some n) s = moves_to m (get_or (wait_names m) n []) s

-- 02, note 10, 28: the largest count
abbrev pub count_limit : ℕ
count_limit = 9000000000000000000

-- 02, note 10: what carrying on carries: the count since the beginning, whether the search has ended, 1 or 0, and, once it has, the search's answer
unfoldable pub progress_as : (number count ended : ℕ) → (run : List ℕ) → Answer
progress_as n c e r = record { number = n; place = 0; branch = 0; count = c; total = 0; chosen = 0; run = r; used = e ∷ []; listing = as_lent }

-- 02, note 10: at the end: the run, none, or 27
unfoldable pub ended_as : ℕ → tree.Answer → Answer
ended_as c (tree.found r) = progress_as 0 c 1 r
ended_as c tree.nothing = progress_as 0 c 1 []
ended_as c tree.unsure = progress_as 27 c 1 []

-- 02, note 10: still under way, or at its end, after which none is
unfoldable pub carried_as : Search → Going → Turn (Option Search)
carried_as x (going c p) = turn (some (search_at x c p)) (progress_as 0 c 0 [])
carried_as x (gone c a) = turn none (ended_as c a)

-- 02, note 10: 26 leaves what is under way, another beginning replaces it
unfoldable pub begins : (name : List ℕ) (depth : ℕ) → Resolved.Model → State → Option Search → Turn (Option Search)
begins x d m s o = cond (is_depth d) (turn (some (search_from s (wait_number m x) d)) (no 0 0 0 as_lent)) (turn o (no 26 0 0 as_lent))

-- 02, note 10: 28, or exactly n states unless the search ends
unfoldable pub carries_by : (number : ℕ) → Resolved.Model → Option Search → Turn (Option Search)
carries_by n m none = turn none (no 28 0 0 as_lent)
carries_by n m (some x) =
    cond (leb (x.count + n) count_limit) (carried_as x (marks.carry_on (moves_by m x.wait) x.start x.depth n (going x.count x.mark))) (turn (some x) (no 28 0 0 as_lent))

-- 02, note 10: a wait of the model, or none
unfoldable pub is_wait_number : Resolved.Model → Option ℕ → Bool
is_wait_number m none = true
is_wait_number m (some n) = ltb n (length (wait_names m))

-- 02, note 10, question 11: a start over the model, a wait of it or none, a depth, a count up to the limit, and a run from the start, absent exactly when the count is 0
pub record GoodSearch (m : Resolved.Model) (x : Search) : Type 0 where
  pub start : GoodState m x.start
  pub wait : is_wait_number m x.wait ≡ true
  pub depth : is_depth x.depth ≡ true
  pub count : x.count ≤ count_limit
  pub stands : marks.is_mark (moves_by m x.wait) x.start x.depth x.count x.mark.last ≡ true

-- one under way or none
unfoldable pub GoodSearching : Resolved.Model → Option Search → Type 0
GoodSearching m none = Unit {0}
GoodSearching m (some x) = GoodSearch m x

-- docs/LAYOUT.md: depth, wait, count, whether a refusal was met, and the run's length; then its entries and the numbers of the start
abbrev pub search_head : ℕ
search_head = 5

-- with the run and the start
abbrev pub search_length : ℕ
search_length = search_head + depth_limit + state_length

-- ---- turns of a state and a clock (02, note 4)

-- 02, note 4: 23 to 25 answer as 19 does: with the count and total of the listing, which stays filled, and 0 as chosen entry
unfoldable pub refused_as : ℕ → Answer → Answer
refused_as n a = record { number = n; place = 0; branch = 0; count = a.count; total = a.total; chosen = 0; run = []; used = []; listing = a.listing }

-- 02, note 4: a step from s that was accepted, and what the waiting draws made of the clock c: both go on, or neither
unfoldable pub with_wait : State → Clock → Turn State → Brought → Turn Timed
with_wait s c t (Ok k) = turn (timed t.machine k) t.answer
with_wait s c t (Err l) = turn (timed s c) (refused_as (late_number l) t.answer)

-- 02, note 4: a step with the choosing draw d; where it is refused, that is the answer, and the clock stays; where it is accepted, 23 to 25
unfoldable pub steps_in : Clock → List ℕ → State → Turn State → Turn Timed
steps_in c ds s t = cond (eqb t.answer.number 0) (with_wait s c t (brought_by c ds t.answer.total)) (turn (timed t.machine c) t.answer)

unfoldable pub times_with : (waiting : List ℕ) (draw : ℕ) → Resolved.Model → State → Clock → Turn Timed
times_with ds d m s c = steps_in c ds s (steps_with d m s)

-- ---- runs: many timed steps, with choosing draws from words (docs/DECISIONS.md, R.1 to R.7)

-- R.5: what a run has come to: 0 or the refusal that ended it, the words and waiting draws that accepted steps used, count and total of the last listing, the state and the clock after the
-- last accepted step, and an event for each accepted step
pub record Run : Type 0 where
  pub number : ℕ
  pub words : ℕ
  pub waiting : ℕ
  pub count : ℕ
  pub total : ℕ
  pub timed : Timed
  pub events : List Event

-- R.5: how many steps were taken
abbrev pub steps_of : Run → ℕ
steps_of r = length r.events

-- before the first step
abbrev pub begun : Timed → Run
begun t = record { number = 0; words = 0; waiting = 0; count = 0; total = 0; timed = t; events = [] }

-- R.6: after a step the run goes on, or it has ended
pub data Next : Type 0 where
  on : Run → Next
  over : Run → Next

-- R.6: ended without another step: with this number, at a listing of this count and total, and here
abbrev pub ended_with : (number count total : ℕ) → Timed → Run → Run
ended_with n c s t r = record { number = n; words = r.words; waiting = r.waiting; count = c; total = s; timed = t; events = r.events }

-- R.4: the entry with number c of a listing that stayed filled; an accepted step's answer has it
unfoldable pub entry_shown : Shown → (c : ℕ) → Entry
entry_shown (filled es) c = Option-elim (get_elem? es c) (entry (key 0 0 0 0 0 0) 0) (λ e. e)
entry_shown as_lent c = entry (key 0 0 0 0 0 0) 0
entry_shown zeroed c = entry (key 0 0 0 0 0 0) 0
entry_shown (reported ns) c = entry (key 0 0 0 0 0 0) 0
entry_shown (happened es) c = entry (key 0 0 0 0 0 0) 0

-- R.4: the event of an accepted timed step
abbrev pub event_of : Turn Timed → Event
event_of t = record { ticks = t.machine.clock.ticks; entry = entry_shown t.answer.listing t.answer.chosen }

-- R.5: one more step, accepted, which used u words; the clock says how many waiting draws it used
abbrev pub longer : (u : ℕ) → Turn Timed → Run → Run
longer u t r = record {
  number = 0;
  words = r.words + u;
  waiting = r.waiting + (t.machine.clock.draws - r.timed.clock.draws);
  count = t.answer.count;
  total = t.answer.total;
  timed = t.machine;
  events = r.events ++ (event_of t ∷ []);
}

-- R.6: a timed step of the machine: accepted, the run goes on; refused, it has ended with that number
unfoldable pub follows : (u : ℕ) → Turn Timed → Run → Next
follows u t r =
    cond (eqb t.answer.number 0) (on (longer u t r)) (over (ended_with t.answer.number t.answer.count t.answer.total t.machine r))

-- R.3: the choosing draw at a total; at 0 no word is looked at, since every draw is refused alike, with 12 to 15
unfoldable pub draw_at : (total : ℕ) → List ℕ → Drawn
draw_at total ws = cond (eqb total 0) (Some (0, 0)) (draw_of total ws)

-- R.3, R.6: with the draw and as many words as it used, the machine's timed step; where the words end first, the run has ended, at the listing that a list call gives here
unfoldable pub drawn_step : (waiting : List ℕ) → Resolved.Model → Run → Drawn → Next
drawn_step vs m r (Some (d, u)) = follows u (times_with (drop r.waiting vs) d m r.timed.state r.timed.clock) r
drawn_step vs m r None = let a = (lists m r.timed.state).answer in over (ended_with 0 a.count a.total r.timed r)

-- R.6: one step from where the run is, with the words and waiting draws that are left
unfoldable pub run_step : (words waiting : List ℕ) → Resolved.Model → Run → Next
run_step ws vs m r = drawn_step vs m r (draw_at (lists m r.timed.state).answer.total (drop r.words ws))

unfoldable pub going_on : Next → (Run → Run) → Run
going_on (on r) f = f r
going_on (over r) f = r

-- R.6: up to n steps more
unfoldable pub running : (n : ℕ) (words waiting : List ℕ) → Resolved.Model → Run → Run
running zero ws vs m r = r
running (suc n) ws vs m r = going_on (run_step ws vs m r) (running n ws vs m)

-- R.6: a run from a state and a clock: no more steps than the limit, and none for whose event there is no room
unfoldable pub runs_with : (limit room : ℕ) (words waiting : List ℕ) → Resolved.Model → State → Clock → Run
runs_with limit room ws vs m s c = running (min limit room) ws vs m (begun (timed s c))

-- R.5, R.7: what a run answers: how it ended, what it used, count and total of its last listing, and its events
unfoldable pub ran_as : Run → Answer
ran_as r = record { number = r.number; place = 0; branch = 0; count = r.count; total = r.total; chosen = 0; run = []; used = steps_of r ∷ r.words ∷ r.waiting ∷ []; listing = happened r.events }

-- R.7: its state and clock, and that answer
abbrev pub ran : Run → Turn Timed
ran r = turn r.timed (ran_as r)

-- R.6: a run whose events go into a buffer of this length
unfoldable pub runs_over : (words waiting : List ℕ) (limit length : ℕ) → Resolved.Model → State → Clock → Turn Timed
runs_over ws vs n l m s c = ran (runs_with n (l / event_width) ws vs m s c)

-- ---- what the machine holds

-- 01, Rule machine: the model it read, with a state; 02, notes 2 and 4: and saves and a clock; 02, note 10: and the search under way
pub record Held : Type 0 where
  pub model : Resolved.Model
  pub state : State
  pub saves : Saves
  pub clock : Clock
  pub search : Option Search

-- all of it
abbrev pub held_whole : Resolved.Model → State → Saves → Clock → Option Search → Held
held_whole m s ss c x = record { model = m; state = s; saves = ss; clock = c; search = x }

-- no search under way
abbrev pub held_all : Resolved.Model → State → Saves → Clock → Held
held_all m s ss c = held_whole m s ss c none

-- a clock at zero
abbrev pub held_with : Resolved.Model → State → Saves → Held
held_with m s ss = held_all m s ss fresh_clock

-- this model and this state, nothing saved, and a clock at zero
abbrev pub held : Resolved.Model → State → Held
held m s = held_with m s no_saves

-- the same, with this state
abbrev pub moved : Held → State → Held
moved h s = held_whole h.model s h.saves h.clock h.search

-- with this state and this clock
abbrev pub moved_in : Held → Timed → Held
moved_in h t = held_whole h.model t.state h.saves t.clock h.search

-- with this search
abbrev pub searched_in : Held → Option Search → Held
searched_in h x = held_whole h.model h.state h.saves h.clock x

-- the state and the clock
abbrev pub timed_of : Held → Timed
timed_of h = timed h.state h.clock

-- 01, Listing, 11, and 02, notes 2, 4 and 10: all that is held is over the model, the clock in its range
pub record Good (h : Held) : Type 0 where
  pub state : GoodState h.model h.state
  pub saves : GoodSaves h.model h.saves
  pub clock : InRange h.clock
  pub search : GoodSearching h.model h.search

-- 01, Rule machine: closed, or holding all that
pub data Machine : Type 0 where
  closed : Machine
  holding : Held → Machine

-- ---- shapes: what of it a request reads and writes

-- the model is read, the state read and written
unfoldable pub on_state : (Resolved.Model → State → Turn State) → Held → Turn Held
on_state f h = let t = f h.model h.state in turn (moved h t.machine) t.answer

-- 02, note 4: the clock too is read and written
unfoldable pub on_clock : (Resolved.Model → State → Clock → Turn Timed) → Held → Turn Held
on_clock f h = let t = f h.model h.state h.clock in turn (moved_in h t.machine) t.answer

-- with what a turn of the saves leaves
abbrev pub stored_in : Held → Stored → Held
stored_in h x = held_whole h.model x.kept.state x.saves x.kept.clock h.search

-- 02, note 2: state and saves are read and written, 02, note 4: and the clock with the state; the answer is a number
unfoldable pub on_saves : (Timed → Saves → Stored) → Held → Turn Held
on_saves f h = let x = f (timed_of h) h.saves in turn (stored_in h x) (no x.number 0 0 as_lent)

-- 02, note 10: the search is read and written, the state read
unfoldable pub on_search : (Resolved.Model → State → Option Search → Turn (Option Search)) → Held → Turn Held
on_search f h = let t = f h.model h.state h.search in turn (searched_in h t.machine) t.answer

-- ---- calls

-- 01, Listing and stepping, 02, notes 2, 4, 6, 8 and 10, and R.6: requests to a model that is held, of which 11 is asked first; a run says how long its events' buffer is
pub data Request : Type 0 where
  list' : Request
  step' : (draw : ℕ) → Request
  report' : Request
  search' : (name : List ℕ) (depth : ℕ) → Request
  timed' : (waiting : List ℕ) (draw : ℕ) → Request
  run' : (words waiting : List ℕ) (limit length : ℕ) → Request
  save' : (name : List ℕ) → Request
  return' : (name : List ℕ) → Request
  forget' : (name : List ℕ) → Request
  begin' : (name : List ℕ) (depth : ℕ) → Request
  carry' : (number : ℕ) → Request

-- 01, Rule machine, and 02, note 11: what a call asks: to open a text, plainly or under the steady profile, or a request
pub data Ask : Type 0 where
  open' : (text : List ℕ) → Ask
  open_steady' : (text : List ℕ) → Ask
  on' : Request → Ask

-- what each request does to what is held
unfoldable pub acts : Request → Held → Turn Held
acts list' = on_state lists
acts (step' d) = on_state (steps_with d)
acts report' = on_state reports
acts (search' x d) = on_state (searches x d)
acts (timed' ds d) = on_clock (times_with ds d)
acts (run' ws vs n l) = on_clock (runs_over ws vs n l)
acts (save' n) = on_saves (saving n)
acts (return' n) = on_saves (returning n)
acts (forget' n) = on_saves (forgetting n)
acts (begin' x d) = on_search (begins x d)
acts (carry' n) = on_search (λ m s. carries_by n m)

-- ---- what is lent

-- 01, State, and 02, notes 2 and 10: the engine's buffers; 02, note 4: and its clock
pub data Part : Type 0 where
  model : Part
  state : Part
  saves : Part
  clock : Part
  search : Part

-- 01, 1: their lengths
abbrev pub size : Part → ℕ
size model = model_length
size state = state_length
size saves = saves_length
size clock = clock_length
size search = search_length

abbrev pub part_number : Part → ℕ
part_number model = 0
part_number state = 1
part_number saves = 2
part_number clock = 3
part_number search = 4

-- the two that every list, step, report and search is lent
abbrev pub two_parts : List Part
two_parts = model ∷ state ∷ []

-- those of a timed step and of a run
abbrev pub timed_parts : List Part
timed_parts = model ∷ state ∷ clock ∷ []

-- 02, note 2: and the saves, for a forget
abbrev pub three_parts : List Part
three_parts = model ∷ state ∷ saves ∷ []

-- 02, note 4: and the clock, for a save and a return
abbrev pub four_parts : List Part
four_parts = model ∷ state ∷ saves ∷ clock ∷ []

-- 02, note 10: of a search that is begun or carried on
abbrev pub search_parts : List Part
search_parts = model ∷ state ∷ search ∷ []

-- 02, note 2: a buffer goes only to the calls that use it
abbrev pub uses : Request → List Part
uses list' = two_parts
uses (step' d) = two_parts
uses report' = two_parts
uses (search' x d) = two_parts
uses (timed' ds d) = timed_parts
uses (run' ws vs n l) = timed_parts
uses (save' n) = four_parts
uses (return' n) = four_parts
uses (forget' n) = three_parts
uses (begin' x d) = search_parts
uses (carry' n) = search_parts

-- an opening writes them all
abbrev pub lent_to : Ask → List Part
lent_to (open' text) = model ∷ state ∷ saves ∷ clock ∷ search ∷ []
lent_to (open_steady' text) = model ∷ state ∷ saves ∷ clock ∷ search ∷ []
lent_to (on' r) = uses r

-- 01, Transitions, and 02, note 6: the length of the output buffer, the listing or the report, of a call that is lent one; R.6: of a run's events, which may have any, the one it says
abbrev pub output_of : Ask → Option ℕ
output_of (open' text) = none
output_of (open_steady' text) = none
output_of (on' list') = some listing_length
output_of (on' (step' d)) = some listing_length
output_of (on' report') = some report_length
output_of (on' (search' x d)) = none
output_of (on' (timed' ds d)) = some listing_length
output_of (on' (run' ws vs n l)) = some l
output_of (on' (save' n)) = none
output_of (on' (return' n)) = none
output_of (on' (forget' n)) = none
output_of (on' (begin' x d)) = none
output_of (on' (carry' n)) = none

unfoldable pub is_lent : Part → List Part → Bool
is_lent p [] = false
is_lent p (q ∷ qs) = eqb (part_number p) (part_number q) || is_lent p qs

-- a test that each of these parts passes
unfoldable pub all_parts : (Part → Bool) → List Part → Bool
all_parts t [] = true
all_parts t (p ∷ ps) = t p && all_parts t ps

-- 01, 1: have all lent buffers their lengths?
unfoldable pub has_lengths : Ask → (Part → ℕ) → ℕ → Bool
has_lengths k l o = all_parts (λ (p : Part). eqb (l p) (size p)) (lent_to k) && Option-elim (output_of k) true (eqb o)

-- 01, Rule machine: what is asked, and the lengths of all that is lent: of the parts, and of the output
pub record Call : Type 0 where
  pub ask : Ask
  pub lengths : Part → ℕ
  pub output : ℕ

abbrev pub call : Ask → (Part → ℕ) → ℕ → Call
call k l o = record { ask = k; lengths = l; output = o }

-- ---- the machine's turns

-- n copies of a list, one after the other
unfoldable pub copies : {A : Type 0} → ℕ → List A → List A
copies zero xs = []
copies (suc n) xs = xs ++ copies n xs

-- 01, Open: items in order, counts written out, each replaced by its definition's sums
unfoldable pub start_processes : Resolved.Model → List Resolved.Start → List Process
start_processes m [] = []
start_processes m (s ∷ ss) = copies s.count (called m s.definition s.values) ++ start_processes m ss

-- 01, Open: no pair
unfoldable pub opened_state : Resolved.Model → State
opened_state m = record { processes = start_processes m m.starts; pairs = [] }

-- 01, Fresh, and 02, note 11: refusals 2 to 10 and 29 lead back to it; an accepted text's model is held, with its opened state; 02, notes 2 and 10: either way nothing is saved and no search is under way
unfoldable pub opens : Opening → Turn Machine
opens (refused n p) = turn closed (no n p 0 as_lent)
opens (opened m) = turn (holding (held m (opened_state m))) (no 0 0 0 as_lent)

-- 01, 11: a no exactly when the machine is closed
unfoldable pub on_machine : Request → Machine → Turn Machine
on_machine r closed = turn closed (no 11 0 0 as_lent)
on_machine r (holding h) = let t = acts r h in turn (holding t.machine) t.answer

-- what is asked, once 1 is answered with yes
unfoldable pub asked_of_machine : Machine → Ask → Turn Machine
asked_of_machine y (open' text) = opens (opening text)
asked_of_machine y (open_steady' text) = opens (opening_steady text)
asked_of_machine y (on' r) = on_machine r y

-- 01, Rule machine: one call; 1 comes first and changes nothing
unfoldable pub calls : Machine → Call → Turn Machine
calls y c = cond (has_lengths c.ask c.lengths c.output) (asked_of_machine y c.ask) (turn y (no 1 0 0 as_lent))

-- 01, Rule machine: the answers to a list of calls, in order, and the machine afterwards
unfoldable pub answers : Machine → List Call → List Answer
answers y [] = []
answers y (c ∷ cs) = (calls y c).answer ∷ answers (calls y c).machine cs

unfoldable pub after : Machine → List Call → Machine
after y [] = y
after y (c ∷ cs) = after (calls y c).machine cs
