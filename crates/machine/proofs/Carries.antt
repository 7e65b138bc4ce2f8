-- Every answer carries what 01 says, no refusal of a list call or step alters the machine, and a refused opening closes it. By cases of what is asked, machine and answer: one
-- lemma for each request.
use mathlib.Core.Path.{◌≡◌, refl, ap, ap₂, ◌∙◌}
use mathlib.Core.List.{List, []}
use mathlib.Core.Bool.{Bool, true, false, cond, ◌&&◌}
use mathlib.Core.Logic.{◌↔◌, inl, inr}
use mathlib.Core.Option.{Option, none, some, Option-elim}
use Prim.Native.Nat.{ℕ, ◌+◌, ◌≤◌}
use native.Mathlib.Omega.{arith}
use borrow.Author.Tests.{leb-true}
use lib.Dec.{leb, ltb}
use lib.ListN.{length}
use Rattle.runs.specs.Tree as tree
use Rattle.runs.specs.Tree.{Means, earliest, none_at_all, none-known}
use Rattle.runs.specs.Walk as walk
use Rattle.runs.specs.Marks.{Going, going, gone, carry_on}
use Rattle.runs.proofs.Marks.{CountsTo, counts, counts-gone, counts-within, carry-counts}
use Rattle.runs.proofs.Judged as judged
use Rattle.clock.specs.declared.Clock.{Clock}
use Rattle.model.specs.Resolved
use Rattle.model.specs.Opening.{Opening, refused, opening}
use Rattle.model.specs.Questions.{Answers, no2, no3, no4, no5, no6, no7, no8, no9, no10, yes_to_all}
use Rattle.model.proofs.Answered.{answered}
use Rattle.profile.specs.Opening.{opening_steady, AnswersSteady, no2to10, no29}
use Rattle.profile.specs.Opening as steady
use Rattle.profile.proofs.Asks.{plain-numbers}
use Rattle.profile.proofs.InOrder.{answered-steady}
use Rattle.rules.specs.Listing.{Entry}
use Rattle.rules.proofs.Decides.{Decides, holds, fails, passes}
use Rattle.machine.specs.State.{State}
use Rattle.machine.specs.Timed.{Timed, timed}
use Rattle.machine.specs.Saves.{is_name, Saves, save_limit, place_of, place_for, kept_under, Stored, stored, replaced, removed, saving, returning, forgetting}
use Rattle.machine.specs.Machine.{as_lent, no, listed_as, reported_as, Listed, entries_are, refused_with, listing, Turn, turn, drawn, steps_in, times_with, ran_as, runs_over, showing, lists, sharing, reports, choosing, steps_with, found_as, moves_to, depth_limit, is_depth, searched_as, searches, Search, moves_by, count_limit, progress_as, ended_as, carried_as, begins, carries_by}
use Rattle.machine.specs.Machine.{Held, moved, moved_in, timed_of, stored_in, Machine, closed, holding, on_state, on_clock, on_saves, Request, list', step', report', search', timed', run', save', return', forget', Ask, open', open_steady', on', acts, Part, has_lengths, Call, call, opens, on_machine, asked_of_machine, calls, searched_in, on_search, begin', carry'}
use Rattle.machine.specs.Questions.{no12, no13, no14, yes14, Steps, no15, no16, no17, no18, no19, yes19, Times, no15-19, no23, no24, no25, yes25}
use Rattle.machine.specs.Questions as questions
use Rattle.machine.specs.Results as results
use Rattle.machine.specs.Results.{Runs, Lists, Chooses, Names, Whole, WholeAsk, RunEnds, unrefused, refused12-15, refused17-19, refused23-25, Lent, Carries, under1, under2-10, under11, under12, under13, under14, under15-19, under23-25, under20, return21, forget21, save22, under2-29, under26, under27, begin26, under-way, ended27, under28}
use Rattle.machine.proofs.Lent.{lent-so}
use Rattle.machine.proofs.Listing as listing
use Rattle.machine.proofs.Stepping as stepping
use Rattle.machine.proofs.Timing as timing
use Rattle.machine.proofs.Running.{run-carries}

-- what a turn from x by a request carries, when it leaves x, and that it is not answered as 1 or 11 are
record Kept {M : Type 0} (x : M) (r : Request) (t : Turn M) : Type 0 where
  carries : Carries (on' r) t.answer
  stays : Whole r t.answer.number → (t.answer.number ≡ 0 → ⊥) → t.machine ≡ x
  one : t.answer.number ≡ 1 → ⊥
  eleven : t.answer.number ≡ 11 → ⊥

-- ---- turns of a state

list-kept : (m : Resolved.Model) (s : State) → Kept s list' (lists m s)
unfolding lists showing no listed_as Lists
list-kept m s = go ((listing.asked m s (listing m s)).0 refl)
  where
    go : {l : Listed} → questions.Lists m s l → Kept s list' (showing s l)
    go (no12 f) = record { carries = under12 _ _ tt; stays = λ w n. refl; one = λ e. omega arith; eleven = λ e. omega arith }
    go (no13 e h l) = record { carries = under13 tt; stays = λ w n. refl; one = λ e. omega arith; eleven = λ e. omega arith }
    go (no14 e h l f) = record { carries = under14 tt; stays = λ w n. refl; one = λ e. omega arith; eleven = λ e. omega arith }
    go (yes14 e h l f) = record { carries = results.lists _; stays = λ w n. refl; one = λ e. omega arith; eleven = λ e. omega arith }

report-kept : (m : Resolved.Model) (s : State) → Kept s report' (reports m s)
unfolding reports sharing no reported_as Lists
report-kept m s = go ((listing.asked m s (listing m s)).0 refl)
  where
    go : {l : Listed} → questions.Lists m s l → Kept s report' (sharing m s l)
    go (no12 f) = record { carries = under12 _ _ tt; stays = λ w n. refl; one = λ e. omega arith; eleven = λ e. omega arith }
    go (no13 e h l) = record { carries = under13 tt; stays = λ w n. refl; one = λ e. omega arith; eleven = λ e. omega arith }
    go (no14 e h l f) = record { carries = under14 tt; stays = λ w n. refl; one = λ e. omega arith; eleven = λ e. omega arith }
    go (yes14 e h l f) = record { carries = results.reports _ _; stays = λ w n. refl; one = λ e. omega arith; eleven = λ e. omega arith }

step_kept : (d : ℕ) (m : Resolved.Model) (s : State) → Kept s (step' d) (steps_with d m s)
unfolding steps_with choosing no listed_as Lists Chooses
step_kept d m s = go ((listing.asked m s (listing m s)).0 refl)
  where
    taken : {es : List Entry} {t : Turn State} → Steps m s es d t → Kept s (step' d) t
    taken (no15 e) = record { carries = under15-19 15 _ tt (omega arith) (omega arith); stays = λ w n. refl; one = λ e. omega arith; eleven = λ e. omega arith }
    taken (no16 l g) = record { carries = under15-19 16 _ tt (omega arith) (omega arith); stays = λ w n. refl; one = λ e. omega arith; eleven = λ e. omega arith }
    taken (no17 o g) = record { carries = under15-19 17 _ tt (omega arith) (omega arith); stays = λ w n. refl; one = λ e. omega arith; eleven = λ e. omega arith }
    taken (no18 r l) = record { carries = under15-19 18 _ tt (omega arith) (omega arith); stays = λ w n. refl; one = λ e. omega arith; eleven = λ e. omega arith }
    taken (no19 r l f) = record { carries = under15-19 19 _ tt (omega arith) (omega arith); stays = λ w n. refl; one = λ e. omega arith; eleven = λ e. omega arith }
    taken (yes19 r l f) = record { carries = results.steps _ _ tt; stays = λ w n. absurd (n refl); one = λ e. omega arith; eleven = λ e. omega arith }

    go : {l : Listed} → questions.Lists m s l → Kept s (step' d) (choosing m s d l)
    go (no12 f) = record { carries = under12 _ _ tt; stays = λ w n. refl; one = λ e. omega arith; eleven = λ e. omega arith }
    go (no13 e h l) = record { carries = under13 tt; stays = λ w n. refl; one = λ e. omega arith; eleven = λ e. omega arith }
    go (no14 e h l f) = record { carries = under14 tt; stays = λ w n. refl; one = λ e. omega arith; eleven = λ e. omega arith }
    go (yes14 {es = es} e h l f) = taken ((stepping.asked m s es h d (drawn m s es d)).0 refl)

search-kept : (x : List ℕ) (d : ℕ) (m : Resolved.Model) (s : State) → Kept s (search' x d) (searches x d m s)
unfolding searches is_depth searched_as found_as no
search-kept x d m s = by (leb 1 d) (leb d depth_limit) refl (walk.search (moves_to m x) s d) (judged.answers (moves_to m x) s d)
  where
    by : (a b : Bool) → leb d depth_limit ≡ b → (w : tree.Answer) → Means (moves_to m x) s d w → Kept s (search' x d) (turn s (cond (a && b) (searched_as w) (no 26 0 0 as_lent)))
    by true true l w (earliest {r = r} p f) =
        let k : length r ≤ d = p.short in
        let e : d ≤ depth_limit = leb-true d depth_limit l in
        record { carries = results.searches r (omega arith); stays = λ w n. refl; one = λ e. omega arith; eleven = λ e. omega arith }
    by true true l w (none_at_all f k) = record { carries = results.searches [] (omega arith); stays = λ w n. refl; one = λ e. omega arith; eleven = λ e. omega arith }
    by true true l w (none-known f k) = record { carries = under27; stays = λ w n. refl; one = λ e. omega arith; eleven = λ e. omega arith }
    by true false l w k = record { carries = under26; stays = λ w n. refl; one = λ e. omega arith; eleven = λ e. omega arith }
    by false b l w k = record { carries = under26; stays = λ w n. refl; one = λ e. omega arith; eleven = λ e. omega arith }

timed-kept : (ds : List ℕ) (d : ℕ) (m : Resolved.Model) (s : State) (c : Clock) → Kept (timed s c) (timed' ds d) (times_with ds d m s c)
unfolding times_with steps_with choosing steps_in no listed_as Lists Chooses
timed-kept ds d m s c = go ((listing.asked m s (listing m s)).0 refl)
  where
    taken : {es : List Entry} {t : Turn Timed} → Times m s c es ds d t → Kept (timed s c) (timed' ds d) t
    taken (no15-19 n l a) = let k = timing.step-numbers n l a in record { carries = under15-19 n _ tt k.0 k.1; stays = λ w n. refl; one = λ e. omega arith; eleven = λ e. omega arith }
    taken (no23 i a w) = record { carries = under23-25 23 _ (omega arith) (omega arith); stays = λ w n. refl; one = λ e. omega arith; eleven = λ e. omega arith }
    taken (no24 i a w) = record { carries = under23-25 24 _ (omega arith) (omega arith); stays = λ w n. refl; one = λ e. omega arith; eleven = λ e. omega arith }
    taken (no25 i a w p) = record { carries = under23-25 25 _ (omega arith) (omega arith); stays = λ w n. refl; one = λ e. omega arith; eleven = λ e. omega arith }
    taken (yes25 i a w p q) = record { carries = results.steps _ _ tt; stays = λ w n. absurd (n refl); one = λ e. omega arith; eleven = λ e. omega arith }

    go : {l : Listed} → questions.Lists m s l → Kept (timed s c) (timed' ds d) (steps_in c ds s (choosing m s d l))
    go (no12 f) = record { carries = under12 _ _ tt; stays = λ w n. refl; one = λ e. omega arith; eleven = λ e. omega arith }
    go (no13 e h l) = record { carries = under13 tt; stays = λ w n. refl; one = λ e. omega arith; eleven = λ e. omega arith }
    go (no14 e h l f) = record { carries = under14 tt; stays = λ w n. refl; one = λ e. omega arith; eleven = λ e. omega arith }
    go (yes14 {es = es} e h l f) = taken ((timing.asked m s c es h ds d (steps_in c ds s (drawn m s es d))).0 refl)

-- R.6: neither 1 nor 11 is a run's
run-not : {n : ℕ} → RunEnds n → (n ≡ 1 → ⊥) × (n ≡ 11 → ⊥)
run-not unrefused = (λ e. omega arith, λ e. omega arith)
run-not (refused12-15 a b) = (λ e. omega arith, λ e. omega arith)
run-not (refused17-19 a b) = (λ e. omega arith, λ e. omega arith)
run-not (refused23-25 a b) = (λ e. omega arith, λ e. omega arith)

run-kept : (ws vs : List ℕ) (n l : ℕ) (m : Resolved.Model) (s : State) (c : Clock) → Kept (timed s c) (run' ws vs n l) (runs_over ws vs n l m s c)
unfolding runs_over ran_as Whole
run-kept ws vs n l m s c =
    let k = run-carries ws vs n l m s c in
    record { carries = results.runs _ k; stays = λ w z. absurd w; one = (run-not k.ends).0; eleven = (run-not k.ends).1 }

-- ---- turns of state, clock and saves

-- the same of a turn from s and ss
record StoredKept (s : Timed) (ss : Saves) (r : Request) (x : Stored) : Type 0 where
  carries : Carries (on' r) (no x.number 0 0 as_lent)
  stays : (x.number ≡ 0 → ⊥) → (x.kept ≡ s) × (x.saves ≡ ss)
  one : x.number ≡ 1 → ⊥
  eleven : x.number ≡ 11 → ⊥

-- accepted, whatever it leaves; or refused, leaving all
stored-yes : (s t : Timed) (ss ts : Saves) (r : Request) → Names r → StoredKept s ss r (stored 0 t ts)
stored-yes s t ss ts r k = record { carries = results.stores k; stays = λ n. absurd (n refl); one = λ e. omega arith; eleven = λ e. omega arith }

stored_no : (n : ℕ) → 20 ≤ n → (s : Timed) (ss : Saves) (r : Request) → Carries (on' r) (no n 0 0 as_lent) → StoredKept s ss r (stored n s ss)
stored_no n l s ss r k = record { carries = k; stays = λ n. (refl, refl); one = λ e. omega arith; eleven = λ e. omega arith }

module _ (n : List ℕ) (s : Timed) (ss : Saves) where
  save-kept : StoredKept s ss (save' n) (saving n s ss)
  unfolding saving Names
  save-kept = by (is_name n) (ltb (place_for n ss) save_limit)
    where
      by : (b c : Bool) → StoredKept s ss (save' n) (cond b (cond c (stored 0 s (replaced n s ss)) (stored 22 s ss)) (stored 20 s ss))
      by true true = stored-yes s s ss _ (save' n) tt
      by true false = stored_no 22 (omega arith) s ss (save' n) save22
      by false c = stored_no 20 (omega arith) s ss (save' n) (under20 tt)

  return_kept : StoredKept s ss (return' n) (returning n s ss)
  unfolding returning Names Option-elim
  return_kept = by (is_name n) (kept_under n ss)
    where
      by : (b : Bool) (o : Option Timed) → StoredKept s ss (return' n) (cond b (Option-elim o (stored 21 s ss) (λ t. stored 0 t ss)) (stored 20 s ss))
      by true none = stored_no 21 (omega arith) s ss (return' n) return21
      by true (some t) = stored-yes s t ss ss (return' n) tt
      by false o = stored_no 20 (omega arith) s ss (return' n) (under20 tt)

  forget-kept : StoredKept s ss (forget' n) (forgetting n s ss)
  unfolding forgetting Names
  forget-kept = by (is_name n) (ltb (place_of n ss) save_limit)
    where
      by : (b c : Bool) → StoredKept s ss (forget' n) (cond b (cond c (stored 0 s (removed n ss)) (stored 21 s ss)) (stored 20 s ss))
      by true true = stored-yes s s ss _ (forget' n) tt
      by true false = stored_no 21 (omega arith) s ss (forget' n) forget21
      by false c = stored_no 20 (omega arith) s ss (forget' n) (under20 tt)

-- ---- requests

-- one that turns the state
state-kept : (r : Request) (f : Resolved.Model → State → Turn State) (h : Held) → Kept h.state r (f h.model h.state) → Kept h r (on_state f h)
unfolding on_state
state-kept r f h k = record { carries = k.carries; stays = λ w n. ap (moved h) (k.stays w n); one = k.one; eleven = k.eleven }

-- one that turns the state and the clock
clock-kept : (r : Request) (f : Resolved.Model → State → Clock → Turn Timed) (h : Held) → Kept (timed h.state h.clock) r (f h.model h.state h.clock) → Kept h r (on_clock f h)
unfolding on_clock
clock-kept r f h k = record { carries = k.carries; stays = λ w n. ap (moved_in h) (k.stays w n); one = k.one; eleven = k.eleven }

-- one that turns state, clock and saves
saves-kept : (r : Request) (f : Timed → Saves → Stored) (h : Held) → StoredKept (timed_of h) h.saves r (f (timed_of h) h.saves) → Kept h r (on_saves f h)
unfolding on_saves no
saves-kept r f h k = record {
  carries = k.carries;
  stays = λ w n. ap₂ (λ (t : Timed) (ss : Saves). stored_in h (stored 0 t ss)) (k.stays n).0 (k.stays n).1;
  one = k.one;
  eleven = k.eleven;
}

-- 02, note 10: a search is begun
begin-kept : (x : List ℕ) (d : ℕ) (m : Resolved.Model) (s : State) (o : Option Search) → Kept o (begin' x d) (begins x d m s o)
unfolding begins no
begin-kept x d m s o = by _ (is_depth d)
  where
    -- whichever search it is
    by : (y : Option Search) (b : Bool) → Kept o (begin' x d) (cond b (turn y (no 0 0 0 as_lent)) (turn o (no 26 0 0 as_lent)))
    by y true = record { carries = results.begins; stays = λ w n. absurd (n refl); one = λ e. omega arith; eleven = λ e. omega arith }
    by y false = record { carries = begin26; stays = λ w n. refl; one = λ e. omega arith; eleven = λ e. omega arith }

-- 02, note 10: and carried on
carried-kept : (n : ℕ) (x : Search) (y : Going) → CountsTo count_limit y → Kept (some x) (carry' n) (carried_as x y)
unfolding carried_as ended_as progress_as Whole
carried-kept n x (going c p) (counts l) = record { carries = under-way c l; stays = λ w z. absurd (z refl); one = λ e. omega arith; eleven = λ e. omega arith }
carried-kept n x (gone c (tree.found r)) (counts-gone l) = record { carries = results.ended c r l; stays = λ w z. absurd (z refl); one = λ e. omega arith; eleven = λ e. omega arith }
carried-kept n x (gone c tree.nothing) (counts-gone l) = record { carries = results.ended c [] l; stays = λ w z. absurd (z refl); one = λ e. omega arith; eleven = λ e. omega arith }
carried-kept n x (gone c tree.unsure) (counts-gone l) = record { carries = ended27 c l; stays = λ w z. absurd (w refl); one = λ e. omega arith; eleven = λ e. omega arith }

carry-kept : (n : ℕ) (m : Resolved.Model) (o : Option Search) → Kept o (carry' n) (carries_by n m o)
unfolding carries_by no Whole
carry-kept n m none = record { carries = under28; stays = λ w z. refl; one = λ e. omega arith; eleven = λ e. omega arith }
carry-kept n m (some x) = by (leb (x.count + n) count_limit) refl
  where
    y : Going
    y = carry_on (moves_by m x.wait) x.start x.depth n (going x.count x.mark)

    by : (b : Bool) → leb (x.count + n) count_limit ≡ b → Kept (some x) (carry' n) (cond b (carried_as x y) (turn (some x) (no 28 0 0 as_lent)))
    by true e = carried-kept n x y (counts-within (leb-true (x.count + n) count_limit e) (carry-counts (moves_by m x.wait) x.start x.depth n x.count x.mark))
    by false e = record { carries = under28; stays = λ w z. refl; one = λ e. omega arith; eleven = λ e. omega arith }

-- one that turns the search
searching-kept : (r : Request) (f : Resolved.Model → State → Option Search → Turn (Option Search)) (h : Held) → Kept h.search r (f h.model h.state h.search) → Kept h r (on_search f h)
unfolding on_search
searching-kept r f h k = record { carries = k.carries; stays = λ w n. ap (searched_in h) (k.stays w n); one = k.one; eleven = k.eleven }

kept : (r : Request) (h : Held) → Kept h r (acts r h)
unfolding acts
kept list' h = state-kept list' lists h (list-kept h.model h.state)
kept (step' d) h = state-kept (step' d) (steps_with d) h (step_kept d h.model h.state)
kept report' h = state-kept report' reports h (report-kept h.model h.state)
kept (search' x d) h = state-kept (search' x d) (searches x d) h (search-kept x d h.model h.state)
kept (timed' ds d) h = clock-kept (timed' ds d) (times_with ds d) h (timed-kept ds d h.model h.state h.clock)
kept (run' ws vs n l) h = clock-kept (run' ws vs n l) (runs_over ws vs n l) h (run-kept ws vs n l h.model h.state h.clock)
kept (save' n) h = saves-kept (save' n) (saving n) h (save-kept n (timed_of h) h.saves)
kept (return' n) h = saves-kept (return' n) (returning n) h (return_kept n (timed_of h) h.saves)
kept (forget' n) h = saves-kept (forget' n) (forgetting n) h (forget-kept n (timed_of h) h.saves)
kept (begin' x d) h = searching-kept (begin' x d) _ h (begin-kept x d h.model h.state h.search)
kept (carry' n) h = searching-kept (carry' n) _ h (carry-kept n h.model h.search)

-- ---- openings

-- what the answer to a text carries, which numbers it has not, and that a refusal closes the machine
record Opens (k : Ask) (t : Turn Machine) : Type 0 where
  carries : Carries k t.answer
  closes : (t.answer.number ≡ 0 → ⊥) → t.machine ≡ closed
  one : t.answer.number ≡ 1 → ⊥
  eleven : t.answer.number ≡ 11 → ⊥

opening-kept : (text : List ℕ) {o : Opening} → Answers text o → Opens (open' text) (opens o)
unfolding opens no
opening-kept text (no2 l) = record { carries = under2-10 2 _ (omega arith) (omega arith); closes = λ n. refl; one = λ e. omega arith; eleven = λ e. omega arith }
opening-kept text (no3 y f) = record { carries = under2-10 3 _ (omega arith) (omega arith); closes = λ n. refl; one = λ e. omega arith; eleven = λ e. omega arith }
opening-kept text (no4 y z f) = record { carries = under2-10 4 _ (omega arith) (omega arith); closes = λ n. refl; one = λ e. omega arith; eleven = λ e. omega arith }
opening-kept text (no5 y z u f) = record { carries = under2-10 5 _ (omega arith) (omega arith); closes = λ n. refl; one = λ e. omega arith; eleven = λ e. omega arith }
opening-kept text (no6 y z u v l) = record { carries = under2-10 6 _ (omega arith) (omega arith); closes = λ n. refl; one = λ e. omega arith; eleven = λ e. omega arith }
opening-kept text (no7 y z u v w f) = record { carries = under2-10 7 _ (omega arith) (omega arith); closes = λ n. refl; one = λ e. omega arith; eleven = λ e. omega arith }
opening-kept text (no8 y z u v w a f) = record { carries = under2-10 8 _ (omega arith) (omega arith); closes = λ n. refl; one = λ e. omega arith; eleven = λ e. omega arith }
opening-kept text (no9 y z u v w a b f) = record { carries = under2-10 9 _ (omega arith) (omega arith); closes = λ n. refl; one = λ e. omega arith; eleven = λ e. omega arith }
opening-kept text (no10 y z u v w a b c l) = record { carries = under2-10 10 _ (omega arith) (omega arith); closes = λ n. refl; one = λ e. omega arith; eleven = λ e. omega arith }
opening-kept text (yes_to_all y z u v w a b c d) = record { carries = results.opens; closes = λ n. absurd (n refl); one = λ e. omega arith; eleven = λ e. omega arith }

-- 02, note 11: the same under the steady profile, with 29
steady_kept : (text : List ℕ) {o : Opening} → AnswersSteady text o → Opens (open_steady' text) (opens o)
unfolding opens no
steady_kept text (no2to10 {n = n} {p = p} a) =
    let k = plain-numbers text (refused n p) a refl in
    record { carries = under2-29 n p (inl k); closes = λ n. refl; one = λ e. omega arith; eleven = λ e. omega arith }
steady_kept text (no29 a y f) = record { carries = under2-29 29 _ (inr refl); closes = λ n. refl; one = λ e. omega arith; eleven = λ e. omega arith }
steady_kept text (steady.yes_to_all a y f) = record { carries = results.opens_steady; closes = λ n. absurd (n refl); one = λ e. omega arith; eleven = λ e. omega arith }

-- ---- every call

asked-carries : (y : Machine) (k : Ask) → Carries k (asked_of_machine y k).answer
unfolding asked_of_machine on_machine
asked-carries y (open' text) = (opening-kept text (answered text)).carries
asked-carries y (open_steady' text) = (steady_kept text (answered-steady text)).carries
asked-carries closed (on' r) = under11
asked-carries (holding h) (on' r) = (kept r h).carries

-- 01, Opening a text, Listing and stepping: what an answer carries
pub carries : (y : Machine) (c : Call) → Carries c.ask (calls y c).answer
unfolding calls
carries y c = by (has_lengths c.ask c.lengths c.output)
  where
    by : (b : Bool) → Carries c.ask (cond b (asked_of_machine y c.ask) (turn y (no 1 0 0 as_lent))).answer
    by true = asked-carries y c.ask
    by false = under1

asked-stays : (y : Machine) (k : Ask) → WholeAsk k (asked_of_machine y k).answer.number → ((asked_of_machine y k).answer.number ≡ 0 → ⊥) → (asked_of_machine y k).machine ≡ y
unfolding asked_of_machine on_machine WholeAsk
asked-stays y (open' text) r n = absurd r
asked-stays y (open_steady' text) r n = absurd r
asked-stays closed (on' r) u n = refl
asked-stays (holding h) (on' r) u n = ap holding ((kept r h).stays u n)

-- 01, Listing and stepping: no refusal alters the state, but for a run's, R.7, and 02, note 10: 27 of a search that is carried on
pub refusal-stays : (y : Machine) (c : Call) → WholeAsk c.ask (calls y c).answer.number → ((calls y c).answer.number ≡ 0 → ⊥) → (calls y c).machine ≡ y
unfolding calls
refusal-stays y c = by (has_lengths c.ask c.lengths c.output)
  where
    by : (b : Bool) → WholeAsk c.ask (cond b (asked_of_machine y c.ask) (turn y (no 1 0 0 as_lent))).answer.number → ((cond b (asked_of_machine y c.ask) (turn y (no 1 0 0 as_lent))).answer.number ≡ 0 → ⊥) → (cond b (asked_of_machine y c.ask) (turn y (no 1 0 0 as_lent))).machine ≡ y
    by true r n = asked-stays y c.ask r n
    by false r n = refl

pub asked-not-1 : (y : Machine) (k : Ask) → (asked_of_machine y k).answer.number ≡ 1 → ⊥
unfolding asked_of_machine on_machine no
asked-not-1 y (open' text) e = (opening-kept text (answered text)).one e
asked-not-1 y (open_steady' text) e = (steady_kept text (answered-steady text)).one e
asked-not-1 closed (on' r) e = omega arith
asked-not-1 (holding h) (on' r) e = (kept r h).one e

-- 01, 1: exactly where a buffer that is lent lacks its length; nothing is changed
pub unlent : (y : Machine) (c : Call) → ((calls y c).answer.number ≡ 1) ↔ (Lent c → ⊥)
unfolding calls no
unlent y c = by (lent-so c)
  where
    by : {b : Bool} → Decides (Lent c) b → ((cond b (asked_of_machine y c.ask) (turn y (no 1 0 0 as_lent))).answer.number ≡ 1) ↔ (Lent c → ⊥)
    by (holds l) = (λ e h. asked-not-1 y c.ask e, λ n. absurd (n l))
    by (fails n) = (λ e. n, λ m. refl)

asked-eleven : (y : Machine) (k : Ask) → Runs k → ((asked_of_machine y k).answer.number ≡ 11) ↔ (y ≡ closed)
unfolding asked_of_machine on_machine Runs no
asked-eleven y (open' text) r = absurd r
asked-eleven y (open_steady' text) r = absurd r
asked-eleven closed (on' r) u = (λ e. refl, λ e. refl)
asked-eleven (holding h) (on' r) u = (λ e. absurd ((kept r h).eleven e), λ e. absurd (let z : ◌≡◌ {A = ℕ} 0 1 = cc in omega arith))

-- 01, 11: a no exactly where the machine is closed
pub eleven : (y : Machine) (c : Call) → Runs c.ask → Lent c → ((calls y c).answer.number ≡ 11) ↔ (y ≡ closed)
unfolding calls
eleven y c r l = rw (passes (lent-so c) l) (asked-eleven y c.ask r)

-- ---- calls that move nothing

module _ (r : Request) (stays : (h : Held) → (acts r h).machine ≡ h) where
  asked-same : (y : Machine) → (on_machine r y).machine ≡ y
  unfolding on_machine
  asked-same closed = refl
  asked-same (holding h) = ap holding (stays h)

  unmoved : (y : Machine) (l : Part → ℕ) (o : ℕ) → (calls y (call (on' r) l o)).machine ≡ y
  unfolding calls asked_of_machine
  unmoved y l o = by (has_lengths (on' r) l o)
    where
      by : (b : Bool) → (cond b (on_machine r y) (turn y (no 1 0 0 as_lent))).machine ≡ y
      by true = asked-same y
      by false = refl

-- 01, Rule machine: a list call moves nothing
pub list-stays : (y : Machine) (l : Part → ℕ) (o : ℕ) → (calls y (call (on' list') l o)).machine ≡ y
unfolding acts on_state lists showing
list-stays = unmoved list' (λ h. ap (moved h) (shown h.state (listing h.model h.state)))
  where
    shown : (s : State) (l : Listed) → (showing s l).machine ≡ s
    shown s (entries_are es) = refl
    shown s (refused_with a) = refl

-- 02, note 6: nor does a report
pub report-stays : (y : Machine) (l : Part → ℕ) (o : ℕ) → (calls y (call (on' report') l o)).machine ≡ y
unfolding acts on_state reports sharing
report-stays = unmoved report' (λ h. ap (moved h) (shared h.model h.state (listing h.model h.state)))
  where
    shared : (m : Resolved.Model) (s : State) (l : Listed) → (sharing m s l).machine ≡ s
    shared m s (entries_are es) = refl
    shared m s (refused_with a) = refl

-- 02, note 8: nor does a search
pub search-stays : (x : List ℕ) (d : ℕ) (y : Machine) (l : Part → ℕ) (o : ℕ) → (calls y (call (on' (search' x d)) l o)).machine ≡ y
unfolding acts on_state searches
search-stays x d = unmoved (search' x d) (λ h. refl)

-- 01, Opening a text: 1 changes nothing, 2 to 10 close the machine; 02, note 11: so does 29
module _ (k : Ask) (o : Opening) (is : (y : Machine) → asked_of_machine y k ≡ opens o) (h : Opens k (opens o)) where
  refused-closes : (y : Machine) (l : Part → ℕ) (n : ℕ) → ((calls y (call k l n)).answer.number ≡ 0 → ⊥) → (calls y (call k l n)).machine ≡ cond (has_lengths k l n) closed y
  unfolding calls
  refused-closes y l n = by (has_lengths k l n)
    where
      by : (b : Bool) → ((cond b (asked_of_machine y k) (turn y (no 1 0 0 as_lent))).answer.number ≡ 0 → ⊥) → (cond b (asked_of_machine y k) (turn y (no 1 0 0 as_lent))).machine ≡ cond b closed y
      by true f = ap (λ (t : Turn Machine). t.machine) (is y) ∙ h.closes (λ e. f (ap (λ (t : Turn Machine). t.answer.number) (is y) ∙ e))
      by false f = refl

pub refused-opening : (y : Machine) (text : List ℕ) (l : Part → ℕ) (o : ℕ) → ((calls y (call (open' text) l o)).answer.number ≡ 0 → ⊥)
    → (calls y (call (open' text) l o)).machine ≡ cond (has_lengths (open' text) l o) closed y
unfolding asked_of_machine
refused-opening y text l o = refused-closes (open' text) (opening text) (λ z. refl) (opening-kept text (answered text)) y l o

pub refused-steady : (y : Machine) (text : List ℕ) (l : Part → ℕ) (o : ℕ) → ((calls y (call (open_steady' text) l o)).answer.number ≡ 0 → ⊥)
    → (calls y (call (open_steady' text) l o)).machine ≡ cond (has_lengths (open_steady' text) l o) closed y
unfolding asked_of_machine
refused-steady y text l o = refused-closes (open_steady' text) (opening_steady text) (λ z. refl) (steady_kept text (answered-steady text)) y l o
