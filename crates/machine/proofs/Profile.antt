-- After an accepted opening under the steady profile, and up to the next opening, no call is answered with 18, no step raises the number of processes, and there are never more
-- than the opening left (02, note 11). By induction on the calls: every request keeps the model, which is steady, what is held is over it, and no save has more processes.
use mathlib.Core.Path.{◌≡◌, refl, sym, ap, subst, ◌∙◌}
use mathlib.Core.List.{List, [], ◌∷◌}
use mathlib.Core.Bool.{Bool, true, false, cond}
use mathlib.Core.Logic.{inl, inr, ⊎_elim}
use mathlib.Core.Option.{Option, none, some, Option-elim}
use Prim.Native.Nat.{ℕ, ◌≤◌}
use native.Mathlib.Omega.{arith}
use lib.Dec.{eqb, ltb}
use lib.ListN.{length}
use Rattle.std.specs.Prelude.{Err, Ok}
use Rattle.model.specs.Resolved
use Rattle.model.specs.Good.{Every, GoodModel}
use Rattle.model.specs.Opening.{process_limit, Opening, refused, opened}
use Rattle.model.proofs.Opened as opens
use Rattle.clock.specs.declared.Clock.{Clock}
use Rattle.clock.specs.declared.Late.{Late}
use Rattle.clock.specs.declared.Late.TheVariants.{Past}
use Rattle.clock.specs.declared.Late.TheVariants as late
use Rattle.waits.specs.declared.Unread.TheVariants as unread
use Rattle.clock.specs.Clock.{late_number, Brought, brought_by}
use Rattle.profile.specs.Opening.{opening_steady}
use Rattle.profile.specs.Steady.{Steady}
use Rattle.profile.proofs.InOrder.{answered-steady, steady-numbers}
use Rattle.profile.proofs.Opened.{opened-plain, opened-steady}
use Rattle.runs.specs.Tree as tree
use Rattle.runs.specs.Walk as walk
use Rattle.machine.specs.State.{State}
use Rattle.machine.specs.Timed.{Timed, timed}
use Rattle.machine.specs.Saves.{is_name, Saves, SavesOf, save_limit, place_of, place_for, kept_under, stored, replaced, removed, saving, returning, forgetting}
use Rattle.machine.specs.Machine.{as_lent, Answer, no, listed_as, reported_as, entry_limit, total_limit, Listed, entries_are, refused_with, counted, listing, Turn, turn, drawn, refused_as, with_wait, steps_in, times_with, ran_as, runs_over, showing, lists, sharing, reports, choosing, steps_with, found_as, moves_to, is_depth, searched_as, searches}
use Rattle.machine.specs.Machine.{Held, held, timed_of, Good, Machine, closed, holding, on_state, on_clock, on_saves, Request, list', step', report', search', timed', run', save', return', forget', Ask, open', open_steady', on', acts, Part, has_lengths, Call, call, opened_state, on_machine, asked_of_machine, calls, after, on_search, begin', carry'}
use Rattle.machine.specs.Machine as machine
use Rattle.machine.specs.Questions.{no12, no13, no14, yes14}
use Rattle.machine.specs.Questions as questions
use Rattle.machine.specs.Results.{Runs}
use Rattle.machine.specs.Steady.{processes_in, IsStep, OpensNothing, Steadily, AllSteadily}
use Rattle.machine.specs.Steady as steadily
use Rattle.machine.proofs.Listing as listing
use Rattle.machine.proofs.Keeps.{acts-good, same-model}
use Rattle.machine.proofs.Carrying.{begins-not, carries-not}
use Rattle.machine.proofs.Keeps as keeps
use Rattle.machine.proofs.Saves.{no-saves-hold, saving-holds, returning-holds, forgetting-holds}
use Rattle.machine.proofs.Running.{run-keeps}
use Rattle.machine.proofs.Steady.{Kept, drawn-kept}

-- ---- requests

-- a turn that isn't answered with 18
abbrev Not18 : {M : Type 0} → Turn M → Type 0
Not18 t = t.answer.number ≡ 18 → ⊥

module _ (m : Resolved.Model) (s : State) where
  list-not : Not18 (lists m s)
  unfolding lists showing no listed_as
  list-not = by ((listing.asked m s (listing m s)).0 refl)
    where
      by : {l : Listed} → questions.Lists m s l → Not18 (showing s l)
      by (no12 f) = λ e. omega arith
      by (no13 e h l) = λ e. omega arith
      by (no14 e h l f) = λ e. omega arith
      by (yes14 e h l f) = λ e. omega arith

  report-not : Not18 (reports m s)
  unfolding reports sharing no reported_as
  report-not = by ((listing.asked m s (listing m s)).0 refl)
    where
      by : {l : Listed} → questions.Lists m s l → Not18 (sharing m s l)
      by (no12 f) = λ e. omega arith
      by (no13 e h l) = λ e. omega arith
      by (no14 e h l f) = λ e. omega arith
      by (yes14 e h l f) = λ e. omega arith

  search-not : (x : List ℕ) (d : ℕ) → Not18 (searches x d m s)
  unfolding searches searched_as found_as no
  search-not x d = by (is_depth d) (walk.search (moves_to m x) s d)
    where
      by : (b : Bool) (w : tree.Answer) → (cond b (searched_as w) (no 26 0 0 as_lent)).number ≡ 18 → ⊥
      by true (tree.found r) e = omega arith
      by true tree.nothing e = omega arith
      by true tree.unsure e = omega arith
      by false w e = omega arith

  list-few : length (lists m s).machine.processes ≤ length s.processes
  unfolding lists showing
  list-few = by (listing m s)
    where
      by : (l : Listed) → length (showing s l).machine.processes ≤ length s.processes
      by (entries_are es) = omega arith
      by (refused_with a) = omega arith

  report-few : length (reports m s).machine.processes ≤ length s.processes
  unfolding reports sharing
  report-few = by (listing m s)
    where
      by : (l : Listed) → length (sharing m s l).machine.processes ≤ length s.processes
      by (entries_are es) = omega arith
      by (refused_with a) = omega arith

  step_kept : Steady m → (d : ℕ) → Kept s (steps_with d m s)
  unfolding steps_with choosing no
  step_kept k d = by ((listing.asked m s (listing m s)).0 refl)
    where
      by : {l : Listed} → questions.Lists m s l → Kept s (choosing m s d l)
      by (no12 f) = record { few = omega arith; not-eighteen = λ l e. omega arith }
      by (no13 e h l) = record { few = omega arith; not-eighteen = λ l e. omega arith }
      by (no14 e h l f) = record { few = omega arith; not-eighteen = λ l e. omega arith }
      by (yes14 {es = es} e h l f) = drawn-kept m k s es d

-- 02, note 4: the clock is brought forward, or that is refused with 23 to 25
late-not : (l : Late) → late_number l ≡ 18 → ⊥
late-not (late.Wait unread.Ended) e = omega arith
late-not (late.Wait unread.Long) e = omega arith
late-not Past e = omega arith

-- a timed step keeps what its step keeps
module _ (s : State) (c : Clock) (ds : List ℕ) (t : Turn State) (k : Kept s t) where
  timed-few : length (steps_in c ds s t).machine.state.processes ≤ length s.processes
  unfolding steps_in with_wait
  timed-few = by (eqb t.answer.number 0) (brought_by c ds t.answer.total)
    where
      by : (a : Bool) (b : Brought) → length (cond a (with_wait s c t b) (turn (timed t.machine c) t.answer)).machine.state.processes ≤ length s.processes
      by false b = k.few
      by true (Ok c') = k.few
      by true (Err l) = omega arith

  timed-not : length s.processes ≤ process_limit → Not18 (steps_in c ds s t)
  unfolding steps_in with_wait refused_as
  timed-not l = by (eqb t.answer.number 0) (brought_by c ds t.answer.total)
    where
      by : (a : Bool) (b : Brought) → Not18 (cond a (with_wait s c t b) (turn (timed t.machine c) t.answer))
      by false b = k.not-eighteen l
      by true (Ok c') = k.not-eighteen l
      by true (Err e) = late-not e

-- a run keeps what its timed steps keep
run-steady : (ws vs : List ℕ) (n l : ℕ) (h : Held) → Steady h.model → length h.state.processes ≤ process_limit
    → let t = runs_over ws vs n l h.model h.state h.clock in (length t.machine.state.processes ≤ length h.state.processes) × (t.answer.number ≡ 18 → ⊥)
unfolding runs_over ran_as times_with
run-steady ws vs n l h k few =
    run-keeps ws vs h.model (λ t. length t.state.processes ≤ length h.state.processes) (λ a. a ≡ 18 → ⊥) (λ e. omega arith)
    (λ ds d t f g. by ds d t g) n _ h.state h.clock (omega arith)
  where
    by : (ds : List ℕ) (d : ℕ) (t : Timed) → length t.state.processes ≤ length h.state.processes
        → let x = times_with ds d h.model t.state t.clock in (length x.machine.state.processes ≤ length h.state.processes) × (x.answer.number ≡ 18 → ⊥)
    by ds d t g =
        let a = step_kept h.model t.state k d in
        (omega (arith, timed-few t.state t.clock ds _ a), timed-not t.state t.clock ds _ a (omega arith))

-- what is kept of all that is held
module _ (n : List ℕ) (s : Timed) (ss : Saves) where
  save-not : (saving n s ss).number ≡ 18 → ⊥
  unfolding saving
  save-not = by (is_name n) (ltb (place_for n ss) save_limit)
    where
      by : (b c : Bool) → (cond b (cond c (stored 0 s (replaced n s ss)) (stored 22 s ss)) (stored 20 s ss)).number ≡ 18 → ⊥
      by true true e = omega arith
      by true false e = omega arith
      by false c e = omega arith

  return-not : (returning n s ss).number ≡ 18 → ⊥
  unfolding returning Option-elim
  return-not = by (is_name n) (kept_under n ss)
    where
      by : (b : Bool) (o : Option Timed) → (cond b (Option-elim o (stored 21 s ss) (λ t. stored 0 t ss)) (stored 20 s ss)).number ≡ 18 → ⊥
      by true none e = omega arith
      by true (some t) e = omega arith
      by false o e = omega arith

  forget-not : (forgetting n s ss).number ≡ 18 → ⊥
  unfolding forgetting
  forget-not = by (is_name n) (ltb (place_of n ss) save_limit)
    where
      by : (b c : Bool) → (cond b (cond c (stored 0 s (removed n ss)) (stored 21 s ss)) (stored 20 s ss)).number ≡ 18 → ⊥
      by true true e = omega arith
      by true false e = omega arith
      by false c e = omega arith

-- n processes at most
abbrev Few : ℕ → Timed → Type 0
Few n t = length t.state.processes ≤ n

-- a steady model, with all that is held over it, and n processes at most, in every save too
record Fit (n : ℕ) (h : Held) : Type 0 where
  steady : Steady h.model
  model : GoodModel h.model
  good : Good h
  now : Few n (timed_of h)
  kept : SavesOf (Few n) h.saves

request-not : {n : ℕ} (r : Request) (h : Held) → Fit n h → (acts r h).answer.number ≡ 18 → ⊥
unfolding acts on_state on_clock times_with on_saves on_search no
request-not list' h f = list-not h.model h.state
request-not (step' d) h f = (step_kept h.model h.state f.steady d).not-eighteen f.good.state.few-processes
request-not report' h f = report-not h.model h.state
request-not (search' x d) h f = search-not h.model h.state x d
request-not (timed' ds d) h f = timed-not h.state h.clock ds _ (step_kept h.model h.state f.steady d) f.good.state.few-processes
request-not (run' ws vs n l) h f = (run-steady ws vs n l h f.steady f.good.state.few-processes).1
request-not (save' n) h f = save-not n (timed_of h) h.saves
request-not (return' n) h f = return-not n (timed_of h) h.saves
request-not (forget' n) h f = forget-not n (timed_of h) h.saves
request-not (begin' x d) h f = begins-not x d h.model h.state h.search
request-not (carry' n) h f = carries-not n h.model h.search

step-few : {n : ℕ} (r : Request) (h : Held) → Fit n h → IsStep r → length (acts r h).machine.state.processes ≤ length h.state.processes
unfolding acts on_state on_clock times_with IsStep
step-few list' h f i = absurd i
step-few (step' d) h f i = (step_kept h.model h.state f.steady d).few
step-few report' h f i = absurd i
step-few (search' x d) h f i = absurd i
step-few (timed' ds d) h f i = timed-few h.state h.clock ds _ (step_kept h.model h.state f.steady d)
step-few (run' ws vs n l) h f i = (run-steady ws vs n l h f.steady f.good.state.few-processes).0
step-few (save' n) h f i = absurd i
step-few (return' n) h f i = absurd i
step-few (forget' n) h f i = absurd i
step-few (begin' x d) h f i = absurd i
step-few (carry' n) h f i = absurd i

-- what is held afterwards has n processes at most
record Within (n : ℕ) (h : Held) : Type 0 where
  now : Few n (timed_of h)
  kept : SavesOf (Few n) h.saves

request-within : {n : ℕ} (r : Request) (h : Held) → Fit n h → Within n (acts r h).machine
unfolding acts on_state on_clock times_with on_saves on_search
request-within list' h f = record { now = omega (arith, list-few h.model h.state, f.now); kept = f.kept }
request-within (step' d) h f = record { now = omega (arith, (step_kept h.model h.state f.steady d).few, f.now); kept = f.kept }
request-within report' h f = record { now = omega (arith, report-few h.model h.state, f.now); kept = f.kept }
request-within (search' x d) h f = record { now = unfold searches in f.now; kept = f.kept }
request-within (timed' ds d) h f = record { now = omega (arith, timed-few h.state h.clock ds _ (step_kept h.model h.state f.steady d), f.now); kept = f.kept }
request-within (run' ws vs k l) h f = record { now = omega (arith, (run-steady ws vs k l h f.steady f.good.state.few-processes).0, f.now); kept = f.kept }
request-within {n} (save' k) h f = let x = saving-holds (Few n) k (timed_of h) h.saves f.now f.kept in record { now = x.kept; kept = x.saves }
request-within {n} (return' k) h f = let x = returning-holds (Few n) k (timed_of h) h.saves f.now f.kept in record { now = x.kept; kept = x.saves }
request-within {n} (forget' k) h f = let x = forgetting-holds (Few n) k (timed_of h) h.saves f.now f.kept in record { now = x.kept; kept = x.saves }
request-within (begin' x d) h f = record { now = f.now; kept = f.kept }
request-within (carry' k) h f = record { now = f.now; kept = f.kept }

request-fit : {n : ℕ} (r : Request) (h : Held) → Fit n h → Fit n (acts r h).machine
request-fit r h f =
    let w = request-within r h f in
    record { steady = rw (same-model r h) f.steady; model = rw (same-model r h) f.model; good = acts-good r h f.model f.good; now = w.now; kept = w.kept }

-- ---- calls

-- a machine that holds such a model
record Held-fit (n : ℕ) (y : Machine) : Type 0 where
  held : Held
  is : y ≡ holding held
  fit : Fit n held

module _ {n : ℕ} (h : Held) (f : Fit n h) where
  -- a call whose turn is this one
  turned : (c : Call) (t : Turn Machine) → calls (holding h) c ≡ t → (t.answer.number ≡ 18 → ⊥) → ((r : Request) → c.ask ≡ on' r → IsStep r → processes_in t.machine ≤ processes_in (holding h)) → Held-fit n t.machine
      → Steadily (holding h) c × Held-fit n (calls (holding h) c).machine
  turned c t e a b d = (
    record {
      not-eighteen = λ q. a (ap (λ (u : Turn Machine). u.answer.number) (sym e) ∙ q);
      no_more = λ r p i. subst (λ (u : Turn Machine). processes_in u.machine ≤ processes_in (holding h)) (sym e) (b r p i);
    },
    subst (λ (u : Turn Machine). Held-fit n u.machine) (sym e) d,
  )

  same-request : {r q : Request} → on' r ≡ on' q → r ≡ q
  same-request p = cc

  asked-steadily : (r : Request) (l : Part → ℕ) (o : ℕ) → has_lengths (on' r) l o ≡ true → Steadily (holding h) (call (on' r) l o) × Held-fit n (calls (holding h) (call (on' r) l o)).machine
  unfolding calls asked_of_machine on_machine processes_in
  asked-steadily r l o e =
      turned (call (on' r) l o) (on_machine r (holding h)) (rw e) (request-not r h f)
      (λ q p i. step-few r h f (subst (λ (k : Request). IsStep k) (sym (same-request p)) i))
      (record { held = (acts r h).machine; is = refl; fit = request-fit r h f })

  unasked-steadily : (c : Call) → has_lengths c.ask c.lengths c.output ≡ false → Steadily (holding h) c × Held-fit n (calls (holding h) c).machine
  unfolding calls no
  unasked-steadily c e =
      turned c (turn (holding h) (no 1 0 0 as_lent)) (rw e) (λ q. omega arith) (λ r p i. omega arith) (record { held = h; is = refl; fit = f })

  call-steadily : (c : Call) → OpensNothing c → Steadily (holding h) c × Held-fit n (calls (holding h) c).machine
  call-steadily c g = by c.ask refl (has_lengths c.ask c.lengths c.output) refl g
    where
      never : (k : Ask) → c.ask ≡ k → (Runs k → ⊥) → has_lengths c.ask c.lengths c.output ≡ true → OpensNothing c → Steadily (holding h) c × Held-fit n (calls (holding h) c).machine
      never k e r t (inl x) = absurd (r (subst (λ (k : Ask). Runs k) e x))
      never k e r t (inr x) = unasked-steadily c x

      by : (k : Ask) → c.ask ≡ k → (b : Bool) → has_lengths c.ask c.lengths c.output ≡ b → OpensNothing c → Steadily (holding h) c × Held-fit n (calls (holding h) c).machine
      by k e false t g = unasked-steadily c t
      by (open' text) e true t g = unfold Runs in never (open' text) e (λ x. x) t g
      by (open_steady' text) e true t g = unfold Runs in never (open_steady' text) e (λ x. x) t g
      by (on' r) e true t g =
          let d : call (on' r) c.lengths c.output ≡ c = ap (λ (k : Ask). call k c.lengths c.output) (sym e) in
          subst (λ (x : Call). Steadily (holding h) x × Held-fit n (calls (holding h) x).machine) d (asked-steadily r c.lengths c.output (ap (λ (k : Ask). has_lengths k c.lengths c.output) (sym e) ∙ t))

from-fit : {n : ℕ} (y : Machine) → Held-fit n y → (cs : List Call) → Every OpensNothing cs → AllSteadily y cs
unfolding Every
from-fit y f [] g = steadily.none
from-fit {n} y f (c ∷ cs) g =
    let t : Steadily y c × Held-fit n (calls y c).machine = subst (λ (z : Machine). Steadily z c × Held-fit n (calls z c).machine) (sym f.is) (call-steadily f.held f.fit c g.0) in
    steadily.more t.0 (from-fit (calls y c).machine t.1 cs g.1)

fit-after : {n : ℕ} (y : Machine) → Held-fit n y → (cs : List Call) → Every OpensNothing cs → Held-fit n (after y cs)
unfolding Every after
fit-after y f [] g = f
fit-after {n} y f (c ∷ cs) g =
    let t : Steadily y c × Held-fit n (calls y c).machine = subst (λ (z : Machine). Steadily z c × Held-fit n (calls z c).machine) (sym f.is) (call-steadily f.held f.fit c g.0) in
    fit-after (calls y c).machine t.1 cs g.1

few-in : {n : ℕ} (y : Machine) → Held-fit n y → processes_in y ≤ n
unfolding processes_in
few-in {n} y f = subst (λ (z : Machine). processes_in z ≤ n) (sym f.is) f.fit.now

-- ---- the opening

opened-fit : (text : List ℕ) (m : Resolved.Model) → opening_steady text ≡ opened m → Fit (length (opened_state m).processes) (held m (opened_state m))
opened-fit text m e =
    let p = opened-plain text m e in
    let g = opens.opened-good text m p in
    record { steady = opened-steady text m e; model = g; good = keeps.opened-good m g (opens.opened-few text m p); now = omega arith; kept = no-saves-hold (Few (length (opened_state m).processes)) }

steady-holds : (y : Machine) (text : List ℕ) (l : Part → ℕ) (o : ℕ) → let t = calls y (call (open_steady' text) l o) in t.answer.number ≡ 0 → Held-fit (processes_in t.machine) t.machine
unfolding calls asked_of_machine machine.opens no processes_in
steady-holds y text l o e = by (has_lengths (open_steady' text) l o) (opening_steady text) refl e
  where
    by : (b : Bool) (r : Opening) → opening_steady text ≡ r → let t = cond b (machine.opens r) (turn y (no 1 0 0 as_lent)) in t.answer.number ≡ 0 → Held-fit (processes_in t.machine) t.machine
    by false r q e = absurd (omega arith)
    by true (refused n p) q e = absurd (⊎_elim (λ k. omega (arith, k.0)) (λ k. omega arith) (steady-numbers text (opening_steady text) (answered-steady text) q))
    by true (opened m) q e = record { held = held m (opened_state m); is = refl; fit = opened-fit text m q }

-- 02, note 11: whatever the machine did before, once a text is opened under the profile, each call up to the next opening
pub steady-calls : (y : Machine) (text : List ℕ) (l : Part → ℕ) (o : ℕ) → (calls y (call (open_steady' text) l o)).answer.number ≡ 0
    → (cs : List Call) → Every OpensNothing cs → AllSteadily (calls y (call (open_steady' text) l o)).machine cs
steady-calls y text l o e cs g = from-fit _ (steady-holds y text l o e) cs g

-- 02, note 11: and after them there are no more processes than the opening left
pub steady-within : (y : Machine) (text : List ℕ) (l : Part → ℕ) (o : ℕ) → (calls y (call (open_steady' text) l o)).answer.number ≡ 0
    → (cs : List Call) → Every OpensNothing cs → let z = (calls y (call (open_steady' text) l o)).machine in processes_in (after z cs) ≤ processes_in z
steady-within y text l o e cs g = few-in _ (fit-after _ (steady-holds y text l o e) cs g)
