-- What the machine holds stays over its model: at an opening, and by every request, one lemma for each.
use mathlib.Core.Path.{◌≡◌, refl}
use mathlib.Core.List.{List}
use mathlib.Core.Bool.{Bool, true, false, cond, ◌&&◌}
use mathlib.Core.Option.{Option}
use Prim.Native.Nat.{ℕ, ◌+◌, ◌≤◌}
use native.Mathlib.Omega.{arith}
use borrow.Author.Tests.{leb-true}
use lib.Dec.{eqb, leb}
use Rattle.std.specs.Prelude.{Err, IfOk, Ok}
use Rattle.waits.specs.Runs.{wait_of, Wait}
use Rattle.clock.specs.declared.Clock.{Clock}
use Rattle.clock.specs.declared.Late.TheVariants.{Past}
use Rattle.clock.specs.Clock.{clock_limit, InRange, ticks_of, Brought, forwarded, waited, brought_by}
use Rattle.model.specs.Resolved
use Rattle.model.specs.Opening.{process_limit}
use Rattle.model.specs.Opening as opening
use Rattle.model.specs.Good.{GoodModel}
use Rattle.rules.specs.Listing.{Entry}
use Rattle.machine.specs.State.{State, GoodState}
use Rattle.machine.specs.Timed.{Timed, timed, GoodTimed}
use Rattle.machine.specs.Saves.{Saves, Stored, saving, returning, forgetting}
use Rattle.machine.specs.Machine.{Listed, entries_are, refused_with, listing, Turn, turn, drawn, with_wait, steps_in, times_with, runs_over, showing, lists, sharing, reports, choosing, steps_with, searches, Held, held, timed_of, Good, on_state, on_clock, on_saves, Request, list', step', report', search', timed', run', save', return', forget', acts, opened_state, Search, GoodSearching, on_search, begin', carry'}
use Rattle.machine.specs.Questions.{Steps, no15, no16, no17, no18, no19, yes19}
use Rattle.machine.proofs.Listing.{accepted}
use Rattle.machine.proofs.Stepping as stepping
use Rattle.machine.proofs.Running.{run-keeps}
use Rattle.machine.proofs.Carrying.{begins-good, carries-good}
use Rattle.machine.proofs.Stays as stays
use Rattle.machine.proofs.Saves.{no-saves-hold, StoredOf, saving-holds, returning-holds, forgetting-holds}

-- 01, Open
pub opened-good : (m : Resolved.Model) → GoodModel m → opening.processes_at_start m.definitions m.starts ≤ process_limit → Good (held m (opened_state m))
opened-good m g few = record { state = stays.opened-good m g few; saves = no-saves-hold (GoodTimed m); clock = record { ticks = omega arith; draws = omega arith }; search = unfold GoodSearching in tt }

-- ---- turns of a state

module _ (m : Resolved.Model) (s : State) (g : GoodState m s) where
  list-good : GoodState m (lists m s).machine
  unfolding lists showing
  list-good = by (listing m s)
    where
      by : (l : Listed) → GoodState m (showing s l).machine
      by (entries_are es) = g
      by (refused_with a) = g

  report-good : GoodState m (reports m s).machine
  unfolding reports sharing
  report-good = by (listing m s)
    where
      by : (l : Listed) → GoodState m (sharing m s l).machine
      by (entries_are es) = g
      by (refused_with a) = g

  search-good : (x : List ℕ) (d : ℕ) → GoodState m (searches x d m s).machine
  unfolding searches
  search-good x d = g

  step-good : GoodModel m → (d : ℕ) → GoodState m (steps_with d m s).machine
  unfolding steps_with choosing
  step-good k d = by (listing m s) refl
    where
      taken : {es : List Entry} {t : Turn State} → Steps m s es d t → GoodState m t.machine
      taken (no15 e) = g
      taken (no16 l h) = g
      taken (no17 o h) = g
      taken (no18 r l) = g
      taken (no19 r l f) = g
      taken (yes19 r l f) = stays.step-good m k s g r l f

      by : (l : Listed) → listing m s ≡ l → GoodState m (choosing m s d l).machine
      by (entries_are es) e = taken ((stepping.asked m s es ((accepted m s es).0 e).1 d (drawn m s es d)).0 refl)
      by (refused_with a) e = g

-- ---- turns of a state and a clock

-- 02, note 4: a clock in its range stays in it
forward-good : (c : Clock) (t u : ℕ) → InRange c → IfOk (forwarded c t u) InRange
unfolding forwarded
forward-good c t u g = by (leb (c.ticks + t) clock_limit) refl (leb (c.draws + u) clock_limit) refl
  where
    by : (a : Bool) → leb (c.ticks + t) clock_limit ≡ a → (b : Bool) → leb (c.draws + u) clock_limit ≡ b
        → IfOk (cond (a && b) (Ok (record { ticks = c.ticks + t; draws = c.draws + u })) (Err Past)) InRange
    by true p true q = record { ticks = leb-true _ _ p; draws = leb-true _ _ q }
    by true p false q = tt
    by false p b q = tt

brought-good : (c : Clock) (ds : List ℕ) (sum : ℕ) → InRange c → IfOk (brought_by c ds sum) InRange
unfolding brought_by waited
brought-good c ds sum g = by (wait_of ds)
  where
    by : (w : Wait) → IfOk (waited c sum w) InRange
    by (Ok (e, u)) = forward-good c (ticks_of e sum) u g
    by (Err l) = tt

module _ (m : Resolved.Model) (s : State) (c : Clock) (k : GoodModel m) (g : GoodState m s) (r : InRange c) (ds : List ℕ) (d : ℕ) where
  times-good : GoodTimed m (times_with ds d m s c).machine
  unfolding times_with steps_in with_wait
  times-good = by (steps_with d m s) (brought_by c ds (steps_with d m s).answer.total) (step-good m s g k d) (brought-good c ds (steps_with d m s).answer.total r)
    where
      by : (t : Turn State) (b : Brought) → GoodState m t.machine → IfOk b InRange
          → let u = cond (eqb t.answer.number 0) (with_wait s c t b) (turn (timed t.machine c) t.answer) in GoodTimed m u.machine
      by t b h i = go (eqb t.answer.number 0) b i
        where
          go : (x : Bool) (b : Brought) → IfOk b InRange → let u = cond x (with_wait s c t b) (turn (timed t.machine c) t.answer) in GoodTimed m u.machine
          go true (Ok k) i = record { state = h; clock = i }
          go true (Err l) i = record { state = g; clock = r }
          go false b i = record { state = h; clock = r }

-- R.7: a run keeps what its timed steps keep
runs-good : (ws vs : List ℕ) (n l : ℕ) (m : Resolved.Model) (s : State) (c : Clock) → GoodModel m → GoodState m s → InRange c → GoodTimed m (runs_over ws vs n l m s c).machine
unfolding runs_over
runs-good ws vs n l m s c k g r =
    (run-keeps ws vs m (GoodTimed m) (λ a. Unit {0}) tt (λ ds d t f h. (times-good m t.state t.clock k h.state h.clock ds d, tt)) n _ s c (record { state = g; clock = r })).0

-- ---- requests

-- one that turns the state
state-good : (f : Resolved.Model → State → Turn State) (h : Held) → Good h → GoodState h.model (f h.model h.state).machine → Good (on_state f h).machine
unfolding on_state
state-good f h g k = record { state = k; saves = g.saves; clock = g.clock; search = g.search }

-- 02, note 4: the state and the clock
clock-good : (f : Resolved.Model → State → Clock → Turn Timed) (h : Held) → Good h → GoodTimed h.model (f h.model h.state h.clock).machine → Good (on_clock f h).machine
unfolding on_clock
clock-good f h g k = record { state = k.state; saves = g.saves; clock = k.clock; search = g.search }

timed-good : (h : Held) → Good h → GoodTimed h.model (timed_of h)
timed-good h g = record { state = g.state; clock = g.clock }

-- one that turns state, clock and saves
saves-good : (f : Timed → Saves → Stored) (h : Held) → Good h → StoredOf (GoodTimed h.model) (f (timed_of h) h.saves) → Good (on_saves f h).machine
unfolding on_saves
saves-good f h g k = record { state = k.kept.state; saves = k.saves; clock = k.kept.clock; search = g.search }

-- 02, note 10: one that turns the search
search-good-in : (f : Resolved.Model → State → Option Search → Turn (Option Search)) (h : Held) → Good h → GoodSearching h.model (f h.model h.state h.search).machine → Good (on_search f h).machine
unfolding on_search
search-good-in f h g k = record { state = g.state; saves = g.saves; clock = g.clock; search = k }

pub acts-good : (r : Request) (h : Held) → GoodModel h.model → Good h → Good (acts r h).machine
unfolding acts
acts-good list' h k g = state-good lists h g (list-good h.model h.state g.state)
acts-good (step' d) h k g = state-good (steps_with d) h g (step-good h.model h.state g.state k d)
acts-good report' h k g = state-good reports h g (report-good h.model h.state g.state)
acts-good (search' x d) h k g = state-good (searches x d) h g (search-good h.model h.state g.state x d)
acts-good (timed' ds d) h k g = clock-good (times_with ds d) h g (times-good h.model h.state h.clock k g.state g.clock ds d)
acts-good (run' ws vs n l) h k g = clock-good (runs_over ws vs n l) h g (runs-good ws vs n l h.model h.state h.clock k g.state g.clock)
acts-good (save' n) h k g = saves-good (saving n) h g (saving-holds (GoodTimed h.model) n (timed_of h) h.saves (timed-good h g) g.saves)
acts-good (return' n) h k g = saves-good (returning n) h g (returning-holds (GoodTimed h.model) n (timed_of h) h.saves (timed-good h g) g.saves)
acts-good (forget' n) h k g = saves-good (forgetting n) h g (forgetting-holds (GoodTimed h.model) n (timed_of h) h.saves (timed-good h g) g.saves)
acts-good (begin' x d) h k g = search-good-in _ h g (begins-good x d h.model h.state h.search g.state g.search)
acts-good (carry' n) h k g = search-good-in _ h g (carries-good n h.model h.search g.search)

-- 01, Rule machine: no request alters the model
pub same-model : (r : Request) (h : Held) → (acts r h).machine.model ≡ h.model
unfolding acts on_state on_clock on_saves on_search
same-model list' h = refl
same-model (step' d) h = refl
same-model report' h = refl
same-model (search' x d) h = refl
same-model (timed' ds d) h = refl
same-model (run' ws vs n l) h = refl
same-model (save' n) h = refl
same-model (return' n) h = refl
same-model (forget' n) h = refl
same-model (begin' x d) h = refl
same-model (carry' n) h = refl
