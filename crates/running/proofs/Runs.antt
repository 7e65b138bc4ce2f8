-- One step of a run, in each of its cases, and what an accepted timed step answers. By cases of the listing, of the words and of questions 15 to 25.
use mathlib.Core.Path.{◌≡◌, refl, sym, ap, ◌∙◌}
use mathlib.Core.Bool.{Bool, true, false, cond}
use mathlib.Core.List.{List, [], ◌∷◌}
use mathlib.Core.Option.{some}
use Prim.Native.Nat.{ℕ, suc, ◌+◌, ◌-◌, ◌≤◌, ◌<◌}
use native.Mathlib.Omega.{arith}
use borrow.Author.Tests.{eq-eqb, ne_eqb}
use lib.Dec.{eqb}
use lib.ListN.{length, drop, get_elem?, length-append}
use Rattle.std.specs.Prelude.{None, Some, Ok}
use Rattle.waits.specs.declared.Run.TheVariants as reading
use Rattle.waits.specs.declared.Run as reading-of
use Rattle.waits.specs.Runs.{read, settled, waiting, wait_of}
use Rattle.waits.specs.ByRuns.{Waits}
use Rattle.waits.proofs.Same.{by_runs}
use Rattle.words.specs.Words.{draw_of, Drawn}
use Rattle.clock.specs.declared.Clock.{Clock}
use Rattle.clock.specs.Clock.{InRange}
use Rattle.model.specs.Resolved
use Rattle.model.specs.Good.{GoodModel}
use Rattle.rules.specs.Rules.{Nth, first, later}
use Rattle.rules.specs.Listing.{Entry}
use Rattle.rules.specs.Draw.{weights, total}
use Rattle.machine.specs.State.{State, GoodState}
use Rattle.machine.specs.Timed.{Timed, timed, GoodTimed}
use Rattle.machine.specs.Saves.{no_saves}
use Rattle.machine.specs.Machine.{filled, zeroed, no, listed_as, Listed, entries_are, refused_with, listing, Turn, accepting, drawn, showing, lists, choosing, steps_with, steps_in, times_with, held_all, on_clock, timed', acts, GoodSearching}
use Rattle.machine.specs.Questions.{Steps, no15, no16, no17, no18, no19, yes19, Times, no15-19, no23, no24, no25, yes25}
use Rattle.machine.proofs.Branches.{nth-get}
use Rattle.machine.proofs.Saves.{no-saves-hold}
use Rattle.machine.proofs.Listing as listings
use Rattle.machine.proofs.Timing as timing
use Rattle.machine.proofs.Keeps.{acts-good}
use Rattle.machine.specs.Machine.{Run, ended_with, Next, on, over, event_of, longer, follows, draw_at, drawn_step, run_step, going_on, running}
use Rattle.machine.specs.Runs.{run_of, is_over}
use Rattle.running.proofs.Parts.{ok_second}

-- ---- one step
module _ (ws vs : List ℕ) (m : Resolved.Model) (r : Run) where
  abbrev s : State
  s = r.timed.state

  abbrev k : Clock
  k = r.timed.clock

  module _ (x : Listed) (e : listing m s ≡ x) where
    step_so : (w : Drawn) → draw_at (showing s x).answer.total (drop r.words ws) ≡ w → run_step ws vs m r ≡ drawn_step vs m r w
    unfolding run_step lists
    step_so w q = ap (λ (y : Listed). drawn_step vs m r (draw_at (showing s y).answer.total (drop r.words ws))) e ∙ ap (drawn_step vs m r) q

    given_so : (d u : ℕ) → drawn_step vs m r (Some (d, u)) ≡ follows u (steps_in k (drop r.waiting vs) s (choosing m s d x)) r
    unfolding drawn_step times_with steps_with
    given_so d u = ap (λ (y : Listed). follows u (steps_in k (drop r.waiting vs) s (choosing m s d y)) r) e

    ended_so : drawn_step vs m r None ≡ over (ended_with 0 (showing s x).answer.count (showing s x).answer.total r.timed r)
    unfolding drawn_step lists
    ended_so = ap (λ (y : Listed). over (ended_with 0 (showing s y).answer.count (showing s y).answer.total r.timed r)) e

  -- 12 to 14
  pub refused-step : (n p b : ℕ) → listing m s ≡ refused_with (no n p b zeroed) → (n ≡ 0 → ⊥) → run_step ws vs m r ≡ over (ended_with n 0 0 (timed s k) r)
  refused-step n p b e h = step_so (refused_with (no n p b zeroed)) e (Some (0, 0)) nothing-drawn ∙ given_so (refused_with (no n p b zeroed)) e 0 0 ∙ refuses
    where
      nothing-drawn : draw_at (showing s (refused_with (no n p b zeroed))).answer.total (drop r.words ws) ≡ Some (0, 0)
      nothing-drawn = unfold showing no draw_at in refl

      refuses : follows 0 (steps_in k (drop r.waiting vs) s (choosing m s 0 (refused_with (no n p b zeroed)))) r ≡ over (ended_with n 0 0 (timed s k) r)
      refuses = unfold choosing no steps_in follows in rw (ne_eqb n 0 h, ne_eqb n 0 h) refl

  module _ (es : List Entry) (e : listing m s ≡ entries_are es) where
    -- 15
    pub dead-step : total (weights es) ≡ 0 → run_step ws vs m r ≡ over (ended_with 15 (length es) (total (weights es)) (timed s k) r)
    dead-step z = step_so (entries_are es) e (Some (0, 0)) nothing-drawn ∙ given_so (entries_are es) e 0 0 ∙ refuses
      where
        nothing-drawn : draw_at (showing s (entries_are es)).answer.total (drop r.words ws) ≡ Some (0, 0)
        nothing-drawn = unfold showing listed_as draw_at in rw (eq-eqb (total (weights es)) 0 z) refl

        refuses : follows 0 (steps_in k (drop r.waiting vs) s (choosing m s 0 (entries_are es))) r ≡ over (ended_with 15 (length es) (total (weights es)) (timed s k) r)
        refuses = unfold choosing drawn listed_as steps_in follows in rw (eq-eqb (total (weights es)) 0 z) refl

    module _ (above : total (weights es) ≡ 0 → ⊥) where
      drawn-so : (w : Drawn) → draw_of (total (weights es)) (drop r.words ws) ≡ w → draw_at (showing s (entries_are es)).answer.total (drop r.words ws) ≡ w
      unfolding showing listed_as draw_at
      drawn-so w q = rw (ne_eqb (total (weights es)) 0 above) q

      pub words-end : draw_of (total (weights es)) (drop r.words ws) ≡ None → run_step ws vs m r ≡ over (ended_with 0 (length es) (total (weights es)) r.timed r)
      unfolding showing listed_as
      words-end q = step_so (entries_are es) e None (drawn-so None q) ∙ ended_so (entries_are es) e

      pub draw-step : (d u : ℕ) → draw_of (total (weights es)) (drop r.words ws) ≡ Some (d, u) → run_step ws vs m r ≡ follows u (steps_in k (drop r.waiting vs) s (drawn m s es d)) r
      unfolding choosing
      draw-step d u q = step_so (entries_are es) e (Some (d, u)) (drawn-so (Some (d, u)) q) ∙ given_so (entries_are es) e d u

-- ---- steps after one another
pub zero-steps : (ws vs : List ℕ) (m : Resolved.Model) (r : Run) → running 0 ws vs m r ≡ r
unfolding running
zero-steps ws vs m r = refl

module _ (n : ℕ) (ws vs : List ℕ) (m : Resolved.Model) (r : Run) where
  goes_on : (x : Next) → run_step ws vs m r ≡ x → is_over x ≡ false → running (suc n) ws vs m r ≡ running n ws vs m (run_of x)
  unfolding running going_on is_over run_of
  goes_on (on y) e q = ap (λ (x : Next). going_on x (running n ws vs m)) e
  goes_on (over y) e q = absurd (let z : ◌≡◌ {A = ℕ} 0 1 = cc in omega arith)

  is-over : (x : Next) → run_step ws vs m r ≡ x → is_over x ≡ true → running (suc n) ws vs m r ≡ run_of x
  unfolding running going_on is_over run_of
  is-over (on y) e q = absurd (let z : ◌≡◌ {A = ℕ} 0 1 = cc in omega arith)
  is-over (over y) e q = ap (λ (x : Next). going_on x (running n ws vs m)) e

  pub next-on : is_over (run_step ws vs m r) ≡ false → running (suc n) ws vs m r ≡ running n ws vs m (run_of (run_step ws vs m r))
  next-on q = goes_on (run_step ws vs m r) refl q

  pub next-over : is_over (run_step ws vs m r) ≡ true → running (suc n) ws vs m r ≡ run_of (run_step ws vs m r)
  next-over q = is-over (run_step ws vs m r) refl q

-- a timed step that is accepted, and one that is refused
pub follows_on : (u : ℕ) (t : Turn Timed) (r : Run) → t.answer.number ≡ 0 → follows u t r ≡ on (longer u t r)
unfolding follows
follows_on u t r e = rw (eq-eqb t.answer.number 0 e) refl

pub follows-over : (u : ℕ) (t : Turn Timed) (r : Run) → (t.answer.number ≡ 0 → ⊥) → follows u t r ≡ over (ended_with t.answer.number t.answer.count t.answer.total t.machine r)
unfolding follows
follows-over u t r e = rw (ne_eqb t.answer.number 0 e) refl

-- a step after which the run goes on has an event
follows-longer : (u : ℕ) (t : Turn Timed) (r : Run) → is_over (follows u t r) ≡ false → length (run_of (follows u t r)).events ≡ length r.events + 1
unfolding follows
follows-longer u t r q = by (eqb t.answer.number 0) q
  where
    by : (b : Bool) → let x = cond b (on (longer u t r)) (over (ended_with t.answer.number t.answer.count t.answer.total t.machine r)) in is_over x ≡ false → length (run_of x).events ≡ length r.events + 1
    by true q = unfold run_of in length-append r.events (event_of t ∷ [])
    by false q = absurd (unfold is_over in let z : ◌≡◌ {A = ℕ} 0 1 = cc in omega arith)

pub on-longer : (ws vs : List ℕ) (m : Resolved.Model) (r : Run) → is_over (run_step ws vs m r) ≡ false → length (run_of (run_step ws vs m r)).events ≡ length r.events + 1
unfolding run_step
on-longer ws vs m r q = by (draw_at (lists m r.timed.state).answer.total (drop r.words ws)) q
  where
    by : (w : Drawn) → is_over (drawn_step vs m r w) ≡ false → length (run_of (drawn_step vs m r w)).events ≡ length r.events + 1
    by (Some (d, u)) q = unfold drawn_step in follows-longer u (times_with (drop r.waiting vs) d m r.timed.state r.timed.clock) r q
    by None q = absurd (unfold drawn_step is_over in let z : ◌≡◌ {A = ℕ} 0 1 = cc in omega arith)

-- ---- waiting draws

-- no more are used than there are
waits-within : (x : reading-of.Run) (n : ℕ) (ds : List ℕ) (e u : ℕ) → waiting x n ds ≡ Ok (e, u) → u ≤ n + length ds
unfolding waiting settled
waits-within x n [] e u q = absurd (let z : ◌≡◌ {A = ℕ} 0 1 = cc in omega arith)
waits-within x n (d ∷ ds) e u q = by (read x d) q (λ y p. waits-within y (n + 1) ds e u p)
  where
    by : (y : reading-of.Run) → settled y (n + 1) (waiting y (n + 1) ds) ≡ Ok (e, u) → ((y : reading-of.Run) → waiting y (n + 1) ds ≡ Ok (e, u) → u ≤ n + 1 + length ds) → u ≤ n + suc (length ds)
    by (reading.Before i) p h = omega (arith, h (reading.Before i) p)
    by (reading.In i a b o) p h = omega (arith, h (reading.In i a b o) p)
    by (reading.Known f) p h = let z : n + 1 ≡ u = ok_second p in omega arith
    by reading.Over p h = absurd (let z : ◌≡◌ {A = ℕ} 0 1 = cc in omega arith)

pub used-within : {ds : List ℕ} {e u : ℕ} → Waits 0 ds (Ok (e, u)) → u ≤ length ds
unfolding wait_of
used-within {ds} {e} {u} w = omega (arith, waits-within (reading.Before 0) 0 ds e u ((by_runs ds (Ok (e, u))).0 w))

-- ---- an accepted timed step

nth-below : {A : Type 0} {xs : List A} {n : ℕ} {x : A} → Nth xs n x → n < length xs
nth-below first = omega arith
nth-below (later h) = omega (arith, nth-below h)

-- the entry that it took
pub record Took (es : List Entry) (c : ℕ) : Type 0 where
  pub entry : Entry
  pub at : get_elem? es c ≡ some entry
  pub below : c < length es

took : {m : Resolved.Model} {s s' : State} {es : List Entry} {d : ℕ} (i : ℕ) → Steps m s es d (accepting s' es i) → Took es i
unfolding listed_as
took {m} {s} {s'} {es} {d} i a = by refl refl a
  where
    by : {t : Turn State} → t.answer.number ≡ 0 → t.answer.chosen ≡ i → Steps m s es d t → Took es i
    by z e (no15 f) = absurd (omega arith)
    by z e (no16 l f) = absurd (omega arith)
    by z e (no17 o f) = absurd (omega arith)
    by z e (no18 r f) = absurd (omega arith)
    by z e (no19 r f g) = absurd (omega arith)
    by z e (yes19 r f g) = rw (sym e) (record { entry = _; at = nth-get r.chosen.entry; below = nth-below r.chosen.entry })

-- what its answer carries, and how far its clock goes on
pub record Carries (s : State) (k : Clock) (ds : List ℕ) (es : List Entry) (t : Turn Timed) : Type 0 where
  pub place : t.answer.place ≡ 0
  pub branch : t.answer.branch ≡ 0
  pub count : t.answer.count ≡ length es
  pub total : t.answer.total ≡ total (weights es)
  pub listing : t.answer.listing ≡ filled es
  pub took : t.answer.number ≡ 0 → Took es t.answer.chosen
  pub stays : (t.answer.number ≡ 0 → ⊥) → t.machine ≡ timed s k
  pub later : t.answer.number ≡ 0 → k.draws ≤ t.machine.clock.draws
  pub used : t.answer.number ≡ 0 → t.machine.clock.draws - k.draws ≤ length ds

module _ (m : Resolved.Model) (s : State) (k : Clock) (es : List Entry) (e : listing m s ≡ entries_are es) (ds : List ℕ) (d : ℕ) where
  pub carries : Carries s k ds es (steps_in k ds s (drawn m s es d))
  unfolding listed_as
  carries = by ((timing.asked m s k es ((listings.accepted m s es).0 e).1 ds d (steps_in k ds s (drawn m s es d))).0 refl)
    where
      by : {t : Turn Timed} → Times m s k es ds d t → Carries s k ds es t
      by (no15-19 n l a) = record { place = refl; branch = refl; count = refl; total = refl; listing = refl; took = λ z. absurd (omega arith); stays = λ z. refl; later = λ z. absurd (omega arith); used = λ z. absurd (omega arith) }
      by (no23 i a w) = record { place = refl; branch = refl; count = refl; total = refl; listing = refl; took = λ z. absurd (omega arith); stays = λ z. refl; later = λ z. absurd (omega arith); used = λ z. absurd (omega arith) }
      by (no24 i a w) = record { place = refl; branch = refl; count = refl; total = refl; listing = refl; took = λ z. absurd (omega arith); stays = λ z. refl; later = λ z. absurd (omega arith); used = λ z. absurd (omega arith) }
      by (no25 i a w p) = record { place = refl; branch = refl; count = refl; total = refl; listing = refl; took = λ z. absurd (omega arith); stays = λ z. refl; later = λ z. absurd (omega arith); used = λ z. absurd (omega arith) }
      by (yes25 i a w p q) = record { place = refl; branch = refl; count = refl; total = refl; listing = refl; took = λ z. took i a; stays = λ z. absurd (z refl); later = λ z. omega arith; used = λ z. omega (arith, used-within w) }

-- a state over the model and a clock in its range stay such
pub timed-good : (m : Resolved.Model) (s : State) (k : Clock) → GoodModel m → GoodState m s → InRange k → (ds : List ℕ) (d : ℕ) → GoodTimed m (times_with ds d m s k).machine
unfolding acts on_clock
timed-good m s k g h i ds d =
    let a = acts-good (timed' ds d) (held_all m s no_saves k) g (record { state = h; saves = no-saves-hold (GoodTimed m); clock = i; search = unfold GoodSearching in tt }) in
    record { state = a.state; clock = a.clock }
