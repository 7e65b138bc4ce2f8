-- What stays true throughout a run, and how it can end (docs/DECISIONS.md, R.5 to R.7). By induction over its steps, each a timed step of the machine.
use mathlib.Core.Path.{◌≡◌, refl}
use mathlib.Core.Bool.{Bool, true, false, cond}
use mathlib.Core.List.{List, [], ◌∷◌}
use Prim.Native.Nat.{ℕ, zero, suc, ◌+◌, ◌/◌, ◌%◌, ◌≤◌, ◌<◌, min}
use native.Mathlib.Nat.{mod-lt, div-add-mod}
use native.Mathlib.Omega.{arith}
use borrow.Author.Tests.{eqb-true}
use lib.Dec.{eqb}
use lib.ListN.{drop, length-append}
use Rattle.std.specs.Prelude.{None, Some}
use Rattle.words.specs.Words.{word_values, is_used, drawing, draw_of, Drawn}
use Rattle.clock.specs.declared.Clock.{Clock}
use Rattle.model.specs.Resolved
use Rattle.rules.specs.Listing.{Entry}
use Rattle.rules.specs.Draw.{weights, total}
use Rattle.machine.specs.State.{State}
use Rattle.machine.specs.Timed.{Timed, timed}
use Rattle.machine.specs.Machine.{event_width, Listed, listing, no, listed_as, Turn, refusing, drawn, showing, lists, choosing, steps_with, steps_in, times_with}
use Rattle.machine.specs.Machine.{Run, steps_of, begun, Next, on, over, ended_with, event_of, longer, follows, draw_at, drawn_step, run_step, going_on, running, runs_with}
use Rattle.machine.specs.Questions.{Lists, no12, no13, no14, yes14, Steps, no15, no16, no17, no18, no19, yes19, Times, no15-19, no23, no24, no25, yes25}
use Rattle.machine.specs.Results.{RunEnds, unrefused, refused12-15, refused17-19, refused23-25, RunCarries}
use Rattle.machine.specs.Runs.{run_of}
use Rattle.machine.proofs.Listing as listings
use Rattle.machine.proofs.Timing as timing

-- ---- draws from words

unfoldable Below : ℕ → Drawn → Type 0
Below t (Some (d, u)) = (t ≡ 0 → ⊥) → d < t
Below t None = Unit {0}

above_zero : (t : ℕ) → (t ≡ 0 → ⊥) → 0 < t
above_zero zero n = absurd (n refl)
above_zero (suc t) n = omega arith

drawing-below : (t n : ℕ) (ws : List ℕ) → Below t (drawing t n ws)
unfolding drawing
drawing-below t n [] = unfold Below in tt
drawing-below t n (w ∷ ws) = by (is_used word_values t w) (drawing-below t (n + 1) ws)
  where
    by : (b : Bool) → Below t (drawing t (n + 1) ws) → Below t (cond b (Some (w % t, n + 1)) (drawing t (n + 1) ws))
    by true h = unfold Below in λ z. mod-lt w (above_zero t z)
    by false h = h

-- a draw at a total above 0 is below it
draws-below : (t : ℕ) (ws : List ℕ) → Below t (draw_at t ws)
unfolding draw_at draw_of
draws-below t ws = by (eqb t 0) refl
  where
    by : (b : Bool) → eqb t 0 ≡ b → Below t (cond b (Some (0, 0)) (drawing t 0 ws))
    by true e = unfold Below in λ z. absurd (z (eqb-true t 0 e))
    by false e = drawing-below t 0 ws

-- ---- what timed steps keep, runs keep

-- a draw that words give here
abbrev pub Fair : Resolved.Model → State → ℕ → Type 0
Fair m s d = ((lists m s).answer.total ≡ 0 → ⊥) → d < (lists m s).answer.total

module _ (ws vs : List ℕ) (m : Resolved.Model) (P : Timed → Type 0) (Q : ℕ → Type 0) (zero_is : Q 0) (step : (ds : List ℕ) (d : ℕ) (t : Timed) → Fair m t.state d → P t → let x = times_with ds d m t.state t.clock in P x.machine × Q x.answer.number) where
  abbrev Keeps : Run → Type 0
  Keeps r = P r.timed × Q r.number

  follows-keeps : (u : ℕ) (t : Turn Timed) (r : Run) → P t.machine × Q t.answer.number → Keeps (run_of (follows u t r))
  unfolding follows
  follows-keeps u t r k = by (eqb t.answer.number 0)
    where
      by : (b : Bool) → Keeps (run_of (cond b (on (longer u t r)) (over (ended_with t.answer.number t.answer.count t.answer.total t.machine r))))
      by true = unfold run_of in (k.0, zero_is)
      by false = unfold run_of in (k.0, k.1)

  step_keeps : (r : Run) → P r.timed → Keeps (run_of (run_step ws vs m r))
  unfolding run_step
  step_keeps r p = by (draw_at (lists m r.timed.state).answer.total (drop r.words ws)) (draws-below (lists m r.timed.state).answer.total (drop r.words ws))
    where
      by : (w : Drawn) → Below (lists m r.timed.state).answer.total w → Keeps (run_of (drawn_step vs m r w))
      by (Some (d, u)) l = unfold drawn_step in follows-keeps u (times_with (drop r.waiting vs) d m r.timed.state r.timed.clock) r (step (drop r.waiting vs) d r.timed (unfold Below in l) p)
      by None l = unfold drawn_step run_of in (p, zero_is)

  steps-keep : (n : ℕ) (r : Run) → Keeps r → Keeps (running n ws vs m r)
  unfolding running
  steps-keep zero r k = k
  steps-keep (suc n) r k = by (run_step ws vs m r) (step_keeps r k.0) (steps-keep n)
    where
      by : (x : Next) → Keeps (run_of x) → ((r : Run) → Keeps r → Keeps (running n ws vs m r)) → Keeps (going_on x (running n ws vs m))
      by (on y) h go = unfold going_on in go y (unfold run_of in h)
      by (over y) h go = unfold going_on in unfold run_of in h

  pub run-keeps : (limit room : ℕ) (s : State) (c : Clock) → P (timed s c) → Keeps (runs_with limit room ws vs m s c)
  unfolding runs_with
  run-keeps limit room s c p = steps-keep (min limit room) (begun (timed s c)) (p, zero_is)

-- ---- how many steps

module _ (ws vs : List ℕ) (m : Resolved.Model) where
  -- one more, or none
  Longer : Run → Next → Type 0
  Longer r (on y) = steps_of y ≡ steps_of r + 1
  Longer r (over y) = steps_of y ≡ steps_of r

  follows-longer : (u : ℕ) (t : Turn Timed) (r : Run) → Longer r (follows u t r)
  unfolding follows
  follows-longer u t r = by (eqb t.answer.number 0)
    where
      by : (b : Bool) → Longer r (cond b (on (longer u t r)) (over (ended_with t.answer.number t.answer.count t.answer.total t.machine r)))
      by true = unfold Longer in length-append r.events (event_of t ∷ [])
      by false = unfold Longer in refl

  step-longer : (r : Run) → Longer r (run_step ws vs m r)
  unfolding run_step
  step-longer r = by (draw_at (lists m r.timed.state).answer.total (drop r.words ws))
    where
      by : (w : Drawn) → Longer r (drawn_step vs m r w)
      by (Some (d, u)) = unfold drawn_step in follows-longer u (times_with (drop r.waiting vs) d m r.timed.state r.timed.clock) r
      by None = unfold drawn_step Longer in refl

  few-steps : (n : ℕ) (r : Run) → steps_of (running n ws vs m r) ≤ steps_of r + n
  unfolding running
  few-steps zero r = omega arith
  few-steps (suc n) r = by (run_step ws vs m r) (step-longer r) (few-steps n)
    where
      by : (x : Next) → Longer r x → ((r : Run) → steps_of (running n ws vs m r) ≤ steps_of r + n) → steps_of (going_on x (running n ws vs m)) ≤ steps_of r + suc n
      by (on y) h go = unfold going_on in let k : steps_of y ≡ steps_of r + 1 = unfold Longer in h in omega (arith, go y)
      by (over y) h go = unfold going_on in let k : steps_of y ≡ steps_of r = unfold Longer in h in omega arith

-- ---- how it can end

module _ (m : Resolved.Model) (s : State) (c : Clock) (ds : List ℕ) (d : ℕ) where
  refused-not-16 : {es : List Entry} (n : ℕ) → 0 < n → ((total (weights es) ≡ 0 → ⊥) → d < total (weights es)) → Steps m s es d (refusing s es n) → RunEnds n
  unfolding listed_as
  refused-not-16 {es} n l f a = by refl a
    where
      by : {t : Turn State} → t.answer.number ≡ n → Steps m s es d t → RunEnds n
      by e (no15 g) = refused12-15 {n = n} (omega arith) (omega arith)
      by e (no16 p g) = absurd (omega (arith, f (λ z. omega arith)))
      by e (no17 o g) = refused17-19 {n = n} (omega arith) (omega arith)
      by e (no18 r g) = refused17-19 {n = n} (omega arith) (omega arith)
      by e (no19 r g h) = refused17-19 {n = n} (omega arith) (omega arith)
      by e (yes19 r g h) = absurd (omega arith)

  timed-ends : Fair m s d → RunEnds (times_with ds d m s c).answer.number
  unfolding times_with steps_with lists showing choosing steps_in no listed_as
  timed-ends = go ((listings.asked m s (listing m s)).0 refl)
    where
      taken : {es : List Entry} {t : Turn Timed} → ((total (weights es) ≡ 0 → ⊥) → d < total (weights es)) → Times m s c es ds d t → RunEnds t.answer.number
      taken f (no15-19 n l a) = refused-not-16 n l f a
      taken f (no23 i a w) = refused23-25 {n = 23} (omega arith) (omega arith)
      taken f (no24 i a w) = refused23-25 {n = 24} (omega arith) (omega arith)
      taken f (no25 i a w p) = refused23-25 {n = 25} (omega arith) (omega arith)
      taken f (yes25 i a w p q) = unrefused

      go : {l : Listed} → Lists m s l → (((showing s l).answer.total ≡ 0 → ⊥) → d < (showing s l).answer.total) → RunEnds (steps_in c ds s (choosing m s d l)).answer.number
      go (no12 e) f = refused12-15 {n = 12} (omega arith) (omega arith)
      go (no13 e h l) f = refused12-15 {n = 13} (omega arith) (omega arith)
      go (no14 e h l g) f = refused12-15 {n = 14} (omega arith) (omega arith)
      go (yes14 {es = es} e h l g) f = taken {es = es} f ((timing.asked m s c es h ds d (steps_in c ds s (drawn m s es d))).0 refl)

pub run-carries : (ws vs : List ℕ) (n l : ℕ) (m : Resolved.Model) (s : State) (c : Clock) → RunCarries ws vs n l (runs_with n (l / event_width) ws vs m s c)
run-carries ws vs n l m s c =
    let k : steps_of (runs_with n (l / event_width) ws vs m s c) ≤ min n (l / event_width) = unfold runs_with in omega (arith, few-steps ws vs m (min n (l / event_width)) (begun (timed s c))) in
    record {
      ends = (run-keeps ws vs m (λ t. Unit {0}) RunEnds unrefused (λ ds d t f p. (tt, timed-ends m t.state t.clock ds d f)) n (l / event_width) s c tt).1;
      limit = omega arith;
      room = omega (arith, div-add-mod l event_width);
    }
