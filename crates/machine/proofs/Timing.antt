-- A timed step answers questions 15 to 19 as the step does, then 23 to 25 as 02 asks them, and moves the state and the clock, or neither. By cases of the step's answer, and of what the draws come to.
use mathlib.Core.Path.{◌≡◌, refl, ap}
use mathlib.Core.List.{List}
use mathlib.Core.Bool.{Bool, true, false, cond, ◌&&◌}
use mathlib.Core.Logic.{◌↔◌, ◌⊎◌, inl, inr}
use Prim.Native.Nat.{ℕ, ◌≤◌, ◌<◌}
use native.Mathlib.Omega.{arith}
use borrow.Author.Tests.{leb-true, leb-false, le-leb, lt-leb, ne_eqb}
use lib.Dec.{leb}
use Rattle.std.specs.Prelude.{Err, Ok}
use Rattle.waits.specs.declared.Unread.TheVariants.{Ended, Long}
use Rattle.waits.specs.Runs.{wait_of, Wait}
use Rattle.waits.specs.ByRuns.{Waits}
use Rattle.waits.proofs.Same.{by_runs}
use Rattle.clock.specs.declared.Clock.{Clock}
use Rattle.clock.specs.declared.Late.TheVariants.{Past}
use Rattle.clock.specs.Clock.{clock_limit, forwarded, waited, brought_by}
use Rattle.model.specs.Resolved
use Rattle.rules.specs.Listing.{Entry}
use Rattle.rules.specs.Draw.{weights, total}
use Rattle.machine.specs.State.{State}
use Rattle.machine.specs.Timed.{Timed, timed}
use Rattle.machine.specs.Machine.{Answer, no, listed_as, Listed, entries_are, refused_with, Turn, turn, refusing, accepting, drawn, refused_as, with_wait, steps_in}
use Rattle.machine.specs.Questions.{IsListing, Lists, no12, no13, no14, yes14, Steps, no15, no16, no17, no18, no19, yes19, later_by, Times, no15-19, no23, no24, no25, yes25}
use Rattle.machine.proofs.Stepping as stepping

-- where a number of the clock would pass its range, and where none does
module _ (c : Clock) (e t u : ℕ) where
  abbrev fits : Bool
  fits = leb (later_by c e t u).ticks clock_limit && leb (later_by c e t u).draws clock_limit

  beyond : fits ≡ false → (clock_limit < (later_by c e t u).ticks) ⊎ (clock_limit < (later_by c e t u).draws)
  beyond p = by (leb (later_by c e t u).ticks clock_limit) refl p
    where
      by : (b : Bool) → leb (later_by c e t u).ticks clock_limit ≡ b → (b && leb (later_by c e t u).draws clock_limit) ≡ false
          → (clock_limit < (later_by c e t u).ticks) ⊎ (clock_limit < (later_by c e t u).draws)
      by true q p = inr (leb-false _ _ p)
      by false q p = inl (leb-false _ _ q)

  within : fits ≡ true → ((later_by c e t u).ticks ≤ clock_limit) × ((later_by c e t u).draws ≤ clock_limit)
  within p = by (leb (later_by c e t u).ticks clock_limit) refl p
    where
      by : (b : Bool) → leb (later_by c e t u).ticks clock_limit ≡ b → (b && leb (later_by c e t u).draws clock_limit) ≡ true
          → ((later_by c e t u).ticks ≤ clock_limit) × ((later_by c e t u).draws ≤ clock_limit)
      by true q p = (leb-true _ _ q, leb-true _ _ p)
      by false q p = absurd (let z : ◌≡◌ {A = ℕ} 0 1 = cc in omega arith)

  passes : (clock_limit < (later_by c e t u).ticks) ⊎ (clock_limit < (later_by c e t u).draws) → fits ≡ false
  passes (inl l) = rw (lt-leb _ clock_limit l) refl
  passes (inr l) = by (leb (later_by c e t u).ticks clock_limit)
    where
      by : (b : Bool) → (b && leb (later_by c e t u).draws clock_limit) ≡ false
      by true = lt-leb _ clock_limit l
      by false = refl

-- the number of a listing's answer
abbrev number_of : Listed → ℕ
number_of (entries_are es) = 0
number_of (refused_with a) = a.number

-- a step that is refused has a number from 15 to 19
pub step-numbers : {m : Resolved.Model} {s : State} {es : List Entry} {d : ℕ} (n : ℕ) → 0 < n → Steps m s es d (refusing s es n) → (15 ≤ n) × (n ≤ 19)
unfolding listed_as
step-numbers {m} {s} {es} {d} n l a = by refl a
  where
    by : {t : Turn State} → t.answer.number ≡ n → Steps m s es d t → (15 ≤ n) × (n ≤ 19)
    by e (no15 f) = (omega arith, omega arith)
    by e (no16 l f) = (omega arith, omega arith)
    by e (no17 o f) = (omega arith, omega arith)
    by e (no18 r f) = (omega arith, omega arith)
    by e (no19 r f g) = (omega arith, omega arith)
    by e (yes19 r f g) = absurd (omega arith)

module _ (m : Resolved.Model) (s : State) (c : Clock) (es : List Entry) (h : IsListing m s es) (ds : List ℕ) (d : ℕ) where
  abbrev sum : ℕ
  sum = total (weights es)

  -- ---- from the function to the questions

  accepted : {s' : State} (i : ℕ) → Steps m s es d (accepting s' es i) → Times m s c es ds d (steps_in c ds s (accepting s' es i))
  unfolding steps_in with_wait brought_by waited forwarded listed_as refused_as
  accepted {s'} i a = by (wait_of ds) ((by_runs ds (wait_of ds)).1 refl)
    where
      ahead : (e u : ℕ) → Waits 0 ds (Ok (e, u)) → (b : Bool) → fits c e sum u ≡ b
          → Times m s c es ds d (with_wait s c (accepting s' es i) (cond b (Ok (later_by c e sum u)) (Err Past)))
      ahead e u w true q = let f = within c e sum u q in yes25 i a w f.0 f.1
      ahead e u w false q = no25 i a w (beyond c e sum u q)

      by : (w : Wait) → Waits 0 ds w → Times m s c es ds d (with_wait s c (accepting s' es i) (waited c sum w))
      by (Ok (e, u)) w = ahead e u w (fits c e sum u) refl
      by (Err Ended) w = no23 i a w
      by (Err Long) w = no24 i a w

  step-asked : {t : Turn State} → Steps m s es d t → Times m s c es ds d (steps_in c ds s t)
  unfolding steps_in listed_as
  step-asked (no15 e) = no15-19 15 (omega arith) (no15 e)
  step-asked (no16 l g) = no15-19 16 (omega arith) (no16 l g)
  step-asked (no17 o g) = no15-19 17 (omega arith) (no17 o g)
  step-asked (no18 r l) = no15-19 18 (omega arith) (no18 r l)
  step-asked (no19 r l f) = no15-19 19 (omega arith) (no19 r l f)
  step-asked (yes19 r l f) = accepted _ (yes19 r l f)

  -- ---- and back

  steps-so : {t : Turn State} → Steps m s es d t → drawn m s es d ≡ t
  steps-so {t} a = (stepping.asked m s es h d t).1 a

  says : {t : Turn Timed} → Times m s c es ds d t → steps_in c ds s (drawn m s es d) ≡ t
  unfolding steps_in with_wait brought_by waited forwarded listed_as refused_as
  says (no15-19 n l a) = rw (steps-so a, ne_eqb n 0 (omega arith)) refl
  says (no23 i a w) = rw (steps-so a, (by_runs ds (Err Ended)).0 w) refl
  says (no24 i a w) = rw (steps-so a, (by_runs ds (Err Long)).0 w) refl
  says (no25 {e = e} {u = u} i a w p) = rw (steps-so a, (by_runs ds (Ok (e, u))).0 w, passes c e sum u p) refl
  says (yes25 {e = e} {u = u} i a w p q) = rw (steps-so a, (by_runs ds (Ok (e, u))).0 w, le-leb _ clock_limit p, le-leb _ clock_limit q) refl

  -- 02, note 4: 23 to 25 exactly under their conditions, in order
  pub asked : (t : Turn Timed) → (steps_in c ds s (drawn m s es d) ≡ t) ↔ Times m s c es ds d t
  asked t = (λ e. rw e at (step-asked ((stepping.asked m s es h d (drawn m s es d)).0 refl)), says)

-- a listing that is refused refuses a timed step
pub refused-stays : {m : Resolved.Model} {s : State} {c : Clock} {a : Answer} (ds : List ℕ) → Lists m s (refused_with a) → steps_in c ds s (turn s a) ≡ turn (timed s c) a
unfolding steps_in
refused-stays {m} {s} {c} {a} ds h = rw (ne_eqb a.number 0 (not-zero h refl)) refl
  where
    not-zero : {k : Listed} → Lists m s k → k ≡ refused_with a → a.number ≡ 0 → ⊥
    not-zero (no12 f) e z = unfold no in let n : 12 ≡ a.number = ap number_of e in omega arith
    not-zero (no13 f g l) e z = unfold no in let n : 13 ≡ a.number = ap number_of e in omega arith
    not-zero (no14 f g l k) e z = unfold no in let n : 14 ≡ a.number = ap number_of e in omega arith
    not-zero (yes14 f g l k) e z = absurd (let z : ◌≡◌ {A = ℕ} 0 1 = cc in omega arith)
