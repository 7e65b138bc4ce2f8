-- What each return of a run says: 11, and what the run came to, as the effect of the call has it.
use mathlib.Core.Path.{◌≡◌, refl, sym, ap, ◌∙◌}
use mathlib.Core.List.{List}
use mathlib.Core.Bool.{Bool, true, false, ◌&&◌, and-true}
use mathlib.Core.Option.{Option, none, some, Option-elim}
use Prim.Native.Nat.{ℕ, ◌/◌}
use borrow.Author.Tests.{eqb-true, eq-eqb}
use lib.Dec.{eqb}
use lib.IntN.{ℤ}
use lib.ListN.{length}
use Rattle.std.specs.Prelude.{Err, Ok}
use Rattle.clock.specs.declared.Clock.{Clock}
use Rattle.clock.specs.Clock.{InRange, is_in_range}
use Rattle.clock.proofs.Bringing.{both-in}
use Rattle.model.specs.Resolved
use Rattle.machine.specs.State.{State, state_length, state_numbers}
use Rattle.machine.specs.Machine.{model_length, event_width, no, Run, runs_with, ran_as, runs_over, held, moved_in, Machine, closed, holding, on_clock, Request, run', acts, Part, model, state, saves, clock, search, two_parts, timed_parts, uses, on', is_lent, all_parts, has_lengths, on_machine}
use Rattle.machine.proofs.Lent.{both_true}
use Rattle.buffers.specs.Held.{held_in}
use Rattle.buffers.specs.Listing.{shown}
use Rattle.buffers.specs.Parts.{Engine, clock_numbers, numbers_of, is_part, read_held, lent_two, lent_timed}
use Rattle.buffers.specs.Effect.{machine_over, untouched, left_in, leaves, requested, answered, effect}
use Rattle.buffers.proofs.Clocks.{held_at, clocked, timed-over}
use Rattle.running.specs.declared.Progress.{Progress}
use Rattle.running.specs.declared.Given.{Given}
use Rattle.running.specs.Progress.{Stands}
use Rattle.simulation.specs.declared.Refusal.TheVariants.{Lengths, NotHeld}
use Rattle.simulation.specs.Comes.{Comes, are_parts_long}

-- 01, Listing, 11: changes nothing
pub eleven-ran : (r : Request) (x : Engine) (l : List ℕ) (k : Clock) → Comes (leaves (uses r) x l (on_machine r closed)) k (Err NotHeld) x l
unfolding leaves on_machine left_in no shown
eleven-ran r x l k = record { number = refl; steps = refl; words = refl; waiting = refl; count = refl; total = refl; buffers = λ p. refl; output = refl }

pub none-ran : (r : Request) (x : Engine) (l : List ℕ) (k : Clock) → Comes (requested r x l none) k (Err NotHeld) x l
unfolding requested machine_over
none-ran r x l k = eleven-ran r x l k

-- ---- 11 of a model's tables, of a call that is lent the state and the clock
module _ (bs : List ℕ) (zs : List ℤ) (m : Resolved.Model) (c : Clock) where
  abbrev X : Engine
  X = lent_timed bs zs c

  two-same : machine_over two_parts X (some m) ≡ machine_over two_parts (lent_two bs zs) (some m)
  unfolding machine_over lent_timed lent_two all_parts is_part read_held is_lent
  two-same = refl

  over-is : machine_over timed_parts X (some m) ≡ clocked (machine_over two_parts (lent_two bs zs) (some m)) (clock_numbers c)
  unfolding lent_timed
  over-is = timed-over X (some m) ∙ ap (λ (y : Machine). clocked y (clock_numbers c)) two-same

  pub closed-is : machine_over two_parts (lent_two bs zs) (some m) ≡ closed → machine_over timed_parts X (some m) ≡ closed
  unfolding clocked
  closed-is e = over-is ∙ ap (λ (y : Machine). clocked y (clock_numbers c)) e

  pub held-is : (s : State) → machine_over two_parts (lent_two bs zs) (some m) ≡ holding (held m s) → InRange c → machine_over timed_parts X (some m) ≡ holding (held_at m s c)
  unfolding clocked
  held-is s holds range = over-is ∙ ap (λ (y : Machine). clocked y (clock_numbers c)) holds ∙ rw (sym (both-in c range.ticks range.draws)) refl

module _ (bs : List ℕ) (zs : List ℤ) (m : Resolved.Model) (c : Clock) (ws vs : List ℕ) (n : ℕ) (l : List ℕ) where
  abbrev R : Request
  R = run' ws vs n (length l)

  abbrev Y : Engine
  Y = lent_timed bs zs c

  pub closed-ran : machine_over two_parts (lent_two bs zs) (some m) ≡ closed → Comes (requested R Y l (some m)) c (Err NotHeld) Y l
  unfolding requested
  closed-ran e = rw (closed-is bs zs m c e) (eleven-ran R Y l c)

  module _ (s : State) (holds : machine_over two_parts (lent_two bs zs) (some m) ≡ holding (held m s)) (range : InRange c) where
    abbrev r : Run
    r = runs_with n (length l / event_width) ws vs m s c

    left-timed : (ys : List ℤ) (k : Clock) → ys ≡ state_numbers r.timed.state → k ≡ r.timed.clock → (p : Part) → lent_timed bs ys k p ≡ left_in timed_parts Y (holding (moved_in (held_at m s c) r.timed)) p
    unfolding lent_timed left_in is_lent numbers_of
    left-timed ys k e f model = refl
    left-timed ys k e f state = e
    left-timed ys k e f saves = refl
    left-timed ys k e f clock = ap clock_numbers f
    left-timed ys k e f search = refl

    pub ran-so : {given : Given} (ys : List ℤ) (es : List ℕ) (q : Progress) → Stands given l ys es q m r
        → Comes (requested R Y l (some m)) c (Ok q) (lent_timed bs ys q.clock) es
    unfolding requested leaves on_machine acts on_clock runs_over ran_as shown
    ran-so ys es q h = rw (held-is bs zs m c s holds range) (record {
      number = h.number;
      steps = h.steps;
      words = h.words;
      waiting = h.waiting;
      count = h.count;
      total = h.total;
      buffers = left-timed ys q.clock h.lent.stands.numbers h.clock;
      output = h.events;
    })

-- ---- questions 1 and 11, and the text in the model buffer

pub long-both : (a b : ℕ) → are_parts_long a b ≡ true → (a ≡ model_length) × (b ≡ state_length)
unfolding are_parts_long
long-both a b e = let h = both_true (eqb a model_length) _ e in (eqb-true _ _ h.0, eqb-true _ _ h.1)

module _ (bs : List ℕ) (zs : List ℤ) (c : Clock) (ws vs : List ℕ) (n : ℕ) (l : List ℕ) where
  abbrev x : Engine
  x = lent_timed bs zs c

  abbrev q : Request
  q = run' ws vs n (length l)

  lengths : has_lengths (on' q) (λ (p : Part). length (x p)) (length l) ≡ are_parts_long (length bs) (length zs)
  unfolding has_lengths all_parts lent_timed are_parts_long Option-elim
  lengths = ap (λ (b : Bool). (eqb (length bs) model_length && b) && eqb (length l) (length l)) (and-true (eqb (length zs) state_length)) ∙ rw (eq-eqb (length l) (length l) refl) (and-true _)

  untouched-ran : Comes (untouched x l) c (Err Lengths) x l
  unfolding untouched no
  untouched-ran = record { number = refl; steps = refl; words = refl; waiting = refl; count = refl; total = refl; buffers = λ p. refl; output = refl }

  pub wrong : are_parts_long (length bs) (length zs) ≡ false → Comes (effect (on' q) x l) c (Err Lengths) x l
  unfolding effect
  wrong e = rw (lengths, e) untouched-ran

  pub right : are_parts_long (length bs) (length zs) ≡ true → effect (on' q) x l ≡ answered (on' q) x l
  unfolding effect
  right e = rw (lengths, e)

  pub out_of_range : is_in_range c ≡ false → Comes (answered (on' q) x l) c (Err NotHeld) x l
  unfolding answered requested
  out_of_range e = rw shut (eleven-ran q x l c)
    where
      by : (y : Machine) → clocked y (clock_numbers c) ≡ closed
      by closed = unfold clocked in refl
      by (holding h) = unfold clocked in rw e refl

      clock-is : x clock ≡ clock_numbers c
      clock-is = unfold lent_timed in refl

      shut : machine_over timed_parts x (held_in (x model)) ≡ closed
      shut = timed-over x (held_in (x model)) ∙ ap (clocked (machine_over two_parts x (held_in (x model)))) clock-is ∙ by (machine_over two_parts x (held_in (x model)))

  pub ran-held : {o : Option Resolved.Model} → held_in bs ≡ o → answered (on' q) x l ≡ requested q x l o
  unfolding answered lent_timed
  ran-held e = ap (requested q x l) e
