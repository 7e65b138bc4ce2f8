-- What a timed step gives: 1 and 11, 12 to 14 of the listing, and else what running's step comes to, with the state and the clock that it leaves. By cases of the machine that the model and the state hold.
use mathlib.Core.Path.{◌≡◌, refl, sym, ap, ◌∙◌}
use mathlib.Core.Bool.{Bool, true, false, ◌&&◌, and-true}
use mathlib.Core.List.{List}
use mathlib.Core.Option.{Option, none, some, Option-elim}
use Prim.Native.Nat.{ℕ}
use native.Mathlib.Omega.{arith}
use borrow.Author.Tests.{ne_eqb}
use lib.Dec.{eqb}
use Rattle.std.specs.Prelude.{Err}
use lib.IntN.{ℤ}
use lib.ListN.{length, replicate}
use Rattle.clock.specs.declared.Clock.{Clock}
use Rattle.clock.specs.Clock.{InRange, is_in_range}
use Rattle.model.specs.Resolved
use Rattle.machine.specs.State.{State, state_length, state_numbers}
use Rattle.machine.specs.Timed.{Timed, timed}
use Rattle.machine.specs.Machine as machine
use Rattle.machine.specs.Machine.{model_length, listing_length, no, zeroed, listed_as, Listed, Turn, turn, drawn, choosing, steps_with, steps_in, times_with, held, Machine, closed, holding, on_clock, timed', on', acts, Part, model, state, saves, clock, search, two_parts, timed_parts, is_lent, all_parts, has_lengths, on_machine}
use Rattle.buffers.specs.Held.{held_in}
use Rattle.buffers.specs.Listing.{shown}
use Rattle.buffers.specs.Parts.{Engine, clock_numbers, numbers_of, is_part, read_held, lent_two, lent_timed}
use Rattle.buffers.specs.Effect.{Effect, machine_over, machine_in, left_in, leaves, requested, answered, effect}
use Rattle.buffers.proofs.Clocks.{held_at, clocked, timed-in}
use Rattle.listing.specs.declared.Refusal as listing
use Rattle.listing.specs.declared.Refusal.TheVariants.{Missing, Entries, Total}
use Rattle.listing.specs.Buffer.{Outcome, Answers as Tells}
use Rattle.listing.specs.Buffer as buffer
use Rattle.running.specs.declared.Refusal.TheVariants.{NoWeight}
use Rattle.running.specs.Taking.{Stepped, number_of, entry_of, clock_of, StepsTo}
use Rattle.running.proofs.Runs.{carries}
use Rattle.simulation.specs.Comes.{are_parts_long}
use Rattle.simulation.proofs.Results.{closed-is, held-is}
use Rattle.engine.specs.declared.Answer as result
use Rattle.engine.specs.declared.Timed as results
use Rattle.engine.specs.declared.Refusal.{Refusal}
use Rattle.engine.specs.declared.Refusal.TheVariants.{NotHeld, Listing}
use Rattle.engine.specs.Gives.{Gives, bare, filled, refusal_answer, are_long}
use Rattle.engine.specs.Tables.{told_by, Finds}
use Rattle.engine.specs.Tables as found
use Rattle.engine.proofs.Lengths.{untouched-gives}
use Rattle.engine.proofs.Shows.{Refuses, entries, refuses, listing-is, filled-numbers, eleven-gives}
use Rattle.engine.proofs.Drawn.{Found, draw-15}

-- ---- question 1

module _ (bs : List ℕ) (zs : List ℤ) (c : Clock) (ds : List ℕ) (d : ℕ) (l : List ℕ) where
  abbrev x : Engine
  x = lent_timed bs zs c

  abbrev W : Effect
  W = answered (on' (timed' ds d)) x l

  timed-lengths : has_lengths (on' (timed' ds d)) (λ (p : Part). length (x p)) (length l) ≡ are_long (length bs) (length zs) (length l) listing_length
  unfolding has_lengths all_parts lent_timed are_long are_parts_long Option-elim
  timed-lengths = ap (λ (b : Bool). (eqb (length bs) model_length && b) && eqb (length l) listing_length) (and-true (eqb (length zs) state_length))

  pub timed-wrong : are_long (length bs) (length zs) (length l) listing_length ≡ false → Gives (effect (on' (timed' ds d)) x l) (bare 1 0 0) x l
  unfolding effect
  timed-wrong e = rw (timed-lengths, e) (untouched-gives x l)

  pub timed-right : are_long (length bs) (length zs) (length l) listing_length ≡ true → effect (on' (timed' ds d)) x l ≡ W
  unfolding effect
  timed-right e = rw (timed-lengths, e)

  -- ---- question 11

  abbrev y : Machine
  y = machine_in two_parts (lent_two bs zs)

  two-same : machine_in two_parts x ≡ y
  unfolding machine_in machine_over lent_timed lent_two
  two-same = by (held_in bs)
    where
      by : (o : Option Resolved.Model) → machine_over two_parts x o ≡ machine_over two_parts (lent_two bs zs) o
      by none = refl
      by (some m) = unfold all_parts is_part read_held is_lent in refl

  machine-is : machine_in timed_parts x ≡ clocked y (clock_numbers c)
  unfolding lent_timed
  machine-is = timed-in x ∙ ap (λ (y : Machine). clocked y (clock_numbers c)) two-same

  asked-so : W ≡ leaves timed_parts x l (on_machine (timed' ds d) (clocked y (clock_numbers c)))
  unfolding answered requested machine_in
  asked-so = ap (λ (y : Machine). leaves timed_parts x l (on_machine (timed' ds d) y)) machine-is

  pub out_of_range : is_in_range c ≡ false → Gives W (bare 11 0 0) x l
  out_of_range e = rw (asked-so, by y) (eleven-gives (timed' ds d) x l)
    where
      by : (y : Machine) → clocked y (clock_numbers c) ≡ closed
      by closed = unfold clocked in refl
      by (holding h) = unfold clocked in rw e refl

  -- ---- a turn

  -- what is left by a turn to the state r and the clock k
  left-timed : (ys : List ℤ) (m : Resolved.Model) (r : State) (k : Clock) → ys ≡ state_numbers r → (p : Part) → lent_timed bs ys k p ≡ left_in timed_parts x (holding (held_at m r k)) p
  unfolding lent_timed left_in is_lent numbers_of
  left-timed ys m r k e model = refl
  left-timed ys m r k e state = e
  left-timed ys m r k e saves = refl
  left-timed ys m r k e clock = refl
  left-timed ys m r k e search = refl

  -- the result and the buffers of a turn
  gives-turn : (m : Resolved.Model) (u : Turn Timed) (r : result.Answer) (ys : List ℤ) (l' : List ℕ)
      → r.number ≡ u.answer.number → r.place ≡ u.answer.place → r.branch ≡ u.answer.branch → r.count ≡ u.answer.count → r.total ≡ u.answer.total → r.chosen ≡ u.answer.chosen
      → ys ≡ state_numbers u.machine.state → l' ≡ shown u.answer.listing l
      → Gives (leaves timed_parts x l (turn (holding (held_at m u.machine.state u.machine.clock)) u.answer)) r (lent_timed bs ys u.machine.clock) l'
  unfolding leaves
  gives-turn m u r ys l' a b e f g h z o = record {
    number = a;
    place = b;
    branch = e;
    count = f;
    total = g;
    chosen = h;
    buffers = left-timed ys m u.machine.state u.machine.clock z;
    output = o;
  }

  -- ---- over the tables of a model

  -- the model that the buffer holds
  pub held-timed : {o : Option Resolved.Model} → held_in bs ≡ o → W ≡ requested (timed' ds d) x l o
  unfolding answered lent_timed
  held-timed e = ap (requested (timed' ds d) x l) e

  -- 12 to 14 zero the listing
  unlisted : (r : listing.Refusal) → buffer.refusal_number r ≡ 0 → ⊥
  unlisted (Missing i j) e = omega (arith, e)
  unlisted Entries e = omega (arith, e)
  unlisted Total e = omega (arith, e)

  no-wait : (s : State) (n p b : ℕ) → (n ≡ 0 → ⊥) → steps_in c ds s (turn s (no n p b zeroed)) ≡ turn (timed s c) (no n p b zeroed)
  unfolding steps_in no
  no-wait s n p b z = rw (ne_eqb n 0 z) refl

  choosing-waits : length l ≡ listing_length → (m : Resolved.Model) (s : State) {k : Listed} → Refuses k → state_numbers s ≡ zs → (r : Refusal) (y : Outcome) (b : List ℕ) → Err r ≡ told_by y → Tells k y → b ≡ buffer.listing_numbers k
      → let u = steps_in c ds s (choosing m s d k) in Gives (leaves timed_parts x l (turn (holding (held_at m u.machine.state u.machine.clock)) u.answer)) (refusal_answer r) (lent_timed bs zs c) b
  unfolding choosing no shown buffer.listing_numbers
  choosing-waits long m s entries e r o b q (buffer.Answers.counts n t) f = let z : ◌≡◌ {A = ℕ} 0 1 = cc in absurd (omega arith)
  choosing-waits long m s (refuses i j k) e r o b q (buffer.Answers.refuses {r = w} a) f =
      let p : r ≡ Listing w = cc q in
      let n : i ≡ 0 → ⊥ = λ z. unlisted w (a.number ∙ z) in
      rw (p, no-wait s i j k n) (gives-turn m (turn (timed s c) (no i j k zeroed)) (refusal_answer (Listing w)) zs b a.number a.place a.branch refl refl refl (sym e) (f ∙ ap (λ (i : ℕ). replicate i 0) (sym long)))

  module _ (range : InRange c) where
    -- the machine's turn
    turned : (m : Resolved.Model) (s : State) → machine_over two_parts (lent_two bs zs) (some m) ≡ holding (held m s)
        → let u = steps_in c ds s (choosing m s d (machine.listing m s)) in requested (timed' ds d) x l (some m) ≡ leaves timed_parts x l (turn (holding (held_at m u.machine.state u.machine.clock)) u.answer)
    unfolding requested on_machine acts on_clock times_with steps_with
    turned m s e = ap (λ (y : Machine). leaves timed_parts x l (on_machine (timed' ds d) y)) (held-is bs zs m c s e range)

    -- 11 to 14
    pub refused-waits : length l ≡ listing_length → (m : Resolved.Model) (r : Refusal) (b : List ℕ) → Finds m zs l (Err r) b → Gives (requested (timed' ds d) x l (some m)) (refusal_answer r) x b
    unfolding requested
    refused-waits long m r b (found.closed e q f) =
        let p : r ≡ NotHeld = cc q in
        rw (closed-is bs zs m c (e bs), p, f) (eleven-gives (timed' ds d) x l)
    refused-waits long m r b (found.holding {s} {x = y} e g z q h) = rw (turned m s (e bs)) (choosing-waits long m s (listing-is m s) (sym z) r y b q h.answer h.numbers)

    module _ {t roots scopes : List ℕ} {root variables : ℕ} {b : List ℕ} {count sum : ℕ} {m : Resolved.Model} (f : Found t roots scopes root variables zs b count sum m) where
      abbrev T : Turn Timed
      T = steps_in c ds f.state (drawn m f.state f.entries d)

      -- 15
      pub weightless : sum ≡ 0 → StepsTo T c (Err NoWeight) zs
      weightless e = rw (draw-15 m f.state f.entries d (sym f.counted.sum_is ∙ e)) (unfold steps_in listed_as in record { number = refl; chosen = refl; clock = refl; state = f.counted.listing.lent.stands.numbers })

      -- what running's step came to
      pub stepped-gives : (r : Stepped) (ys : List ℤ) → StepsTo T c r ys → Gives (requested (timed' ds d) x l (some m)) (filled (number_of r) count sum (entry_of r)) (lent_timed bs ys (clock_of c r)) b
      unfolding shown
      stepped-gives r ys h =
          let k = carries m f.state c f.entries f.counted.listing.listed ds d in
          let z : requested (timed' ds d) x l (some m) ≡ leaves timed_parts x l (turn (holding (held_at m T.machine.state T.machine.clock)) T.answer)
          = turned m f.state (f.holds bs) ∙ unfold choosing in ap (λ (v : Listed). let u = steps_in c ds f.state (choosing m f.state d v) in leaves timed_parts x l (turn (holding (held_at m u.machine.state u.machine.clock)) u.answer)) f.counted.listing.listed in
          rw (z, h.clock) (gives-turn m T (filled (number_of r) count sum (entry_of r)) ys b h.number (sym k.place) (sym k.branch) (f.counted.count-is ∙ sym k.count) (f.counted.sum_is ∙ sym k.total) h.chosen h.state
          (f.filled ∙ filled-numbers f.entries ∙ ap (λ (x : machine.Shown). shown x l) (sym k.listing)))

-- ---- the functions' cases

-- a result that is made of an answer and a clock
pub of-gives : (E : Effect) (bs : List ℕ) (zs : List ℤ) (l : List ℕ) (r : results.Timed) (a b : result.Answer) (c : Clock) → r ≡ record { answer = a; clock = c } → a ≡ b → Gives E b (lent_timed bs zs c) l
    → Gives E r.answer (lent_timed bs zs r.clock) l
of-gives E bs zs l r a b c p q g = rw (p, q) g
