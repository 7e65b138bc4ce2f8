-- A timed step that is accepted is the step with its choosing draw, and one that is refused leaves the engine: from the rule machine's turns, by what a request leaves of an engine that holds a machine.
use mathlib.Core.Path.{◌≡◌, refl, sym, ap, subst, ◌∙◌}
use mathlib.Core.Bool.{Bool, true, false, cond, ◌&&◌}
use mathlib.Core.List.{List}
use mathlib.Core.Option.{Option-elim}
use Prim.Native.Nat.{ℕ, ◌+◌, ◌≤◌}
use native.Mathlib.Omega.{arith}
use borrow.Author.Tests.{eqb-false, leb-true}
use lib.Dec.{eqb, leb}
use lib.ListN.{length}
use Rattle.std.specs.Prelude.{Err, Ok}
use Rattle.waits.specs.Runs.{wait_of, Wait}
use Rattle.waits.specs.ByRuns.{Waits}
use Rattle.waits.proofs.Same.{by_runs}
use Rattle.clock.specs.declared.Clock.{Clock}
use Rattle.clock.specs.declared.Late.{Late}
use Rattle.clock.specs.declared.Late.TheVariants.{Past}
use Rattle.clock.specs.declared.Late.TheVariants as late
use Rattle.waits.specs.declared.Unread.TheVariants as unread
use Rattle.clock.specs.Clock.{clock_limit, ticks_of, late_number, Brought, forwarded, waited, brought_by}
use Rattle.machine.specs.State.{State, state_numbers}
use Rattle.machine.specs.Timed.{Timed, timed}
use Rattle.machine.specs.Machine.{listing_length, Answer, no, Turn, turn, refused_as, with_wait, steps_in, times_with, steps_with, Held, Machine, holding, on_state, on_clock, step', timed', on', acts, Part, state, clock, size, is_lent, all_parts, has_lengths, call, on_machine, asked_of_machine, calls}
use Rattle.machine.specs.Questions.{later_by}
use Rattle.machine.specs.Results.{Whole, WholeAsk}
use Rattle.machine.proofs.Carries.{refusal-stays}
use Rattle.buffers.specs.Listing.{shown}
use Rattle.buffers.specs.Parts.{Engine, clock_numbers, numbers_of}
use Rattle.buffers.specs.Effect.{Effect, left_in, leaves}
use Rattle.buffers.specs.Calls.{own, asks, left_by, Holds, zeros, held}
use Rattle.buffers.specs.Waiting.{AsStep, stepping, timing, Timing}
use Rattle.buffers.proofs.Lent.{same-engine}
use Rattle.buffers.proofs.Every.{shut, stays, every-list}
use Rattle.buffers.proofs.Transitions.{still, own-turns, own-lengths}

-- ---- turns

-- a wait that brought the clock forward
record Forward (c : Clock) (ds : List ℕ) (sum : ℕ) (k : Clock) : Type 0 where
  E : ℕ
  used : ℕ
  waits : Waits 0 ds (Ok (E, used))
  clock : k ≡ later_by c E sum used
  ticks : (later_by c E sum used).ticks ≤ clock_limit
  draws : (later_by c E sum used).draws ≤ clock_limit

goes : (c : Clock) (ds : List ℕ) (sum : ℕ) (k : Clock) → brought_by c ds sum ≡ Ok k → Forward c ds sum k
unfolding brought_by waited forwarded
goes c ds sum k e = by (wait_of ds) ((by_runs ds (wait_of ds)).1 refl) e
  where
    ahead : (a u : ℕ) → Waits 0 ds (Ok (a, u)) → (p : Bool) → leb (c.ticks + ticks_of a sum) clock_limit ≡ p → (q : Bool) → leb (c.draws + u) clock_limit ≡ q
        → ◌≡◌ {A = Brought} (cond (p && q) (Ok (later_by c a sum u)) (Err Past)) (Ok k) → Forward c ds sum k
    ahead a u w true p true q e = record { E = a; used = u; waits = w; clock = cc; ticks = leb-true _ _ p; draws = leb-true _ _ q }
    ahead a u w true p false q e = absurd (cc)
    ahead a u w false p q' q e = absurd (cc)

    by : (w : Wait) → Waits 0 ds w → waited c sum w ≡ Ok k → Forward c ds sum k
    by (Ok (a, u)) w e = ahead a u w (leb (c.ticks + ticks_of a sum) clock_limit) refl (leb (c.draws + u) clock_limit) refl e
    by (Err l) w e = absurd (cc)

late-above : (l : Late) → late_number l ≡ 0 → ⊥
late-above (late.Wait unread.Ended) e = omega arith
late-above (late.Wait unread.Long) e = omega arith
late-above Past e = omega arith

module _ (ds : List ℕ) (s : State) (c : Clock) (t : Turn State) where
  abbrev sum : ℕ
  sum = t.answer.total

  -- accepted: the step was, and the clock went on
  record Both (u : Turn Timed) : Type 0 where
    answer : u.answer ≡ t.answer
    state : u.machine.state ≡ t.machine
    forward : brought_by c ds sum ≡ Ok u.machine.clock

  both_so : (steps_in c ds s t).answer.number ≡ 0 → Both (steps_in c ds s t)
  unfolding steps_in with_wait refused_as
  both_so e = by (eqb t.answer.number 0) refl (brought_by c ds sum) refl e
    where
      U : Bool → Brought → Turn Timed
      U p b = cond p (with_wait s c t b) (turn (timed t.machine c) t.answer)

      by : (p : Bool) → eqb t.answer.number 0 ≡ p → (b : Brought) → brought_by c ds sum ≡ b → (U p b).answer.number ≡ 0 → Both (U p b)
      by true p (Ok k) q e = record { answer = refl; state = refl; forward = q }
      by true p (Err l) q e = absurd (late-above l e)
      by false p b q e = absurd (eqb-false _ _ p e)

-- a timed step that is refused leaves what is held
refused-stays : (ds : List ℕ) (d : ℕ) (h : Held) → ((acts (timed' ds d) h).answer.number ≡ 0 → ⊥) → (acts (timed' ds d) h).machine ≡ h
unfolding calls asked_of_machine on_machine Whole WholeAsk has_lengths all_parts Option-elim
refused-stays ds d h z =
    let k : holding (acts (timed' ds d) h).machine ≡ holding h = refusal-stays (holding h) (call (on' (timed' ds d)) size listing_length) tt z in
    let e : (acts (timed' ds d) h).machine ≡ h = cc in
    e

-- ---- engines

module _ {x : Engine} (l ds : List ℕ) (d : ℕ) (long : length l ≡ listing_length) where
  accepts : {y : Machine} → Holds x y → (timing x l ds d).answer.number ≡ 0 → AsStep x ds (stepping x l d) (timing x l ds d)
  unfolding leaves on_machine acts on_state on_clock times_with no numbers_of is_lent
  accepts (zeros e) z = absurd (omega (arith, ap (λ (e : Effect). e.answer.number) (shut (zeros e) (λ (p : Part). own) l (zeros e) refl (timed' ds d) (own-lengths (on' (timed' ds d)) l listing_length refl long))))
  accepts (held {h = h} text m e g) z =
      let w : Holds x (holding h) = held text m e g in
      let a = own-turns w (timed' ds d) l listing_length refl long in
      let b = own-turns w (step' d) l listing_length refl long in
      let t = steps_with d h.model h.state in
      let k = both_so ds h.state h.clock t (sym (ap (λ (a : Answer). a.number) a.answer) ∙ z) in
      let f = goes h.clock ds t.answer.total _ k.forward in
      let q : later_by h.clock f.E t.answer.total f.used ≡ later_by h.clock f.E (stepping x l d).answer.total f.used = ap (λ (a : Answer). later_by h.clock f.E a.total f.used) (sym b.answer) in
      record {
        answer = a.answer ∙ k.answer ∙ sym b.answer;
        output = a.output ∙ ap (λ (a : Answer). shown a.listing l) k.answer ∙ sym b.output;
        state = a.lent state refl ∙ ap state_numbers k.state ∙ sym (b.lent state refl);
        before = h.clock;
        held = e clock;
        E = f.E;
        used = f.used;
        waits = f.waits;
        clock = a.lent clock refl ∙ ap clock_numbers (f.clock ∙ q);
        ticks = subst (λ (k : Clock). k.ticks ≤ clock_limit) q f.ticks;
        draws = subst (λ (k : Clock). k.draws ≤ clock_limit) q f.draws;
      }

  refuses : {y : Machine} → Holds x y → ((timing x l ds d).answer.number ≡ 0 → ⊥) → left_by x (asks (on' (timed' ds d)) l) ≡ x
  unfolding leaves on_machine left_in
  refuses (zeros e) z =
      let w = own-lengths (on' (timed' ds d)) l listing_length refl long in
      same-engine (λ p. stays (zeros e) (asks (on' (timed' ds d)) l) (ap (λ (e : Effect). e.left) (shut (zeros e) (λ (p : Part). own) l (zeros e) refl (timed' ds d) w)) p)
  refuses (held {h = h} text m e g) z =
      let w : Holds x (holding h) = held text m e g in
      let a = own-turns w (timed' ds d) l listing_length refl long in
      still a (refused-stays ds d h (λ n. z (ap (λ (a : Answer). a.number) a.answer ∙ n)))

-- 02, note 4
pub timing-so : Timing
timing-so = record {
  accepted = λ cs l ds d long z. accepts l ds d long (every-list cs).1 z;
  refused = λ cs l ds d long z. refuses l ds d long (every-list cs).1 z;
}
