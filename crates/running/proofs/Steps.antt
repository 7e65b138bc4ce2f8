-- What each step of a run leaves in the buffers, told by the run: ended, or one event longer. From the laws of a step and of events.
use mathlib.Core.Path.{◌≡◌, refl, sym, ap, ◌∙◌}
use mathlib.Core.Bool.{Bool, true, false, cond}
use mathlib.Core.List.{List, [], ◌∷◌}
use mathlib.Core.Option.{Option, none, some, Option-elim}
use Prim.Native.Nat.{ℕ, suc, ◌+◌, ◌-◌, ◌*◌, ◌≤◌, ◌<◌}
use native.Mathlib.Omega.{arith}
use lib.Dec.{leb}
use lib.IntN.{ℤ}
use lib.ListN.{length, take, drop, length-append, length-drop}
use Rattle.std.specs.Prelude.{None, Some, is_some, Err, Ok}
use Rattle.words.specs.Words.{draw_of, Within, Drawn}
use Rattle.clock.specs.declared.Clock.{Clock}
use Rattle.clock.specs.Clock.{InRange}
use Rattle.model.specs.Resolved
use Rattle.model.specs.Limits.{branch_limit}
use Rattle.model.specs.Good.{GoodModel, GoodSum}
use Rattle.rules.specs.Listing.{Entry, entries}
use Rattle.rules.specs.Draw.{weights, total}
use Rattle.machine.specs.Offer.{branches, missing}
use Rattle.machine.specs.State.{State, state_numbers}
use Rattle.machine.specs.Timed.{Timed, timed, GoodTimed}
use Rattle.machine.specs.Machine.{entry_limit, total_limit, zeroed, no, counted, Listed, entries_are, refused_with, listing, Turn, drawn, choosing, steps_with, steps_in, times_with}
use Rattle.machine.proofs.Everys.{every_in, in-every}
use Rattle.listing.proofs.Finished.{rows-length as list_length}
use Rattle.listing.proofs.Entries.{entry_in_lem}
use Rattle.listing.specs.declared.Listed.{Listed as Counts}
use Rattle.listing.specs.Buffer.{entry_in, refusal_number as refused_number, Answers, Leading, leading, nothing, Leads}
use Rattle.listing.specs.Buffer as buffer
use Rattle.listing.specs.declared.Refusal as unlisted
use Rattle.offers.specs.Collect.{FewBranches, World}
use Rattle.step.specs.Enter.{Lent}
use Rattle.clock.specs.declared.Late.TheVariants.{Past}
use Rattle.clock.specs.declared.Late.TheVariants as late
use Rattle.waits.specs.declared.Unread.TheVariants as unread
use Rattle.step.specs.declared.Refusal.TheVariants.{Arguments, Processes, Pairs}
use Rattle.running.specs.declared.Refusal as taking
use Rattle.running.specs.declared.Refusal.TheVariants.{NoWeight, Draw, Step, Wait}
use Rattle.running.specs.declared.End.{End}
use Rattle.running.specs.declared.End.TheVariants.{Spent, Unlisted, Refused}
use Rattle.running.specs.declared.Given.{Given}
use Rattle.running.specs.declared.Progress.{Progress}
use Rattle.machine.specs.Machine.{Run, begun, ended_with, Next, on, over, entry_shown, event_of, longer, follows, run_step, running}
use Rattle.running.specs.Taking.{refusal_number, Stepped, StepsTo}
use Rattle.machine.specs.Runs.{run_of, is_over}
use Rattle.running.specs.Progress.{written, end_number, begun_with, ended, longer_by, Holds, Stands, Lists, Goes}
use Rattle.running.proofs.Runs.{refused-step, dead-step, words-end, draw-step, follows_on, follows-over, next-on, next-over, on-longer, zero-steps, Took, Carries, carries, timed-good}
use Rattle.running.proofs.Taking.{rest_of}
use Rattle.running.proofs.Events.{event-written, none_written, numbers-length}

-- 15 to 19 and 23 to 25 are no 0
pub some-refusal : (r : taking.Refusal) → refusal_number r ≡ 0 → ⊥
some-refusal NoWeight e = omega (arith, e)
some-refusal Draw e = omega (arith, e)
some-refusal (Step Arguments) e = omega (arith, e)
some-refusal (Step Processes) e = omega (arith, e)
some-refusal (Step Pairs) e = omega (arith, e)
some-refusal (Wait (late.Wait unread.Ended)) e = omega (arith, e)
some-refusal (Wait (late.Wait unread.Long)) e = omega (arith, e)
some-refusal (Wait Past) e = omega (arith, e)

-- ---- what the listing is lent
few-branches : (m : Resolved.Model) → GoodModel m → FewBranches m
unfolding FewBranches
few-branches m g = in-every (λ (s : Resolved.Sum). length s.branches ≤ branch_limit) m.sums (λ s i. (every_in (GoodSum m) m.sums g.sums s i).few-branches)

pub world : {t roots scopes : List ℕ} {root variables : ℕ} {zs : List ℤ} {m : Resolved.Model} {s : State} → Lent t roots scopes root variables zs m s → World t roots scopes zs m s
world {root = root} {variables = variables} {m = m} h = record {
  root = root;
  variables = variables;
  definitions = h.definitions;
  sums = h.sums;
  channels = h.channels;
  represents = h.represents;
  good = h.stands.good;
  few = few-branches m h.stands.good;
  state = h.stands.state;
  numbers = h.stands.numbers;
}

-- ---- what the listing answers
data Refuses : Listed → Type 0 where
  entries-are : {es : List Entry} → Refuses (entries_are es)
  refuses : (n p b : ℕ) → (n ≡ 0 → ⊥) → Refuses (refused_with (no n p b zeroed))

counted_is : (es : List Entry) → Refuses (counted es)
unfolding counted
counted_is es = by (leb (length es) entry_limit) (leb (total (weights es)) total_limit)
  where
    by : (a b : Bool) → Refuses (cond a (cond b (entries_are es) (refused_with (no 14 0 0 zeroed))) (refused_with (no 13 0 0 zeroed)))
    by true true = entries-are
    by true false = refuses 14 0 0 (λ z. omega arith)
    by false b = refuses 13 0 0 (λ z. omega arith)

listing-is : (m : Resolved.Model) (s : State) → Refuses (listing m s)
unfolding listing Option-elim
listing-is m s = by (missing m 0 s.processes)
  where
    by : (o : Option (ℕ × ℕ)) → Refuses (Option-elim o (counted (entries (branches m) s)) (λ ij. refused_with (no 12 ij.0 ij.1 zeroed)))
    by none = counted_is (entries (branches m) s)
    by (some ij) = refuses 12 ij.0 ij.1 (λ z. omega arith)

-- a refusal of a listing
pub record Refusal (m : Resolved.Model) (s : State) (n : ℕ) : Type 0 where
  pub place : ℕ
  pub branch : ℕ
  pub is : listing m s ≡ refused_with (no n place branch zeroed)
  pub number : n ≡ 0 → ⊥

pub refused-by : (m : Resolved.Model) (s : State) (x : unlisted.Refusal) (l : List ℕ) → Leads (listing m s) (Err x) l → Refusal m s (refused_number x)
refused-by m s x l h = by (listing m s) refl (listing-is m s) h.answer
  where
    by : (y : Listed) → listing m s ≡ y → Refuses y → Answers y (Err x) → Refusal m s (refused_number x)
    by y e entries-are q = elim q [ ]
    by y e (refuses i j k d) (buffer.Answers.refuses q) = let f : refused_number x ≡ i = unfold no in q.number in rw f (record { place = j; branch = k; is = e; number = d })

module _ {given : Given} {z : List ℕ} {zs : List ℤ} {ns : List ℕ} {p : Progress} {m : Resolved.Model} {r : Run} (h : Stands given z zs ns p m r) where
  -- the listing of the run's state
  pub lists-by : (l : List ℕ) (x : Counts) → Leads (listing m r.timed.state) (Ok x) l → (es : List Entry) × Lists given z zs ns p m r l x.count x.total es
  lists-by l x k = by (listing m r.timed.state) refl k.entries k.answer
    where
      by : (y : Listed) → listing m r.timed.state ≡ y → Leading l y → Answers y (Ok x) → (es : List Entry) × Lists given z zs ns p m r l x.count x.total es
      by y e (leading {es = es} rest f) (buffer.Answers.counts n t) = (es, record { stands = h; counted = record { listing = record { lent = h.lent; listed = e; rest = rest; numbers = f }; count-is = n; sum_is = t } })
      by y e nothing q = elim q [ ]

  -- ---- the run ends where it is
  pub ends-here : (k : End) (c s : ℕ) (x : Next) (q : Progress) → x ≡ over (ended_with (end_number (Some k)) c s r.timed r) → q ≡ ended p k c s → Goes given z x q zs ns m
  unfolding run_of is_over
  ends-here k c s x q e f = rw (e, f) (record {
    stands = record {
      lent = h.lent;
      in-range = h.in-range;
      words-fit = h.words-fit;
      waiting-fits = h.waiting-fits;
      number = refl;
      steps = h.steps;
      words = h.words;
      waiting = h.waiting;
      count = refl;
      total = refl;
      clock = h.clock;
      events = h.events;
    };
    over = refl;
  })

  -- 12 to 14
  pub refused-ends : (x : unlisted.Refusal) (q : Progress) → Refusal m r.timed.state (refused_number x) → q ≡ ended p (Unlisted x) 0 0 → Goes given z (run_step given.words.now given.waiting.now m r) q zs ns m
  refused-ends x q k f = ends-here (Unlisted x) 0 0 (run_step given.words.now given.waiting.now m r) q (refused-step given.words.now given.waiting.now m r (refused_number x) k.place k.branch k.is k.number) f

module _ {given : Given} {z : List ℕ} {zs : List ℤ} {ns : List ℕ} {p : Progress} {m : Resolved.Model} {r : Run} {l : List ℕ} {count sum : ℕ} {es : List Entry} (h : Lists given z zs ns p m r l count sum es) where
  abbrev listed : listing m r.timed.state ≡ entries_are es
  listed = h.counted.listing.listed

  -- 15
  pub dead-ends : sum ≡ 0 → (q : Progress) → q ≡ ended p (Refused NoWeight) count sum → Goes given z (run_step given.words.now given.waiting.now m r) q zs ns m
  dead-ends e q f =
      ends-here h.stands (Refused NoWeight) count sum (run_step given.words.now given.waiting.now m r) q
      (rw (h.counted.count-is, h.counted.sum_is) (dead-step given.words.now given.waiting.now m r es listed (sym h.counted.sum_is ∙ e))) f

  module _ (above : sum ≡ 0 → ⊥) (w : Drawn) (is : w ≡ draw_of sum (drop p.words given.words.now)) where
    from-here : draw_of (total (weights es)) (drop r.words given.words.now) ≡ w
    from-here = rw (← h.counted.sum_is, ← h.stands.words) (sym is)

    some-total : total (weights es) ≡ 0 → ⊥
    some-total e = above (h.counted.sum_is ∙ e)

    -- the words end
    pub words-ends : w ≡ None → (q : Progress) → q ≡ ended p Spent count sum → Goes given z (run_step given.words.now given.waiting.now m r) q zs ns m
    words-ends e q f =
        ends-here h.stands Spent count sum (run_step given.words.now given.waiting.now m r) q
        (rw (h.counted.count-is, h.counted.sum_is) (words-end given.words.now given.waiting.now m r es listed some-total (from-here ∙ e))) f

    -- a draw
    pub drawn-so : (d u : ℕ) → w ≡ Some (d, u) → run_step given.words.now given.waiting.now m r ≡ follows u (steps_in r.timed.clock (drop r.waiting given.waiting.now) r.timed.state (drawn m r.timed.state es d)) r
    drawn-so d u e = draw-step given.words.now given.waiting.now m r es listed some-total d u (from-here ∙ e)

    pub used-fits : (d u : ℕ) → w ≡ Some (d, u) → Within sum (length (drop p.words given.words.now)) w → p.words + u ≤ length given.words.now
    unfolding Within
    used-fits d u e k = let q = rw e at k in omega (arith, q.1, length-drop p.words given.words.now, h.stands.words-fit, h.stands.words)

  -- ---- a step with a draw

  -- with the waiting draws that are left
  pub left_over : (d : ℕ) (x : Stepped) (ys : List ℤ) (n : ℕ) (k : Clock) → k ≡ r.timed.clock → n ≡ r.waiting
      → StepsTo (steps_in k (take (length given.waiting.now - n) (drop n given.waiting.now)) r.timed.state (drawn m r.timed.state es d)) k x ys
      → StepsTo (steps_in r.timed.clock (drop r.waiting given.waiting.now) r.timed.state (drawn m r.timed.state es d)) r.timed.clock x ys
  left_over d x ys n k e f a =
      let g : take (length given.waiting.now - n) (drop n given.waiting.now) ≡ drop r.waiting given.waiting.now = rest_of n given.waiting.now ∙ ap (λ (i : ℕ). drop i given.waiting.now) f in
      rw (← e, ← g) a

  module _ (d u : ℕ) (ys : List ℤ) where
    abbrev s : State
    s = r.timed.state

    abbrev k : Clock
    k = r.timed.clock

    abbrev ds : List ℕ
    ds = drop r.waiting given.waiting.now

    abbrev T : Turn Timed
    T = steps_in k ds s (drawn m s es d)

    car : Carries s k ds es T
    car = carries m s k es listed ds d

    steps-with : times_with ds d m s k ≡ T
    unfolding times_with steps_with choosing
    steps-with = ap (λ (y : Listed). steps_in k ds s (choosing m s d y)) listed

    good : GoodTimed m T.machine
    good = rw steps-with at (timed-good m s k h.stands.lent.stands.good h.stands.lent.stands.state h.stands.in-range ds d)

    -- refused
    pub step-ends : (n : taking.Refusal) → StepsTo T k (Err n) ys → (q : Progress) → q ≡ ended p (Refused n) count sum → Goes given z (follows u T r) q ys ns m
    step-ends n a q f =
        let g : T.answer.number ≡ 0 → ⊥ = λ e. some-refusal n (a.number ∙ e) in
        let e : follows u T r ≡ over (ended_with T.answer.number T.answer.count T.answer.total T.machine r) = follows-over u T r g in
        let y : ys ≡ zs = a.state ∙ ap (λ (v : Timed). state_numbers v.state) (car.stays g) ∙ sym h.stands.lent.stands.numbers in
        rw y (ends-here h.stands (Refused n) count sum (follows u T r) q
        (e ∙ rw (car.stays g, car.count, car.total, ← a.number, h.counted.count-is, h.counted.sum_is) refl) f)

    -- accepted, with the entry c and the clock n
    module _ (c : ℕ) (n : Clock) (a : StepsTo T k (Ok (c, n)) ys) where
      accepted : T.answer.number ≡ 0
      accepted = sym a.number

      took : Took es T.answer.chosen
      took = car.took accepted

      -- the entry taken stands in the listing
      pub row_within : c * 7 + 7 ≤ length l
      row_within = omega (arith, a.chosen, took.below, ap length h.counted.listing.numbers, list_length es h.counted.listing.rest)

      pub words-within : p.words + u ≤ length given.words.now → r.words + u ≤ length given.words.now
      words-within f = omega (arith, h.stands.words)

      waiting-within : r.waiting + (T.machine.clock.draws - k.draws) ≤ length given.waiting.now
      waiting-within = omega (arith, car.used accepted, length-drop r.waiting given.waiting.now, h.stands.waiting-fits)

      -- nothing wraps
      pub clock-later : (p.clock.draws ≤ n.draws) × (p.waiting + (n.draws - p.clock.draws) ≤ length given.waiting.now)
      clock-later = rw (a.clock, h.stands.clock, h.stands.waiting) (car.later accepted, waiting-within)

      event-is : entry_in l c ≡ entry_shown T.answer.listing T.answer.chosen
      event-is =
          rw (a.chosen, h.counted.listing.numbers, car.listing)
          (entry_in_lem es h.counted.listing.rest T.answer.chosen took.entry took.at ∙ sym (unfold entry_shown Option-elim in rw took.at refl))

      -- accepted: one event more
      pub step-goes : (q : Progress) (ns' : List ℕ) → p.words + u ≤ length given.words.now → p.steps * 8 + 8 ≤ length ns → ns' ≡ written ns p.steps n.ticks (entry_in l c) → q ≡ longer_by p u count sum n
          → Goes given z (follows u T r) q ys ns' m
      unfolding run_of is_over
      step-goes q ns' fits room w f =
          let e : follows u T r ≡ on (longer u T r) = follows_on u T r accepted in
          let within : length r.events * 8 + 8 ≤ length z = omega (arith, h.stands.steps, ap length h.stands.events, numbers-length r.events z) in
          rw (e, f) (record {
            stands = record {
              lent = record { definitions = h.stands.lent.definitions; sums = h.stands.lent.sums; channels = h.stands.lent.channels; represents = h.stands.lent.represents; stands = record { good = h.stands.lent.stands.good; state = good.state; numbers = a.state } };
              in-range = good.clock;
              words-fit = words-within fits;
              waiting-fits = waiting-within;
              number = refl;
              steps = omega (arith, h.stands.steps, length-append r.events (event_of T ∷ []));
              words = ap (λ (i : ℕ). i + u) h.stands.words;
              waiting = rw (a.clock, h.stands.clock, h.stands.waiting) refl;
              count = h.counted.count-is ∙ sym car.count;
              total = h.counted.sum_is ∙ sym car.total;
              clock = a.clock;
              events = w ∙ rw (h.stands.events, h.stands.steps, event-is, a.clock) (event-written r.events z (event_of T) within);
            };
            over = refl;
          })

-- ---- the loop

-- p, the state's numbers zs and the events ns tell a run of i steps that comes to what the whole run does: so many steps from the state that zs₀ tells, and from the clock k
pub record Loop (given : Given) (z : List ℕ) (zs₀ : List ℤ) (steps : ℕ) (k : Clock) (i : ℕ) (zs : List ℤ) (ns : List ℕ) (p : Progress) : Type 0 where
  pub told : (m : Resolved.Model) (s : State) → Holds given zs₀ m s
      → (r : Run) × (Stands given z zs ns p m r) × (p.steps ≡ i) × (running (steps - i) given.words.now given.waiting.now m r ≡ running steps given.words.now given.waiting.now m (begun (timed s k)))

module _ (given : Given) (z : List ℕ) (zs₀ : List ℤ) (steps : ℕ) (k : Clock) where
  pub loop-begins : (p : Progress) → p ≡ begun_with k → InRange k → Loop given z zs₀ steps p.clock 0 zs₀ z p
  loop-begins p e i = rw e (record {
    told = λ m s h. (
      begun (timed s k),
      record {
        lent = h;
        in-range = i;
        words-fit = omega arith;
        waiting-fits = omega arith;
        number = refl;
        steps = refl;
        words = refl;
        waiting = refl;
        count = refl;
        total = refl;
        clock = refl;
        events = none_written z;
      },
      refl,
      let n : steps - 0 ≡ steps = omega arith in ap (λ (i : ℕ). running i given.words.now given.waiting.now m (begun (timed s k))) n,
    );
  })

  module _ (i : ℕ) (zs : List ℤ) (ns : List ℕ) (p : Progress) (h : Loop given z zs₀ steps k i zs ns p) where
    -- some run is told, and there is room for its next event
    pub some-run : (m : Resolved.Model) (s : State) → Holds given zs₀ m s → (x : List ℕ) × (m : Resolved.Model) × (r : Run) × Stands given x zs ns p m r
    some-run m s l = let a = h.told m s l in (z, m, a.0, a.1)

    pub has_room : (m : Resolved.Model) (s : State) → Holds given zs₀ m s → i < steps → steps * 8 ≤ length z → p.steps * 8 + 8 ≤ length ns
    has_room m s l b f = let a = h.told m s l in omega (arith, a.2, a.1.steps, ap length a.1.events, numbers-length a.0.events z)

    -- all steps are taken
    pub all-taken : i ≡ steps → (m : Resolved.Model) (s : State) → Holds given zs₀ m s → Stands given z zs ns p m (running steps given.words.now given.waiting.now m (begun (timed s k)))
    all-taken b m s l =
        let a = h.told m s l in
        let n : steps - i ≡ 0 = omega arith in
        let e : a.0 ≡ running steps given.words.now given.waiting.now m (begun (timed s k)) = sym (zero-steps given.words.now given.waiting.now m a.0) ∙ ap (λ (i : ℕ). running i given.words.now given.waiting.now m a.0) (sym n) ∙ a.3 in
        rw (← e) a.1

    module _ (zs' : List ℤ) (ns' : List ℕ) (q : Progress) (below : i < steps)
        (next : (x : List ℕ) (m : Resolved.Model) (r : Run) → Stands given x zs ns p m r → Goes given x (run_step given.words.now given.waiting.now m r) q zs' ns' m) where
      -- the run has ended
      pub run-over : is_some q.end ≡ true → (m : Resolved.Model) (s : State) → Holds given zs₀ m s → Stands given z zs' ns' q m (running steps given.words.now given.waiting.now m (begun (timed s k)))
      run-over o m s l =
          let a = h.told m s l in
          let b = next z m a.0 a.1 in
          let n : steps - i ≡ suc (steps - (i + 1)) = omega arith in
          let e : run_of (run_step given.words.now given.waiting.now m a.0) ≡ running steps given.words.now given.waiting.now m (begun (timed s k)) =
          sym (next-over (steps - (i + 1)) given.words.now given.waiting.now m a.0 (sym b.over ∙ o)) ∙ ap (λ (i : ℕ). running i given.words.now given.waiting.now m a.0) (sym n) ∙ a.3 in
          rw (← e) b.stands

      -- it goes on
      pub run_on : is_some q.end ≡ false → Loop given z zs₀ steps k (i + 1) zs' ns' q
      run_on o = record {
        told = λ m s l.
            let a = h.told m s l in
            let b = next z m a.0 a.1 in
            let n : steps - i ≡ suc (steps - (i + 1)) = omega arith in (
              run_of (run_step given.words.now given.waiting.now m a.0),
              b.stands,
              omega (arith, a.2, b.stands.steps, on-longer given.words.now given.waiting.now m a.0 (sym b.over ∙ o), a.1.steps),
              sym (next-on (steps - (i + 1)) given.words.now given.waiting.now m a.0 (sym b.over ∙ o)) ∙ ap (λ (i : ℕ). running i given.words.now given.waiting.now m a.0) (sym n) ∙ a.3,
            );
      }
