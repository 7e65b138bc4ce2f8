-- Each call to an engine has one of the outcomes of 01, by its number: by cases of what is lent, and of what the questions answer; one lemma for each request.
use mathlib.Core.Path.{◌≡◌, refl, sym, ap, ap₂, subst, ◌∙◌}
use mathlib.Core.Bool.{Bool, true, false}
use mathlib.Core.List.{List, map}
use mathlib.Core.Logic.{◌⊎◌, inl, inr, ⊎_elim}
use mathlib.Core.Option.{Option, some}
use Prim.Native.Nat.{ℕ, ◌≤◌}
use native.Mathlib.Omega.{arith}
use lib.ListN.{length, replicate}
use Rattle.model.specs.Resolved
use Rattle.model.specs.Opening.{Opening, refused, opened, opening}
use Rattle.model.proofs.Answered as texts
use Rattle.profile.specs.Opening.{opening_steady}
use Rattle.profile.proofs.Asks.{plain-numbers}
use Rattle.profile.proofs.InOrder.{answered-steady, steady-numbers}
use Rattle.rules.specs.Listing.{Entry}
use Rattle.machine.specs.Timed.{Timed}
use Rattle.machine.specs.State.{State, state_numbers}
use Rattle.machine.specs.Saves.{Saves, Stored, saving, returning, forgetting}
use Rattle.machine.specs.Results.{Names}
use Rattle.machine.proofs.Running.{run-carries}
use Rattle.machine.proofs.Saves.{StoredAnswers, accepts, refuses, saving-answers, returning-answers, forgetting-answers}
use Rattle.saves.specs.Places.{saves_numbers}
use Rattle.machine.specs.Report.{report_length}
use Rattle.machine.specs.Machine.{listing_length, Answer, no, listed_as, reported_as, Listed, Turn, turn, drawn, showing, lists, sharing, reports, choosing, steps_with, searches, steps_in, times_with, runs_with, ran_as, runs_over, event_width, Held, moved, moved_in, Machine, closed, holding, on_state, on_clock}
use Rattle.machine.specs.Machine.{depth_limit, GoodSearching, Search, begins, carries_by, searched_in, timed_of, stored_in, on_saves, on_search, Request, list', step', report', search', timed', run', save', return', forget', begin', carry', Ask, open', open_steady', on', acts, Part, model, state, saves, clock, search, size, output_of, has_lengths, on_machine, after}
use Rattle.machine.specs.Machine as machine
use Rattle.machine.specs.Questions.{IsListing, Lists, no12, no13, no14, yes14, Steps, no15, no16, no17, no18, no19, yes19, Times, no15-19, no23, no24, no25, yes25}
use Rattle.machine.proofs.Listing.{asked}
use Rattle.machine.proofs.Lent.{lent-so}
use Rattle.machine.proofs.Stepping as step
use Rattle.machine.proofs.Timing as timing
use Rattle.machine.specs.Searching.{Searches}
use Rattle.machine.proofs.Searching as searching
use Rattle.rules.proofs.Decides.{on}
use Rattle.buffers.specs.Held.{model_bytes}
use Rattle.buffers.specs.Listing.{shown}
use Rattle.buffers.specs.Parts.{Cell, Engine, fresh, numbers_of, with_timed, with_kept, clock_numbers, with_search}
use Rattle.buffers.specs.Effect.{Effect, untouched, opens_with, left_in, leaves}
use Rattle.buffers.specs.Answers.{runs_as}
use Rattle.buffers.specs.Calls.{Lending, BufferCall, effect_of, left_by, lent_lengths, fed, engine_after, Holds, zeros, held}
use Rattle.buffers.specs.Outcomes.{Outcome, nothing, zeroed, opens, unlisted, listed, unwaited, accepted, reported, searched, unstored, stored, ran, Walks, unwalked, walked, opens_steady, unsteady}
use Rattle.underway.specs.Buffer.{search_numbers}
use Rattle.machine.proofs.Carrying.{begins-few, carries-few}
use Rattle.buffers.proofs.Pieces.{Walked, goes, stays, begins-walked, carries-walked}
use Rattle.buffers.proofs.Lent.{same-engine}
use Rattle.buffers.proofs.Every.{IsOpening, plainly, steadily, one-untouched, left_as, asks-all, make, Turns, shut, request-turns, every-list}
use Rattle.buffers.proofs.Transitions.{still}
use Rattle.buffers.proofs.Answers.{search-shows}

module _ (x : Engine) (a : (p : Part) → Lending (Cell p) (size p)) (l : List ℕ) where
  abbrev Out : Machine → Ask → Type 0
  Out y k = Outcome x y (make k a l) (effect_of x (make k a l))

  -- ---- open

  -- what an opening leaves, by its answer
  open-right : {y : Machine} → Holds x y → (k : Ask) (text : List ℕ) (o : Opening) → IsOpening k text o → has_lengths k (lent_lengths (make k a l)) (length l) ≡ true
      → ((n p : ℕ) → o ≡ refused n p → (effect_of x (make k a l)).answer.number ≡ n → left_by x (make k a l) ≡ fresh → Out y k)
      → ((m : Resolved.Model) → o ≡ opened m → (effect_of x (make k a l)).answer.number ≡ 0 → left_by x (make k a l) ≡ numbers_of (model_bytes text) (machine.held m (machine.opened_state m)) → Out y k)
      → Out y k
  open-right {y} h k text o i w f g = by o refl (asks-all h (make k a l) w ∙ i.effect_is _ l)
    where
      left_so : (z : Engine) → (effect_of x (make k a l)).left ≡ z → left_by x (make k a l) ≡ z
      left_so z e = same-engine (λ p. left_as h (make k a l) w p (i.lent p) ∙ ap (λ (z : Engine). z p) e)

      by : (q : Opening) → o ≡ q → effect_of x (make k a l) ≡ opens_with text q l → Out y k
      by (refused n q) e p = unfold opens_with no in f n q e (ap (λ (e : Effect). e.answer.number) p) (left_so fresh (ap (λ (e : Effect). e.left) p))
      by (opened m) e p = unfold opens_with no in g m e (ap (λ (e : Effect). e.answer.number) p) (left_so _ (ap (λ (e : Effect). e.left) p))

  plain-right : {y : Machine} → Holds x y → (text : List ℕ) → has_lengths (open' text) (lent_lengths (make (open' text) a l)) (length l) ≡ true → Out y (open' text)
  plain-right h text w =
      open-right h (open' text) text (opening text) (plainly text) w
      (λ n p e r z. let k = plain-numbers text (opening text) (texts.answered text) e in zeroed (omega (arith, k.0)) (omega (arith, k.1)) z)
      (λ m e r z. opens refl e r z)

  steady-right : {y : Machine} → Holds x y → (text : List ℕ) → has_lengths (open_steady' text) (lent_lengths (make (open_steady' text) a l)) (length l) ≡ true → Out y (open_steady' text)
  steady-right {y} h text w =
      open-right h (open_steady' text) text (opening_steady text) (steadily text) w
      (λ n p e r z. ⊎_elim (λ k. zeroed (omega (arith, k.0)) (omega (arith, k.1)) z) (λ k. unsteady (r ∙ k) z) (steady-numbers text (opening_steady text) (answered-steady text) e))
      (λ m e r z. opens_steady refl e r z)

  -- ---- requests

  -- 11
  shut_out : {y : Machine} → Holds x y → y ≡ closed → (r : Request) → has_lengths (on' r) (lent_lengths (make (on' r) a l)) (length l) ≡ true → Out y (on' r)
  unfolding on_machine leaves left_in no shown
  shut_out h q r w =
      let p = shut h a l h q r w in
      nothing (inr (ap (λ (e : Effect). e.answer.number) p)) (ap (λ (e : Effect). e.left) p) (ap (λ (e : Effect). e.output) p)

  module _ {y : Machine} (h : Held) (e : y ≡ holding h) where
    abbrev m : Resolved.Model
    m = h.model

    abbrev s : State
    s = h.state

    -- of a request r that turns the state to that of t, with its answer
    module _ (r : Request) (u : Turns x h r a l) where
      -- 12 to 14
      unlisted-out : (k : ℕ) → output_of (on' r) ≡ some k → length l ≡ k → (n i j : ℕ) → 12 ≤ n → n ≤ 14 → (acts r h).machine ≡ h → (acts r h).answer ≡ no n i j machine.zeroed → Out y (on' r)
      unfolding no shown
      unlisted-out k o long n i j b c f g =
          let q : (effect_of x (make (on' r) a l)).answer.number ≡ n = ap (λ (a : Answer). a.number) (u.answer ∙ g) in
          unlisted o (omega arith) (omega arith) (u.output ∙ ap (λ (a : Answer). shown a.listing l) g ∙ ap (λ (i : ℕ). replicate i 0) long) (still u f)

      -- 15 to 19
      listed-out : (es : List Entry) (n : ℕ) → IsListing m s es → 15 ≤ n → n ≤ 19 → (acts r h).machine ≡ h → (acts r h).answer ≡ listed_as n 0 es → Out y (on' r)
      unfolding listed_as shown
      listed-out es n k b c f g =
          let q : (effect_of x (make (on' r) a l)).answer.number ≡ n = ap (λ (a : Answer). a.number) (u.answer ∙ g) in
          listed e k (omega arith) (omega arith) (u.output ∙ ap (λ (a : Answer). shown a.listing l) g) (still u f)

      -- 23 to 25
      unwaited-out : (es : List Entry) (n : ℕ) → IsListing m s es → 23 ≤ n → n ≤ 25 → (acts r h).machine ≡ h → (acts r h).answer ≡ listed_as n 0 es → Out y (on' r)
      unfolding listed_as shown
      unwaited-out es n k b c f g =
          let q : (effect_of x (make (on' r) a l)).answer.number ≡ n = ap (λ (a : Answer). a.number) (u.answer ∙ g) in
          unwaited e k (omega arith) (omega arith) (u.output ∙ ap (λ (a : Answer). shown a.listing l) g) (still u f)

      -- acceptance
      accepted-out : (es : List Entry) (i : ℕ) → IsListing m s es → (acts r h).answer ≡ listed_as 0 i es → Out y (on' r)
      unfolding listed_as shown numbers_of
      accepted-out es i k g =
          accepted e k (ap (λ (a : Answer). a.number) (u.answer ∙ g)) (u.output ∙ ap (λ (a : Answer). shown a.listing l) g) (u.left model ∙ sym (u.before model))

    -- what the questions of a listing answer
    showing-out : Turns x h list' a l → length l ≡ listing_length → {k : Listed} → Lists m s k
        → (acts list' h).machine ≡ moved h (showing s k).machine → (acts list' h).answer ≡ (showing s k).answer → Out y (on' list')
    unfolding showing
    showing-out u long (no12 {i = i} {j = j} f) w n = unlisted-out list' u listing_length refl long 12 i j (omega arith) (omega arith) w n
    showing-out u long (no13 g k l) w n = unlisted-out list' u listing_length refl long 13 0 0 (omega arith) (omega arith) w n
    showing-out u long (no14 g k l f) w n = unlisted-out list' u listing_length refl long 14 0 0 (omega arith) (omega arith) w n
    showing-out u long (yes14 {es = es} g k l f) w n = accepted-out list' u es 0 k n

    list-out : Turns x h list' a l → length l ≡ listing_length → Out y (on' list')
    unfolding acts on_state lists
    list-out u long = showing-out u long ((asked m s (machine.listing m s)).0 refl) refl refl

    -- of a report
    sharing-out : Turns x h report' a l → length l ≡ report_length → {k : Listed} → Lists m s k
        → (acts report' h).machine ≡ moved h (sharing m s k).machine → (acts report' h).answer ≡ (sharing m s k).answer → Out y (on' report')
    unfolding sharing reported_as shown
    sharing-out u long (no12 {i = i} {j = j} f) w n = unlisted-out report' u report_length refl long 12 i j (omega arith) (omega arith) w n
    sharing-out u long (no13 g k l) w n = unlisted-out report' u report_length refl long 13 0 0 (omega arith) (omega arith) w n
    sharing-out u long (no14 g k l f) w n = unlisted-out report' u report_length refl long 14 0 0 (omega arith) (omega arith) w n
    sharing-out u long (yes14 {es = es} g k l' f) w n =
        reported e k (ap (λ (a : Answer). a.number) (u.answer ∙ n)) (u.output ∙ ap (λ (a : Answer). shown a.listing l) n) (still u w)

    report-out : Turns x h report' a l → length l ≡ report_length → Out y (on' report')
    unfolding acts on_state reports
    report-out u long = sharing-out u long ((asked m s (machine.listing m s)).0 refl) refl refl

    -- of a search
    search-out : (n : List ℕ) (d : ℕ) → Turns x h (search' n d) a l → Out y (on' (search' n d))
    unfolding acts on_state shown
    search-out n d u =
        searched e refl (subst (Searches m n s d) (sym u.answer) ((searching.asked m n s d (searches n d m s).answer).0 refl)) (still u (unmoved n d))
        (u.output ∙ ap (λ (k : machine.Shown). shown k l) (search-shows m n s d))
      where
        unmoved : (n : List ℕ) (d : ℕ) → (acts (search' n d) h).machine ≡ h
        unmoved n d = unfold searches in refl

    -- and of a step
    drawn-out : {d : ℕ} → Turns x h (step' d) a l → {es : List Entry} {t : Turn State} → IsListing m s es → Steps m s es d t
        → (acts (step' d) h).machine ≡ moved h t.machine → (acts (step' d) h).answer ≡ t.answer → Out y (on' (step' d))
    drawn-out {d} u {es = es} g (no15 l) w n = listed-out (step' d) u es 15 g (omega arith) (omega arith) w n
    drawn-out {d} u {es = es} g (no16 l k) w n = listed-out (step' d) u es 16 g (omega arith) (omega arith) w n
    drawn-out {d} u {es = es} g (no17 o k) w n = listed-out (step' d) u es 17 g (omega arith) (omega arith) w n
    drawn-out {d} u {es = es} g (no18 r l) w n = listed-out (step' d) u es 18 g (omega arith) (omega arith) w n
    drawn-out {d} u {es = es} g (no19 r l k) w n = listed-out (step' d) u es 19 g (omega arith) (omega arith) w n
    drawn-out {d} u {es = es} g (yes19 {c = i} r l k) w n = accepted-out (step' d) u es i g n

    choosing-out : {d : ℕ} → Turns x h (step' d) a l → length l ≡ listing_length → {k : Listed} → Lists m s k
        → (acts (step' d) h).machine ≡ moved h (choosing m s d k).machine → (acts (step' d) h).answer ≡ (choosing m s d k).answer → Out y (on' (step' d))
    unfolding choosing
    choosing-out {d} u long (no12 {i = i} {j = j} f) w n = unlisted-out (step' d) u listing_length refl long 12 i j (omega arith) (omega arith) w n
    choosing-out {d} u long (no13 g k l) w n = unlisted-out (step' d) u listing_length refl long 13 0 0 (omega arith) (omega arith) w n
    choosing-out {d} u long (no14 g k l f) w n = unlisted-out (step' d) u listing_length refl long 14 0 0 (omega arith) (omega arith) w n
    choosing-out {d} u long (yes14 {es = es} g k l f) w n = drawn-out u k ((step.asked m s es k d (drawn m s es d)).0 refl) w n

    step-out : {d : ℕ} → Turns x h (step' d) a l → length l ≡ listing_length → Out y (on' (step' d))
    unfolding acts on_state steps_with
    step-out u long = choosing-out u long ((asked m s (machine.listing m s)).0 refl) refl refl

    -- of a turn of state, clock and saves, accepted or refused under 20 to 22
    saves-out : (r : Request) (f : Timed → Saves → Stored) → Names r → ((k : Held) → acts r k ≡ on_saves f k) → Turns x h r a l → StoredAnswers (timed_of h) h.saves (f (timed_of h) h.saves) → Out y (on' r)
    unfolding on_saves no shown
    saves-out r f k q u (accepts z) =
        stored e refl k (ap (λ (a : Answer). a.number) u.answer ∙ ap (λ (t : Turn Held). t.answer.number) (q h) ∙ z) (same-engine left_so) (u.output ∙ ap (λ (t : Turn Held). shown t.answer.listing l) (q h))
      where
        left_so : (p : Part) → left_by x (make (on' r) a l) p ≡ with_kept x (state_numbers (acts r h).machine.state) (saves_numbers (acts r h).machine.saves) (acts r h).machine.clock p
        left_so model = unfold with_kept numbers_of in u.left model ∙ sym (u.before model)
        left_so state = unfold with_kept numbers_of in u.left state
        left_so saves = unfold with_kept numbers_of in u.left saves
        left_so clock = unfold with_kept numbers_of in u.left clock
        left_so search = unfold with_kept numbers_of in u.left search ∙ ap (λ (t : Turn Held). search_numbers t.machine.search) (q h) ∙ sym (u.before search)
    saves-out r f k q u (refuses b c z) =
        let n : (effect_of x (make (on' r) a l)).answer.number ≡ (f (timed_of h) h.saves).number = ap (λ (a : Answer). a.number) u.answer ∙ ap (λ (t : Turn Held). t.answer.number) (q h) in
        unstored (omega arith) (omega arith) (still u (ap (λ (t : Turn Held). t.machine) (q h) ∙ ap₂ (λ (t : Timed) (ss : Saves). stored_in h (record { number = 0; kept = t; saves = ss })) z.0 z.1))
        (u.output ∙ ap (λ (t : Turn Held). shown t.answer.listing l) (q h))

    -- and of a timed step
    timing-out : {ds : List ℕ} {d : ℕ} → Turns x h (timed' ds d) a l → {es : List Entry} {t : Turn Timed} → IsListing m s es → Times m s h.clock es ds d t
        → (acts (timed' ds d) h).machine ≡ moved_in h t.machine → (acts (timed' ds d) h).answer ≡ t.answer → Out y (on' (timed' ds d))
    timing-out {ds} {d} u {es = es} g (no15-19 k l r) w n = let b = timing.step-numbers k l r in listed-out (timed' ds d) u es k g b.0 b.1 w n
    timing-out {ds} {d} u {es = es} g (no23 i r f) w n = unwaited-out (timed' ds d) u es 23 g (omega arith) (omega arith) w n
    timing-out {ds} {d} u {es = es} g (no24 i r f) w n = unwaited-out (timed' ds d) u es 24 g (omega arith) (omega arith) w n
    timing-out {ds} {d} u {es = es} g (no25 i r f k) w n = unwaited-out (timed' ds d) u es 25 g (omega arith) (omega arith) w n
    timing-out {ds} {d} u {es = es} g (yes25 i r f k o) w n = accepted-out (timed' ds d) u es i g n

    choosing-in : {ds : List ℕ} {d : ℕ} → Turns x h (timed' ds d) a l → length l ≡ listing_length → {k : Listed} → Lists m s k
        → (acts (timed' ds d) h).machine ≡ moved_in h (steps_in h.clock ds s (choosing m s d k)).machine → (acts (timed' ds d) h).answer ≡ (steps_in h.clock ds s (choosing m s d k)).answer
        → Out y (on' (timed' ds d))
    unfolding choosing steps_in no
    choosing-in {ds} {d} u long (no12 {i = i} {j = j} f) w n = unlisted-out (timed' ds d) u listing_length refl long 12 i j (omega arith) (omega arith) w n
    choosing-in {ds} {d} u long (no13 g k l) w n = unlisted-out (timed' ds d) u listing_length refl long 13 0 0 (omega arith) (omega arith) w n
    choosing-in {ds} {d} u long (no14 g k l f) w n = unlisted-out (timed' ds d) u listing_length refl long 14 0 0 (omega arith) (omega arith) w n
    choosing-in {ds} {d} u long (yes14 {es = es} g k l f) w n = timing-out u k ((timing.asked m s h.clock es k ds d (steps_in h.clock ds s (drawn m s es d))).0 refl) w n

    timed-out : {ds : List ℕ} {d : ℕ} → Turns x h (timed' ds d) a l → length l ≡ listing_length → Out y (on' (timed' ds d))
    unfolding acts on_clock times_with steps_with
    timed-out u long = choosing-in u long ((asked m s (machine.listing m s)).0 refl) refl refl

    -- of a run
    run_out : (ws vs : List ℕ) (n k : ℕ) → Turns x h (run' ws vs n k) a l → Out y (on' (run' ws vs n k))
    unfolding acts on_clock runs_over ran_as runs_as shown
    run_out ws vs n k u = ran e refl refl (run-carries ws vs n k m s h.clock) u.answer u.output (same-engine left_so)
      where
        left_so : (p : Part) → left_by x (make (on' (run' ws vs n k)) a l) p ≡ with_timed x (state_numbers (acts (run' ws vs n k) h).machine.state) (acts (run' ws vs n k) h).machine.clock p
        left_so model = unfold with_timed numbers_of in u.left model ∙ sym (u.before model)
        left_so state = unfold with_timed numbers_of in u.left state
        left_so saves = unfold with_timed numbers_of in u.left saves ∙ sym (u.before saves)
        left_so clock = unfold with_timed numbers_of in u.left clock
        left_so search = unfold with_timed numbers_of in u.left search ∙ sym (u.before search)

    -- 02, note 10: of a search that is begun or carried on
    walks-out : (r : Request) (f : Resolved.Model → State → Option Search → Turn (Option Search)) → Walks r → ((k : Held) → acts r k ≡ on_search f k) → Turns x h r a l → length (f m s h.search).answer.run ≤ depth_limit → Walked h.search (f m s h.search) → Out y (on' r)
    unfolding on_search shown
    walks-out r f k q u few (goes z w) =
        walked e refl k (subst (λ (b : Answer). (b.number ≡ 0) ⊎ (b.number ≡ 27)) (sym (u.answer ∙ ap (λ (t : Turn Held). t.answer) (q h))) z)
        (subst (λ (b : Answer). length b.run ≤ depth_limit) (sym (u.answer ∙ ap (λ (t : Turn Held). t.answer) (q h))) few) u.answer (same-engine left_so)
        (u.output ∙ ap (λ (t : Turn Held). shown t.answer.listing l) (q h) ∙ ap (λ (j : machine.Shown). shown j l) w)
      where
        left_so : (p : Part) → left_by x (make (on' r) a l) p ≡ with_search x (search_numbers (acts r h).machine.search) p
        left_so model = unfold with_search numbers_of in u.left model ∙ sym (u.before model)
        left_so state = unfold with_search numbers_of in u.left state ∙ ap (λ (t : Turn Held). state_numbers t.machine.state) (q h) ∙ sym (u.before state)
        left_so saves = unfold with_search numbers_of in u.left saves ∙ ap (λ (t : Turn Held). saves_numbers t.machine.saves) (q h) ∙ sym (u.before saves)
        left_so clock = unfold with_search numbers_of in u.left clock ∙ ap (λ (t : Turn Held). clock_numbers t.machine.clock) (q h) ∙ sym (u.before clock)
        left_so search = unfold with_search numbers_of in u.left search
    walks-out r f k q u few (stays z w v) =
        unwalked refl k (subst (λ (b : Answer). (b.number ≡ 26) ⊎ (b.number ≡ 28)) (sym (u.answer ∙ ap (λ (t : Turn Held). t.answer) (q h))) z)
        (still u (ap (λ (t : Turn Held). t.machine) (q h) ∙ ap (searched_in h) v)) (u.output ∙ ap (λ (t : Turn Held). shown t.answer.listing l) (q h) ∙ ap (λ (j : machine.Shown). shown j l) w)

    request-out : (r : Request) → GoodSearching h.model h.search → Turns x h r a l → ((n : ℕ) → output_of (on' r) ≡ some n → length l ≡ n) → Out y (on' r)
    unfolding acts Names Walks
    request-out list' g u long = list-out u (long listing_length refl)
    request-out (step' d) g u long = step-out u (long listing_length refl)
    request-out report' g u long = report-out u (long report_length refl)
    request-out (search' n d) g u long = search-out n d u
    request-out (save' n) g u long = saves-out (save' n) (saving n) tt (λ k. refl) u (saving-answers n (timed_of h) h.saves)
    request-out (return' n) g u long = saves-out (return' n) (returning n) tt (λ k. refl) u (returning-answers n (timed_of h) h.saves)
    request-out (forget' n) g u long = saves-out (forget' n) (forgetting n) tt (λ k. refl) u (forgetting-answers n (timed_of h) h.saves)
    request-out (timed' ds d) g u long = timed-out u (long listing_length refl)
    request-out (run' ws vs n k) g u long = run_out ws vs n k u
    request-out (begin' n d) g u long = walks-out (begin' n d) (begins n d) tt (λ k. refl) u (begins-few n d m s h.search) (begins-walked n d m s h.search)
    request-out (carry' n) g u long = walks-out (carry' n) (λ m s. carries_by n m) tt (λ k. refl) u (carries-few n m h.search g) (carries-walked n m h.search)

  -- ---- every call

  request-right : {y : Machine} → Holds x y → (r : Request) → has_lengths (on' r) (lent_lengths (make (on' r) a l)) (length l) ≡ true → Out y (on' r)
  unfolding fed
  request-right (zeros e) r w = shut_out (zeros e) refl r w
  request-right (held {h = h} text m e g) r w =
      request-out h refl r g.search (request-turns (held text m e g) a l (held text m e g) h refl r w) (on (lent-so (fed (make (on' r) a l))) w).output

  outcome-at : {y : Machine} → Holds x y → (k : Ask) → Out y k
  unfolding untouched no
  outcome-at {y} h k = by k (has_lengths k (lent_lengths (make k a l)) (length l)) refl
    where
      by : (k : Ask) (t : Bool) → has_lengths k (lent_lengths (make k a l)) (length l) ≡ t → Out y k
      by (open' text) true w = plain-right h text w
      by (open_steady' text) true w = steady-right h text w
      by (on' r) true w = request-right h r w
      by k false w =
          let p = one-untouched h (make k a l) w in
          nothing (inl (ap (λ (e : Effect). e.answer.number) p)) (ap (λ (e : Effect). e.left) p) (ap (λ (e : Effect). e.output) p)

-- 01, Opening a text, Listing and stepping: what any call leaves after any list of calls on the fresh engine
pub every-outcome : (cs : List BufferCall) (c : BufferCall) → Outcome (engine_after fresh cs) (after closed (map fed cs)) c (effect_of (engine_after fresh cs) c)
every-outcome cs c = outcome-at (engine_after fresh cs) c.lending c.output (every-list cs).1 c.ask
