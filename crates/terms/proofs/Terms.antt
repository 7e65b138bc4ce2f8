-- The three terms: from what is proved of texts (token, grammar, model), of listings and steps (machine) and of buffers and lists of calls (buffers).
use mathlib.Core.Path.{◌≡◌, refl, sym, ap, subst, ◌∙◌}
use mathlib.Core.Bool.{Bool, true, cond}
use mathlib.Core.List.{List}
use mathlib.Core.Logic.{◌↔◌}
use mathlib.Core.Option.{Option}
use Prim.Native.Nat.{ℕ, ◌<◌}
use native.Mathlib.Omega.{arith}
use lib.ListN.{length, get_or}
use Rattle.token.specs.Token.{tokens, kinds_of}
use Rattle.token.proofs.Tiles.{tiled}
use Rattle.token.proofs.Only.{only}
use Rattle.grammar.specs.Grammar as derived
use Rattle.grammar.specs.Grammar.{Reads}
use Rattle.grammar.specs.Syntax.{syntax_of}
use Rattle.grammar.proofs.Unique.{unique}
use Rattle.model.specs.Resolved
use Rattle.model.specs.Resolved.{resolved}
use Rattle.model.specs.Words.{word_of}
use Rattle.model.specs.Opening.{Opening, refused, opened}
use Rattle.model.specs.Opening as reading
use Rattle.model.specs.Questions.{Answers, no2, no3, no4, no5, no6, no7, no8, no9, yes_to_all}
use Rattle.model.specs.Questions as questions
use Rattle.model.proofs.Answered.{opening-answers}
use Rattle.profile.specs.Opening.{opening_steady, AnswersSteady}
use Rattle.profile.proofs.InOrder.{answered-steady}
use Rattle.rules.proofs.Decides.{Decides, holds, fails, passes}
use Rattle.clock.specs.declared.Clock.{Clock}
use Rattle.machine.specs.State.{State, state_length}
use Rattle.machine.specs.Timed.{Timed}
use Rattle.machine.specs.Report.{report_length}
use Rattle.machine.specs.Saves.{Saves, Stored, saving, returning, forgetting}
use Rattle.machine.specs.Machine.{model_length, listing_length, as_lent, no, Turn, Search, begins, carries_by, Held, held_all, held_with, held, Machine, closed, holding, on_saves, on_search, Request, list', step', report', search', timed', run', save', return', forget', begin', carry', open', open_steady', on', acts, Part, model, state, saves, clock, search, size, two_parts, timed_parts, search_parts, three_parts, four_parts, uses, lent_to, is_lent, has_lengths, call, on_machine}
use Rattle.machine.proofs.Lent.{lent-so}
use Rattle.machine.proofs.Listing.{accepted}
use Rattle.buffers.specs.Listing.{shown}
use Rattle.buffers.specs.Parts.{Engine}
use Rattle.buffers.specs.Effect.{Effect, machine_in, untouched, opens_with, left_in, leaves, requested, answered, effect}
use Rattle.buffers.proofs.Machines.{InTwo, both, in_two, eleven-exactly, text-machine}
use Rattle.buffers.proofs.Machines as machines
use Rattle.buffers.proofs.Clocks as clocks
use Rattle.buffers.proofs.Clocks.{InTimed, in-timed, held_at, times-as, runs_as_lem}
use Rattle.buffers.proofs.Pieces.{Walked, begins-walked, carries-walked}
use Rattle.buffers.proofs.Under as unders
use Rattle.buffers.proofs.Under.{InUnder, in-under, held_under}
use Rattle.buffers.proofs.Four as fours
use Rattle.buffers.proofs.Four.{InFour, in_four, keeps}
use Rattle.buffers.proofs.Three as threes
use Rattle.buffers.proofs.Three.{InThree, all, in_three, stores}
use Rattle.buffers.proofs.Answers.{lists-as, steps-as, reports-as, searches-as}
use Rattle.buffers.proofs.Every.{every-list}
use Rattle.terms.specs.One.{Lengths, Hold, Opens, no1, no10, yes10, OpensSteady, no29, yes29, Asks, HoldSaves, Waits, Runs, Searching, Keeps, Stores, TermOne}
use Rattle.terms.specs.One as one
use Rattle.terms.specs.Two.{Reading, Passes, TermTwo}
use Rattle.terms.specs.Three.{TermThree}

-- ---- an opening

opens : (text : List ℕ) (x : Engine) (l : List ℕ) → Opens text x l (effect (open' text) x l)
unfolding effect answered opens_with untouched
opens text x l = by (lent-so (call (open' text) (λ (p : Part). length (x p)) (length l)))
  where
    with : (o : Opening) → reading.opening text ≡ o → Lengths (open' text) x l → Opens text x l (opens_with text o l)
    with (refused n p) e h = no10 h ((opening-answers text (refused n p)).0 e)
    with (opened m) e h = yes10 h ((opening-answers text (opened m)).0 e)

    by : {b : Bool} → Decides (Lengths (open' text) x l) b → Opens text x l (cond b (opens_with text (reading.opening text) l) (untouched x l))
    by (holds h) = with (reading.opening text) refl h
    by (fails h) = no1 h

-- 02, note 11: under the steady profile
opens-steady : (text : List ℕ) (x : Engine) (l : List ℕ) → OpensSteady text x l (effect (open_steady' text) x l)
unfolding effect answered opens_with untouched
opens-steady text x l = by (lent-so (call (open_steady' text) (λ (p : Part). length (x p)) (length l)))
  where
    with : (o : Opening) → AnswersSteady text o → Lengths (open_steady' text) x l → OpensSteady text x l (opens_with text o l)
    with (refused n p) a h = no29 h a
    with (opened m) a h = yes29 h a

    by : {b : Bool} → Decides (Lengths (open_steady' text) x l) b → OpensSteady text x l (cond b (opens_with text (opening_steady text) l) (untouched x l))
    by (holds h) = with (opening_steady text) (answered-steady text) h
    by (fails h) = one.OpensSteady.no1 h

-- ---- the other calls

module _ (x : Engine) (l : List ℕ) (byte : get_or (x model) 0 0 < 256) where
  nothing : machine_in two_parts x ≡ closed → (m : Resolved.Model) (s : State) → Hold x m s → ⊥
  nothing e m s h =
      let f : machine_in two_parts x ≡ holding (held m s) = text-machine x h.text m s h.bytes h.holds h.numbers h.over in
      let z : ◌≡◌ {A = ℕ} 0 1 = cc (e, f) in
      omega arith

  -- a request that is lent model and state
  module _ (r : Request) (As : Resolved.Model → State → Effect → Type 0) (two : lent_to (on' r) ≡ two_parts)
      (asked : effect (on' r) x l ≡ cond (has_lengths (on' r) (λ (p : Part). length (x p)) (length l)) (leaves two_parts x l (on_machine r (machine_in two_parts x))) (untouched x l))
      (answered : (m : Resolved.Model) (s : State) → Lengths (on' r) x l → length (x model) ≡ model_length → length (x state) ≡ state_length → machine_in two_parts x ≡ holding (held m s)
      → As m s (effect (on' r) x l)) where
    long : (p : Part) → is_lent p two_parts ≡ true → Lengths (on' r) x l → length (x p) ≡ size p
    long p t h = h.parts p (rw two t)

    lent-all : Lengths (on' r) x l → effect (on' r) x l ≡ leaves two_parts x l (on_machine r (machine_in two_parts x))
    lent-all h = asked ∙ ap (λ (b : Bool). cond b (leaves two_parts x l (on_machine r (machine_in two_parts x))) (untouched x l)) (passes (lent-so (call (on' r) (λ (p : Part). length (x p)) (length l))) h)

    -- where nothing is held, 11 changes nothing
    leaves_all : machine_in two_parts x ≡ closed → leaves two_parts x l (on_machine r (machine_in two_parts x)) ≡ one.left (no 11 0 0 as_lent) x l
    unfolding leaves on_machine left_in shown no
    leaves_all e = ap (λ (y : Machine). leaves two_parts x l (on_machine r y)) e

    of : Lengths (on' r) x l → Asks r As x l (effect (on' r) x l)
    unfolding is_lent
    of h = by (in_two x) refl
      where
        a : length (x model) ≡ model_length
        a = long model refl h

        b : length (x state) ≡ state_length
        b = long state refl h

        by : {y : Machine} → InTwo y → machine_in two_parts x ≡ y → Asks r As x l (effect (on' r) x l)
        by machines.nothing e = subst (Asks r As x l) (sym (lent-all h ∙ leaves_all e)) (one.Asks.no11 h (nothing e))
        by (both m s) e =
            let k = (eleven-exactly x m s a byte b).0 e in
            one.Asks.yes11 h (record { text = k.0; bytes = k.1; holds = k.2; over = k.3; numbers = k.4 }) (answered m s h a b e)

    asks : Asks r As x l (effect (on' r) x l)
    unfolding untouched
    asks = by (lent-so (call (on' r) (λ (p : Part). length (x p)) (length l))) asked
      where
        by : {b : Bool} → Decides (Lengths (on' r) x l) b → effect (on' r) x l ≡ cond b (leaves two_parts x l (on_machine r (machine_in two_parts x))) (untouched x l) → Asks r As x l (effect (on' r) x l)
        by (holds h) e = of h
        by (fails h) e = subst (Asks r As x l) (sym e) (one.Asks.no1 h)

-- ---- the calls on the saves

module _ (x : Engine) (l : List ℕ) (byte : get_or (x model) 0 0 < 256) (r : Request) (f : Timed → Saves → Stored) (q : (h : Held) → acts r h ≡ on_saves f h) (three : uses r ≡ three_parts)
    (asked : effect (on' r) x l ≡ cond (has_lengths (on' r) (λ (p : Part). length (x p)) (length l)) (leaves three_parts x l (on_machine r (machine_in three_parts x))) (untouched x l)) where
  unheld : machine_in three_parts x ≡ closed → (m : Resolved.Model) (s : State) (ss : Saves) → HoldSaves x m s ss → ⊥
  unheld e m s ss h =
      let k = h.hold in
      let f : machine_in three_parts x ≡ holding (held_with m s ss) = threes.text-machine x k.text m s ss k.bytes k.holds k.numbers h.numbers k.over h.over in
      let z : ◌≡◌ {A = ℕ} 0 1 = cc (e, f) in
      omega arith

  leaves-three : machine_in three_parts x ≡ closed → leaves three_parts x l (on_machine r (machine_in three_parts x)) ≡ one.left (no 11 0 0 as_lent) x l
  unfolding leaves on_machine left_in shown no
  leaves-three e = ap (λ (y : Machine). leaves three_parts x l (on_machine r y)) e

  held-so : Lengths (on' r) x l → effect (on' r) x l ≡ leaves three_parts x l (on_machine r (machine_in three_parts x)) → Stores r f x l (effect (on' r) x l)
  unfolding is_lent
  held-so h w = by (in_three x) refl
    where
      long : (p : Part) → is_lent p three_parts ≡ true → length (x p) ≡ size p
      long p t = h.parts p (rw three t)

      by : {y : Machine} → InThree y → machine_in three_parts x ≡ y → Stores r f x l (effect (on' r) x l)
      by threes.nothing e = subst (Stores r f x l) (sym (w ∙ leaves-three e)) (one.Stores.no11 h (unheld e))
      by (all m s ss) e =
          let k = (threes.eleven-exactly x m s ss (long model refl) byte (long state refl) (long saves refl)).0 e in
          subst (Stores r f x l) (sym (w ∙ stores r f q three x l m s ss e))
          (one.Stores.yes11 h (record { hold = record { text = k.0; bytes = k.1; holds = k.2; over = k.3; numbers = k.4 }; over = k.5; numbers = k.6 }))

  asks-saves : Stores r f x l (effect (on' r) x l)
  unfolding untouched
  asks-saves = by (lent-so (call (on' r) (λ (p : Part). length (x p)) (length l))) asked
    where
      by : {b : Bool} → Decides (Lengths (on' r) x l) b → effect (on' r) x l ≡ cond b (leaves three_parts x l (on_machine r (machine_in three_parts x))) (untouched x l) → Stores r f x l (effect (on' r) x l)
      by (holds h) e = held-so h e
      by (fails h) e = subst (Stores r f x l) (sym e) (one.Stores.no1 h)

-- ---- a timed step

module _ (x : Engine) (l : List ℕ) (byte : get_or (x model) 0 0 < 256) (ds : List ℕ) (d : ℕ)
    (asked : effect (on' (timed' ds d)) x l ≡ cond (has_lengths (on' (timed' ds d)) (λ (p : Part). length (x p)) (length l)) (leaves timed_parts x l (on_machine (timed' ds d) (machine_in timed_parts x))) (untouched x l)) where
  timed-held : Lengths (on' (timed' ds d)) x l → effect (on' (timed' ds d)) x l ≡ leaves timed_parts x l (on_machine (timed' ds d) (machine_in timed_parts x)) → Waits ds d x l (effect (on' (timed' ds d)) x l)
  unfolding is_lent
  timed-held h w = by (in-timed x) refl
    where
      long : (p : Part) → is_lent p timed_parts ≡ true → length (x p) ≡ size p
      long p t = h.parts p t

      none-held : machine_in timed_parts x ≡ closed → (m : Resolved.Model) (s : State) (c : Clock) → Hold x m s → one.HoldClock x c → ⊥
      none-held e m s c k q =
          let f : machine_in timed_parts x ≡ holding (held_at m s c) = (clocks.eleven-timed x m s c (long model refl) byte (long state refl) (long clock refl)).1 ((k.text, k.bytes, k.holds, k.over, k.numbers), q.range, q.numbers) in
          let z : ◌≡◌ {A = ℕ} 0 1 = cc (e, f) in
          omega arith

      shut : machine_in timed_parts x ≡ closed → leaves timed_parts x l (on_machine (timed' ds d) (machine_in timed_parts x)) ≡ one.left (no 11 0 0 as_lent) x l
      shut e = unfold leaves on_machine left_in shown no in ap (λ (y : Machine). leaves timed_parts x l (on_machine (timed' ds d) y)) e

      by : {y : Machine} → InTimed y → machine_in timed_parts x ≡ y → Waits ds d x l (effect (on' (timed' ds d)) x l)
      by clocks.nothing e = subst (Waits ds d x l) (sym (w ∙ shut e)) (one.Waits.no11 h (none-held e))
      by (clocks.all m s c) e =
          let k = (clocks.eleven-timed x m s c (long model refl) byte (long state refl) (long clock refl)).0 e in
          one.Waits.yes11 h (record { text = k.0.0; bytes = k.0.1; holds = k.0.2; over = k.0.3; numbers = k.0.4 }) (record { range = k.1; numbers = k.2 })
          (times-as x l (long model refl) (long state refl) (long clock refl) m s c e (h.output listing_length refl) ds d)

  asks-timed : Waits ds d x l (effect (on' (timed' ds d)) x l)
  unfolding untouched
  asks-timed = by (lent-so (call (on' (timed' ds d)) (λ (p : Part). length (x p)) (length l))) asked
    where
      by : {b : Bool} → Decides (Lengths (on' (timed' ds d)) x l) b → effect (on' (timed' ds d)) x l ≡ cond b (leaves timed_parts x l (on_machine (timed' ds d) (machine_in timed_parts x))) (untouched x l)
          → Waits ds d x l (effect (on' (timed' ds d)) x l)
      by (holds h) e = timed-held h e
      by (fails h) e = subst (Waits ds d x l) (sym e) (one.Waits.no1 h)

-- ---- a run

module _ (x : Engine) (l : List ℕ) (byte : get_or (x model) 0 0 < 256) (ws vs : List ℕ) (n : ℕ)
    (asked : effect (on' (run' ws vs n (length l))) x l ≡ cond (has_lengths (on' (run' ws vs n (length l))) (λ (p : Part). length (x p)) (length l)) (leaves timed_parts x l (on_machine (run' ws vs n (length l)) (machine_in timed_parts x))) (untouched x l)) where
  run-held : Lengths (on' (run' ws vs n (length l))) x l → effect (on' (run' ws vs n (length l))) x l ≡ leaves timed_parts x l (on_machine (run' ws vs n (length l)) (machine_in timed_parts x)) → Runs ws vs n x l (effect (on' (run' ws vs n (length l))) x l)
  unfolding is_lent
  run-held h w = by (in-timed x) refl
    where
      long : (p : Part) → is_lent p timed_parts ≡ true → length (x p) ≡ size p
      long p t = h.parts p t

      none-held : machine_in timed_parts x ≡ closed → (m : Resolved.Model) (s : State) (c : Clock) → Hold x m s → one.HoldClock x c → ⊥
      none-held e m s c k q =
          let f : machine_in timed_parts x ≡ holding (held_at m s c) = (clocks.eleven-timed x m s c (long model refl) byte (long state refl) (long clock refl)).1 ((k.text, k.bytes, k.holds, k.over, k.numbers), q.range, q.numbers) in
          let z : ◌≡◌ {A = ℕ} 0 1 = cc (e, f) in
          omega arith

      shut : machine_in timed_parts x ≡ closed → leaves timed_parts x l (on_machine (run' ws vs n (length l)) (machine_in timed_parts x)) ≡ one.left (no 11 0 0 as_lent) x l
      shut e = unfold leaves on_machine left_in shown no in ap (λ (y : Machine). leaves timed_parts x l (on_machine (run' ws vs n (length l)) y)) e

      by : {y : Machine} → InTimed y → machine_in timed_parts x ≡ y → Runs ws vs n x l (effect (on' (run' ws vs n (length l))) x l)
      by clocks.nothing e = subst (Runs ws vs n x l) (sym (w ∙ shut e)) (one.Runs.no11 h (none-held e))
      by (clocks.all m s c) e =
          let k = (clocks.eleven-timed x m s c (long model refl) byte (long state refl) (long clock refl)).0 e in
          subst (Runs ws vs n x l) (sym (runs_as_lem x l (long model refl) (long state refl) (long clock refl) m s c e ws vs n))
          (one.Runs.yes11 h (record { text = k.0.0; bytes = k.0.1; holds = k.0.2; over = k.0.3; numbers = k.0.4 }) (record { range = k.1; numbers = k.2 }))

  asks-run : Runs ws vs n x l (effect (on' (run' ws vs n (length l))) x l)
  unfolding untouched
  asks-run = by (lent-so (call (on' (run' ws vs n (length l))) (λ (p : Part). length (x p)) (length l))) asked
    where
      by : {b : Bool} → Decides (Lengths (on' (run' ws vs n (length l))) x l) b → effect (on' (run' ws vs n (length l))) x l ≡ cond b (leaves timed_parts x l (on_machine (run' ws vs n (length l)) (machine_in timed_parts x))) (untouched x l)
          → Runs ws vs n x l (effect (on' (run' ws vs n (length l))) x l)
      by (holds h) e = run-held h e
      by (fails h) e = subst (Runs ws vs n x l) (sym e) (one.Runs.no1 h)

-- ---- a search that is begun or carried on

module _ (x : Engine) (l : List ℕ) (byte : get_or (x model) 0 0 < 256) (r : Request) (f : Resolved.Model → State → Option Search → Turn (Option Search)) (q : (h : Held) → acts r h ≡ on_search f h)
    (t : (m : Resolved.Model) (s : State) (o : Option Search) → Walked o (f m s o)) (three : uses r ≡ search_parts)
    (asked : effect (on' r) x l ≡ cond (has_lengths (on' r) (λ (p : Part). length (x p)) (length l)) (leaves search_parts x l (on_machine r (machine_in search_parts x))) (untouched x l)) where
  search-held : Lengths (on' r) x l → effect (on' r) x l ≡ leaves search_parts x l (on_machine r (machine_in search_parts x)) → Searching r f x l (effect (on' r) x l)
  unfolding is_lent
  search-held h w = by (in-under x) refl
    where
      long : (p : Part) → is_lent p search_parts ≡ true → length (x p) ≡ size p
      long p k = h.parts p (rw three k)

      none-held : machine_in search_parts x ≡ closed → (m : Resolved.Model) (s : State) (o : Option Search) → Hold x m s → one.HoldSearch x m o → ⊥
      none-held e m s o k z =
          let g : machine_in search_parts x ≡ holding (held_under m s o) = (unders.eleven-under x m s o (long model refl) byte (long state refl) (long search refl)).1 ((k.text, k.bytes, k.holds, k.over, k.numbers), z.good, z.numbers) in
          let y : ◌≡◌ {A = ℕ} 0 1 = cc (e, g) in
          omega arith

      shut : machine_in search_parts x ≡ closed → leaves search_parts x l (on_machine r (machine_in search_parts x)) ≡ one.left (no 11 0 0 as_lent) x l
      shut e = unfold leaves on_machine left_in shown no in ap (λ (y : Machine). leaves search_parts x l (on_machine r y)) e

      by : {y : Machine} → InUnder y → machine_in search_parts x ≡ y → Searching r f x l (effect (on' r) x l)
      by unders.nothing e = subst (Searching r f x l) (sym (w ∙ shut e)) (one.Searching.no11 h (none-held e))
      by (unders.all m s o) e =
          let k = (unders.eleven-under x m s o (long model refl) byte (long state refl) (long search refl)).0 e in
          let u = unders.of-under x m s o (long state refl) (long search refl) e in
          subst (Searching r f x l) (sym (w ∙ unders.walks r f q t three x l m s o (long state refl) e u.two))
          (one.Searching.yes11 h (record { text = k.0.0; bytes = k.0.1; holds = k.0.2; over = k.0.3; numbers = k.0.4 }) (record { good = k.1; numbers = k.2 }))

  asks-search : Searching r f x l (effect (on' r) x l)
  unfolding untouched
  asks-search = by (lent-so (call (on' r) (λ (p : Part). length (x p)) (length l))) asked
    where
      by : {b : Bool} → Decides (Lengths (on' r) x l) b → effect (on' r) x l ≡ cond b (leaves search_parts x l (on_machine r (machine_in search_parts x))) (untouched x l) → Searching r f x l (effect (on' r) x l)
      by (holds h) e = search-held h e
      by (fails h) e = subst (Searching r f x l) (sym e) (one.Searching.no1 h)

-- ---- a save and a return

module _ (x : Engine) (l : List ℕ) (byte : get_or (x model) 0 0 < 256) (r : Request) (f : Timed → Saves → Stored) (q : (h : Held) → acts r h ≡ on_saves f h) (four : uses r ≡ four_parts)
    (asked : effect (on' r) x l ≡ cond (has_lengths (on' r) (λ (p : Part). length (x p)) (length l)) (leaves four_parts x l (on_machine r (machine_in four_parts x))) (untouched x l)) where
  four-held : Lengths (on' r) x l → effect (on' r) x l ≡ leaves four_parts x l (on_machine r (machine_in four_parts x)) → Keeps r f x l (effect (on' r) x l)
  unfolding is_lent
  four-held h w = by (in_four x) refl
    where
      long : (p : Part) → is_lent p four_parts ≡ true → length (x p) ≡ size p
      long p t = h.parts p (rw four t)

      none-held : machine_in four_parts x ≡ closed → (m : Resolved.Model) (s : State) (ss : Saves) (c : Clock) → HoldSaves x m s ss → one.HoldClock x c → ⊥
      none-held e m s ss c k q =
          let o = k.hold in
          let f : machine_in four_parts x ≡ holding (held_all m s ss c) = (fours.eleven-four x m s ss c (long model refl) byte (long state refl) (long saves refl) (long clock refl)).1 ((o.text, o.bytes, o.holds, o.over, o.numbers, k.over, k.numbers), q.range, q.numbers) in
          let z : ◌≡◌ {A = ℕ} 0 1 = cc (e, f) in
          omega arith

      shut : machine_in four_parts x ≡ closed → leaves four_parts x l (on_machine r (machine_in four_parts x)) ≡ one.left (no 11 0 0 as_lent) x l
      shut e = unfold leaves on_machine left_in shown no in ap (λ (y : Machine). leaves four_parts x l (on_machine r y)) e

      by : {y : Machine} → InFour y → machine_in four_parts x ≡ y → Keeps r f x l (effect (on' r) x l)
      by fours.nothing e = subst (Keeps r f x l) (sym (w ∙ shut e)) (one.Keeps.no11 h (none-held e))
      by (fours.all m s ss c) e =
          let k = (fours.eleven-four x m s ss c (long model refl) byte (long state refl) (long saves refl) (long clock refl)).0 e in
          subst (Keeps r f x l) (sym (w ∙ keeps r f q four x l m s ss c e))
          (one.Keeps.yes11 h (record { hold = record { text = k.0.0; bytes = k.0.1; holds = k.0.2; over = k.0.3; numbers = k.0.4 }; over = k.0.5; numbers = k.0.6 }) (record { range = k.1; numbers = k.2 }))

  asks-kept : Keeps r f x l (effect (on' r) x l)
  unfolding untouched
  asks-kept = by (lent-so (call (on' r) (λ (p : Part). length (x p)) (length l))) asked
    where
      by : {b : Bool} → Decides (Lengths (on' r) x l) b → effect (on' r) x l ≡ cond b (leaves four_parts x l (on_machine r (machine_in four_parts x))) (untouched x l) → Keeps r f x l (effect (on' r) x l)
      by (holds h) e = four-held h e
      by (fails h) e = subst (Keeps r f x l) (sym e) (one.Keeps.no1 h)

pub term-one : TermOne
unfolding effect answered requested machine_in acts
term-one = record {
  opening = opens;
  steady = opens-steady;
  listing = λ x l byte. asks x l byte list' _ refl refl (λ m s h a b e. lists-as x l a b m s e (h.output listing_length refl));
  stepping = λ x l d byte. asks x l byte (step' d) _ refl refl (λ m s h a b e. steps-as x l a b m s e (h.output listing_length refl) d);
  reporting = λ x l byte. asks x l byte report' _ refl refl (λ m s h a b e. reports-as x l a b m s e (h.output report_length refl));
  searching = λ x l n d byte. asks x l byte (search' n d) _ refl refl (λ m s h a b e. searches-as x l a b m s e n d);
  timing = λ x l ds d byte. asks-timed x l byte ds d refl;
  runs = λ x l ws vs n byte. asks-run x l byte ws vs n refl;
  saves = λ x l n byte. asks-kept x l byte (save' n) (saving n) (λ h. refl) refl refl;
  returns = λ x l n byte. asks-kept x l byte (return' n) (returning n) (λ h. refl) refl refl;
  begins = λ x l n d byte. asks-search x l byte (begin' n d) (begins n d) (λ h. refl) (λ m s o. begins-walked n d m s o) refl refl;
  carries = λ x l n byte. asks-search x l byte (carry' n) (λ m s. carries_by n m) (λ h. refl) (λ m s o. carries-walked n m o) refl refl;
  forgets = λ x l n byte. asks-saves x l byte (forget' n) (forgetting n) (λ h. refl) refl refl;
}

-- ---- readings

-- a text's reading is by its own tokens
same-marks : (text : List ℕ) (r : Reading text) → r.marks ≡ tokens text
same-marks text r = only text r.marks r.tiles

own-reads : (text : List ℕ) (r : Reading text) → Reads (kinds_of (tokens text)) r.tree
own-reads text r = subst (λ (ms : List _). Reads (kinds_of ms) r.tree) (same-marks text r) r.reads

abbrev own : (text : List ℕ) (d : derived.Model) → Reads (kinds_of (tokens text)) d → Reading text
own text d h = record { marks = tokens text; tiles = tiled text; tree = d; reads = h }

-- a refusal is no acceptance
apart : {B : Type 0} {n p : ℕ} {m : Resolved.Model} → refused n p ≡ opened m → B
apart e = absurd (let z : ◌≡◌ {A = ℕ} 0 1 = cc in omega arith)

-- what is said of an opened text with this model
pub record Read (text : List ℕ) (m : Resolved.Model) : Type 0 where
  pub reading : Reading text
  pub passes : Passes text (reading).tree
  pub is : m ≡ resolved (word_of text) (syntax_of (reading).tree)

read-so : (text : List ℕ) (o : Opening) (m : Resolved.Model) → Answers text o → o ≡ opened m → Read text m
read-so text o m (yes_to_all {s = s} a b c f g h i j k) e =
    let q = sym f.tree in
    let d : resolved (word_of text) s ≡ m = cc in
    record {
      reading = own text f.reading f.reads;
      passes = record { yes2 = a; yes3 = b; yes4 = c; yes6 = g; yes7 = rw q at h; yes8 = rw q at i; yes9 = rw q at j; yes10 = rw q at k };
      is = sym d ∙ ap (resolved (word_of text)) q;
    }
read-so text o m (no2 a) e = apart e
read-so text o m (no3 a b) e = apart e
read-so text o m (no4 a b c) e = apart e
read-so text o m (no5 a b c d) e = apart e
read-so text o m (no6 a b c d f) e = apart e
read-so text o m (no7 a b c d f g) e = apart e
read-so text o m (no8 a b c d f g h) e = apart e
read-so text o m (no9 a b c d f g h i) e = apart e
read-so text o m (questions.Answers.no10 a b c d f g h i j) e = apart e

opened-so : (text : List ℕ) (m : Resolved.Model) → (reading.opening text ≡ opened m) ↔ ((r : Reading text) × Passes text r.tree × (m ≡ resolved (word_of text) (syntax_of r.tree)))
opened-so text m = (λ e. let r = read-so text (reading.opening text) m ((opening-answers text (reading.opening text)).0 refl) e in (r.reading, r.passes, r.is), λ h. back h.0 h.1 h.2)
  where
    back : (r : Reading text) → Passes text r.tree → m ≡ resolved (word_of text) (syntax_of r.tree) → reading.opening text ≡ opened m
    back r p e =
        (opening-answers text (opened (resolved (word_of text) (syntax_of r.tree)))).1
        (yes_to_all {s = syntax_of r.tree} p.yes2 p.yes3 p.yes4 (record { reading = r.tree; reads = own-reads text r; tree = refl }) p.yes6 p.yes7 p.yes8 p.yes9 p.yes10)
        ∙ ap opened (sym e)

pub term-two : TermTwo
term-two = record {
  one-reading = λ text a b. (same-marks text a ∙ sym (same-marks text b), unique (kinds_of (tokens text)) a.tree b.tree (own-reads text a) (own-reads text b));
  accepted = opened-so;
  listed = λ m s es e. ((accepted m s es).0 e).1.derivable;
}

-- ---- lists of calls

pub term-three : TermThree
term-three = record { answered = λ cs. (every-list cs).0; held = λ cs. (every-list cs).1 }
