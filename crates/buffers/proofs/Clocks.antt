-- The model, the state and the clock hold a machine exactly where model and state do and the clock is in its range; and what a timed step answers over any buffers that do. From what is proved of the two.
use mathlib.Core.Path.{◌≡◌, refl, sym, ap, subst, ◌∙◌}
use mathlib.Core.Bool.{Bool, true, false, cond, ◌&&◌}
use mathlib.Core.List.{List, [], ◌∷◌}
use mathlib.Core.Logic.{◌↔◌}
use mathlib.Core.Option.{Option, none, some, Option-elim}
use Prim.Native.Nat.{ℕ, ◌/◌, ◌<◌}
use native.Mathlib.Omega.{arith}
use borrow.Author.Tests.{eq-eqb, leb-true}
use lib.Dec.{eqb, leb}
use lib.ListN.{length, get_or}
use Rattle.clock.specs.declared.Clock.{Clock}
use Rattle.clock.specs.Clock.{clock_limit, fresh_clock, InRange, is_in_range}
use Rattle.clock.proofs.Bringing.{both-in}
use Rattle.model.specs.Resolved.{Model}
use Rattle.model.specs.Held.{held}
use Rattle.rules.specs.Listing.{Entry}
use Rattle.machine.specs.State.{State, state_length, state_numbers, GoodState}
use Rattle.machine.specs.Timed.{Timed, timed}
use Rattle.machine.specs.Saves.{no_saves}
use Rattle.machine.specs.Machine as machine
use Rattle.machine.specs.Machine.{model_length, listing_length, Shown, filled, Answer, listed_as, Listed, entries_are, refused_with, Turn, turn, drawn, choosing, steps_with, steps_in, times_with, runs_with, ran_as, ran, runs_over, event_width, Held, held_all, Machine, closed, holding, on_clock, timed', run', on', acts, Part, model, state, saves, clock, search, size, two_parts, timed_parts, is_lent, all_parts, has_lengths, on_machine}
use Rattle.machine.specs.Questions.{Lists, Times, no15-19, no23, no24, no25, yes25}
use Rattle.machine.proofs.Listing.{asked, accepted}
use Rattle.machine.proofs.Timing as timing
use Rattle.state.specs.Fits.{scopes_of}
use Rattle.state.specs.Test.{is_state}
use Rattle.state.specs.Decode.{decode}
use Rattle.buffers.specs.Held.{model_bytes, held_in}
use Rattle.buffers.specs.Listing.{shown, listing_numbers}
use Rattle.buffers.specs.Parts.{Engine, clock_numbers, clock_in, numbers_of, is_part, read_held, with_timed}
use Rattle.buffers.specs.Effect.{Effect, machine_over, machine_in, untouched, left_in, leaves, requested, answered, effect}
use Rattle.buffers.specs.Answers as answers
use Rattle.buffers.specs.Answers.{TimesAs, runs_as}
use Rattle.buffers.proofs.Lent.{same-engine}
use Rattle.buffers.proofs.Machines as machines
use Rattle.buffers.proofs.Machines.{machine-over, eleven-exactly}

-- ---- 11

-- what is held of the three
abbrev pub held_at : Model → State → Clock → Held
held_at m s c = held_all m s no_saves c

-- 11 of the clock, where the two others hold a machine
unfoldable pub clocked : Machine → List ℕ → Machine
clocked closed l = closed
clocked (holding h) l = cond (is_in_range (clock_in l)) (holding (held_all h.model h.state h.saves (clock_in l))) closed

pub timed-over : (x : Engine) (o : Option Model) → machine_over timed_parts x o ≡ clocked (machine_over two_parts x o) (x clock)
unfolding machine_over all_parts is_part read_held is_lent clocked
timed-over x none = refl
timed-over x (some m) = by (is_state (scopes_of m) m.channels (x state)) (is_in_range (clock_in (x clock))) refl
  where
    by : (a b : Bool) → is_in_range (clock_in (x clock)) ≡ b
        → cond (a && (b && true)) (holding (held_at m (decode (scopes_of m) (x state)) (clock_in (x clock)))) closed
        ≡ clocked (cond (a && true) (holding (held_at m (decode (scopes_of m) (x state)) fresh_clock)) closed) (x clock)
    by true true e = rw e refl
    by true false e = rw e refl
    by false b e = refl

pub timed-in : (x : Engine) → machine_in timed_parts x ≡ clocked (machine_in two_parts x) (x clock)
unfolding machine_in
timed-in x = timed-over x (held_in (x model))

-- a clock that is in its range, and its numbers
pub in-range : (c : Clock) → is_in_range c ≡ true → InRange c
unfolding is_in_range
in-range c e = by (leb c.ticks clock_limit) refl e
  where
    by : (a : Bool) → leb c.ticks clock_limit ≡ a → (a && leb c.draws clock_limit) ≡ true → InRange c
    by true p e = record { ticks = leb-true _ _ p; draws = leb-true _ _ e }
    by false p e = absurd (let z : ◌≡◌ {A = ℕ} 0 1 = cc in omega arith)

pub two-numbers : (l : List ℕ) → length l ≡ 2 → l ≡ clock_numbers (clock_in l)
two-numbers [] e = absurd (omega arith)
two-numbers (t ∷ []) e = absurd (omega arith)
two-numbers (t ∷ d ∷ []) e = refl
two-numbers (t ∷ d ∷ x ∷ l) e = absurd (omega arith)

-- all three, or nothing
pub data InTimed : Machine → Type 0 where
  nothing : InTimed closed
  all : (m : Model) (s : State) (c : Clock) → InTimed (holding (held_at m s c))

pub in-timed : (x : Engine) → InTimed (machine_in timed_parts x)
in-timed x = rw (timed-in x) (by (machines.in_two x))
  where
    test : (m : Model) (s : State) (b : Bool) → InTimed (cond b (holding (held_at m s (clock_in (x clock)))) closed)
    test m s true = all m s (clock_in (x clock))
    test m s false = nothing

    by : {y : Machine} → machines.InTwo y → InTimed (clocked y (x clock))
    by machines.nothing = unfold clocked in nothing
    by (machines.both m s) = unfold clocked in test m s (is_in_range (clock_in (x clock)))

-- what is held of three is held of two, and the clock is the one that was lent
pub record OfTimed (x : Engine) (m : Model) (s : State) (c : Clock) : Type 0 where
  pub two : machine_in two_parts x ≡ holding (machine.held m s)
  pub range : InRange c
  pub numbers : x clock ≡ clock_numbers c

pub of-timed : (x : Engine) (m : Model) (s : State) (c : Clock) → length (x clock) ≡ size clock → machine_in timed_parts x ≡ holding (held_at m s c) → OfTimed x m s c
of-timed x m s c long e = by (machine_in two_parts x) refl (sym (timed-in x) ∙ e) (machines.in_two x)
  where
    test : (n : Model) (r : State) → machine_in two_parts x ≡ holding (machine.held n r) → (b : Bool) → is_in_range (clock_in (x clock)) ≡ b
        → cond b (holding (held_at n r (clock_in (x clock)))) closed ≡ holding (held_at m s c) → OfTimed x m s c
    test n r p false q e = absurd (let z : ◌≡◌ {A = ℕ} 0 1 = cc in omega arith)
    test n r p true q e =
        let k : held_at n r (clock_in (x clock)) ≡ held_at m s c = cc in
        let a : n ≡ m = ap (λ (h : Held). h.model) k in
        let b : r ≡ s = ap (λ (h : Held). h.state) k in
        let d : clock_in (x clock) ≡ c = ap (λ (h : Held). h.clock) k in
        record { two = rw (← a, ← b) p; range = rw (← d) (in-range (clock_in (x clock)) q); numbers = rw (← d) (two-numbers (x clock) long) }

    by : (y : Machine) → machine_in two_parts x ≡ y → clocked y (x clock) ≡ holding (held_at m s c) → machines.InTwo y → OfTimed x m s c
    by y p e machines.nothing = absurd (unfold clocked in let z : ◌≡◌ {A = ℕ} 0 1 = cc in omega arith)
    by y p e (machines.both n r) = unfold clocked in test n r p (is_in_range (clock_in (x clock))) refl e

pub timed-held : (x : Engine) (m : Model) (s : State) (c : Clock) → OfTimed x m s c → machine_in timed_parts x ≡ holding (held_at m s c)
unfolding clocked
timed-held x m s c h = timed-in x ∙ ap (λ (y : Machine). clocked y (x clock)) h.two ∙ rw (h.numbers, sym (both-in c h.range.ticks h.range.draws)) refl

-- 01, Listing, 11, and 02, note 4, exactly: as of the two, and the clock is in its range
pub eleven-timed : (x : Engine) (m : Model) (s : State) (c : Clock) → length (x model) ≡ model_length → get_or (x model) 0 0 < 256 → length (x state) ≡ state_length → length (x clock) ≡ size clock
    → (machine_in timed_parts x ≡ holding (held_at m s c))
    ↔ (((text : List ℕ) × (x model ≡ model_bytes text) × (held text ≡ some m) × GoodState m s × (x state ≡ state_numbers s)) × InRange c × (x clock ≡ clock_numbers c))
eleven-timed x m s c long byte numbers two = (there, back)
  where
    there : machine_in timed_parts x ≡ holding (held_at m s c)
        → (((text : List ℕ) × (x model ≡ model_bytes text) × (held text ≡ some m) × GoodState m s × (x state ≡ state_numbers s)) × InRange c × (x clock ≡ clock_numbers c))
    there e = let o = of-timed x m s c two e in ((eleven-exactly x m s long byte numbers).0 o.two, o.range, o.numbers)

    back : (((text : List ℕ) × (x model ≡ model_bytes text) × (held text ≡ some m) × GoodState m s × (x state ≡ state_numbers s)) × InRange c × (x clock ≡ clock_numbers c))
        → machine_in timed_parts x ≡ holding (held_at m s c)
    back h = timed-held x m s c (record { two = (eleven-exactly x m s long byte numbers).1 h.0; range = h.1; numbers = h.2 })

-- ---- a timed step over any buffers

-- the listing that a timed step leaves
timed-fills : {m : Model} {s : State} {c : Clock} {es : List Entry} {ds : List ℕ} {d : ℕ} {t : Turn Timed} → Times m s c es ds d t → t.answer.listing ≡ filled es
unfolding listed_as
timed-fills (no15-19 n l a) = refl
timed-fills (no23 i a w) = refl
timed-fills (no24 i a w) = refl
timed-fills (no25 i a w p) = refl
timed-fills (yes25 i a w p o) = refl

module _ (x : Engine) (l : List ℕ) (long : length (x model) ≡ model_length) (numbers : length (x state) ≡ state_length) (two : length (x clock) ≡ size clock)
    (m : Model) (s : State) (c : Clock) (holds : machine_in timed_parts x ≡ holding (held_at m s c)) where
  lent-all : {k : ℕ} → length l ≡ k → (all_parts (λ (p : Part). eqb (length (x p)) (size p)) timed_parts && eqb (length l) k) ≡ true
  unfolding all_parts
  lent-all room = rw (eq-eqb _ _ long, eq-eqb _ _ numbers, eq-eqb _ _ two, eq-eqb _ _ room)

  -- what is left by a turn to the state r and the clock k
  moved : (r : State) (k : Clock) → left_in timed_parts x (holding (held_at m r k)) ≡ with_timed x (state_numbers r) k
  unfolding left_in is_lent numbers_of with_timed
  moved r k = same-engine at
    where
      at : (p : Part) → left_in timed_parts x (holding (held_at m r k)) p ≡ with_timed x (state_numbers r) k p
      at model = refl
      at state = refl
      at saves = refl
      at clock = refl
      at search = refl

  still : with_timed x (state_numbers s) c ≡ x
  unfolding with_timed
  still = same-engine at
    where
      o : OfTimed x m s c
      o = of-timed x m s c two holds

      at : (p : Part) → with_timed x (state_numbers s) c p ≡ x p
      at model = refl
      at state = (machine-over x m s numbers o.two).numbers
      at saves = refl
      at clock = sym o.numbers
      at search = refl

  leaving : Turn Timed → Effect
  leaving t = leaves timed_parts x l (turn (holding (held_at m t.machine.state t.machine.clock)) t.answer)

  gives : (t : Turn Timed) → leaving t ≡ record { answer = t.answer; left = with_timed x (state_numbers t.machine.state) t.machine.clock; output = shown t.answer.listing l }
  unfolding leaving leaves
  gives t = ap (λ (z : Engine). record { answer = t.answer; left = z; output = shown t.answer.listing l }) (moved t.machine.state t.machine.clock)

  filled-so : (k : Shown) (es : List Entry) → k ≡ filled es → shown k l ≡ listing_numbers es
  unfolding shown
  filled-so k es e = ap (λ (k : Shown). shown k l) e

  -- 02, note 4
  pub times-as : length l ≡ listing_length → (ds : List ℕ) (d : ℕ) → TimesAs m s x l c ds d (effect (on' (timed' ds d)) x l)
  unfolding effect has_lengths Option-elim answered requested machine_in on_machine acts on_clock times_with steps_with leaving
  times-as room ds d =
      subst (TimesAs m s x l c ds d)
      (sym (ap (λ (b : Bool). cond b (answered (on' (timed' ds d)) x l) (untouched x l)) (lent-all room) ∙ ap (λ (y : Machine). leaves timed_parts x l (on_machine (timed' ds d) y)) holds))
      (by (machine.listing m s) refl)
    where
      taken : (es : List Entry) → machine.listing m s ≡ entries_are es → TimesAs m s x l c ds d (leaving (steps_in c ds s (drawn m s es d)))
      taken es q =
          let h = subst (Lists m s) q ((asked m s (machine.listing m s)).0 refl) in
          let t = steps_in c ds s (drawn m s es d) in
          let w = (timing.asked m s c es ((accepted m s es).0 q).1 ds d t).0 refl in
          subst (TimesAs m s x l c ds d) (sym (gives t))
          (subst
          (λ (k : List ℕ). TimesAs m s x l c ds d (record { answer = t.answer; left = with_timed x (state_numbers t.machine.state) t.machine.clock; output = k }))
          (sym (filled-so t.answer.listing es (timed-fills w)))
          (answers.TimesAs.waited h w))

      refused : (a : Answer) → Lists m s (refused_with a) → TimesAs m s x l c ds d (leaving (steps_in c ds s (turn s a)))
      refused a h =
          subst (TimesAs m s x l c ds d)
          (sym (ap leaving (timing.refused-stays ds h) ∙ gives (turn (timed s c) a) ∙ ap (λ (z : Engine). record { answer = a; left = z; output = shown a.listing l }) still))
          (answers.TimesAs.no14 h)

      by : (k : Listed) → machine.listing m s ≡ k → TimesAs m s x l c ds d (leaving (steps_in c ds s (choosing m s d k)))
      by (entries_are es) q = unfold choosing in taken es q
      by (refused_with a) q = unfold choosing in refused a (subst (Lists m s) q ((asked m s (machine.listing m s)).0 refl))

  -- R.4 to R.7
  pub runs_as_lem : (ws vs : List ℕ) (n : ℕ) → effect (on' (run' ws vs n (length l))) x l ≡ runs_as x l (runs_with n (length l / event_width) ws vs m s c)
  unfolding effect has_lengths Option-elim answered requested machine_in on_machine acts on_clock runs_over ran_as runs_as shown leaving
  runs_as_lem ws vs n =
      ap (λ (b : Bool). cond b (answered (on' (run' ws vs n (length l))) x l) (untouched x l)) (lent-all refl) ∙ ap (λ (y : Machine). leaves timed_parts x l (on_machine (run' ws vs n (length l)) y)) holds
      ∙ gives (ran (runs_with n (length l / event_width) ws vs m s c))
