-- What a row's call leaves of the buffers, from what the engine's call gives: by the kind of the row.
use mathlib.Core.Path.{◌≡◌, refl, sym, ap, ap₂, ◌∙◌}
use mathlib.Core.Bool.{Bool, true, false, cond, ◌&&◌}
use mathlib.Core.List.{List, [], ◌∷◌, ◌++◌, append-nil}
use mathlib.Core.Option.{Option, none, some, Option-elim}
use Prim.Native.Nat.{ℕ, ◌+◌, ◌-◌, ◌≤◌}
use native.Mathlib.Omega.{arith}
use lib.Dec.{eqb}
use lib.IntN.{ℤ}
use lib.ListN.{length, get_or, take, drop, replicate, length-append, length-drop}
use lib.Seq.{take_all, length-take-le}
use Rattle.std.proofs.lemmas.List.{get_or-take}
use Rattle.model.specs.Resolved
use Rattle.model.specs.Opening.{Opening, refused, opened, opening}
use Rattle.profile.specs.Opening.{opening_steady}
use Rattle.clock.specs.declared.Clock.{Clock}
use Rattle.machine.specs.Timed.{Timed}
use Rattle.machine.specs.Saves.{Saves, Stored, saving, returning, forgetting}
use Rattle.machine.specs.Machine.{Shown, Answer, no, Turn, Held, Machine, closed, holding, on_state, on_saves, Request, list', step', report', search', timed', run', save', return', forget', begin', carry', begins, carries_by, on_search, Search as Underway, Ask, open', open_steady', on', acts, Part, model, state, saves, clock, search, size, two_parts, timed_parts, three_parts, four_parts, search_parts, uses, output_of, is_lent, all_parts, has_lengths, on_machine}
use Rattle.buffers.specs.Held.{held_in}
use Rattle.buffers.specs.Listing.{shown}
use Rattle.buffers.specs.Parts.{Engine, is_part, read_held, lent_two, lent_three, lent_timed, lent_all, lent_search, lent_whole}
use Rattle.buffers.specs.Effect.{Effect, machine_over, untouched, opens_with, left_in, leaves, requested, answered, effect}
use Rattle.buffers.proofs.Lent.{same-engine}
use Rattle.buffers.proofs.Answers.{search-shows}
use Rattle.buffers.proofs.Pieces.{Walked, begins-walked, carries-walked}
use Rattle.buffers.proofs.Runs.{is_search, without-run, Alone, run_alone}
use Rattle.machine.specs.State.{State}
use Rattle.engine.specs.declared.Answer as engine
use Rattle.engine.specs.declared.Ran.{Ran as Told}
use Rattle.engine.specs.Ran.{GivesRan}
use Rattle.engine.specs.Gives.{Gives, bare}
use Rattle.searching.specs.declared.Found.{Found}
use Rattle.searching.specs.Run.{entries_of, GivesRun}
use Rattle.resuming.specs.declared.Progress.{Progress}
use Rattle.carrying.specs.Turns.{GivesProgress}
use Rattle.script.specs.declared.Kind.{Kind}
use Rattle.script.specs.declared.Kind.TheVariants.{Open, List as Lists, Step, Report, Save, Return, Forget, Timed as Times, Steady, Search, Run, Begin, Carry}
use Rattle.script.specs.declared.Row.{Row}
use Rattle.script.specs.Rows.{row_width, kind_number, row_of, row_lengths, fits, row_text, row_draws, row_words, row_ask, row_call}
use Rattle.script.specs.Run.{effect_of, used_of, answer_numbers, result_numbers, found_numbers, ran_numbers, progress_numbers, Called, Makes}
use Rattle.script.proofs.Called.{row-asks, walked-shows}
use Rattle.script.proofs.Used.{is_used, without-used, run-bare, Progressed, carry-progressed}
use Rattle.script.proofs.Used as used

-- ---- what a row that fits asks for

pub record There (r : Row) (t n w m s v k q o : ℕ) : Type 0 where
  pub text : r.text + r.size ≤ t
  pub list : r.from + r.count ≤ n
  pub supply : r.start + r.words ≤ w
  pub model : r.model ≤ m
  pub state : r.state ≤ s
  pub saves : r.saves ≤ v
  pub clock : 2 ≤ k  -- 02, note 4
  pub search : r.search ≤ q
  pub output : r.output ≤ o
  pub most : r.kind ≤ 13
  pub least : 1 ≤ r.kind

pub there : (r : Row) (t n w : ℕ) (parts : Part → ℕ) (o : ℕ) → fits r t n w parts o ≡ true → There r t n w (parts model) (parts state) (parts saves) (parts clock) (parts search) o
unfolding row_lengths
there r t n w parts o f =
    let a = row-asks r t n w parts o f in
    record { text = a.text; list = a.list; supply = a.supply; model = a.part model; state = a.part state; saves = a.part saves; clock = a.part clock; search = a.part search; output = a.output; most = a.most; least = a.least }

-- ---- calls that are lent no output

pub record Bare (e d : Effect) (l : List ℕ) : Type 0 where
  pub answer : e.answer ≡ d.answer
  pub left : e.left ≡ d.left
  pub output : e.output ≡ l

bare-refl : {a : Answer} {x : Engine} {l k : List ℕ} → Bare (record { answer = a; left = x; output = l }) (record { answer = a; left = x; output = k }) l
bare-refl = record { answer = refl; left = refl; output = refl }

opens-bare : (text : List ℕ) (o : Opening) (l : List ℕ) → Bare (opens_with text o l) (opens_with text o []) l
unfolding opens_with
opens-bare text (refused n p) l = bare-refl
opens-bare text (opened m) l = bare-refl

open-bare : (text : List ℕ) (x : Engine) (l : List ℕ) → Bare (effect (open' text) x l) (effect (open' text) x []) l
unfolding effect answered untouched has_lengths Option-elim
open-bare text x l = by (has_lengths (open' text) (λ (p : Part). length (x p)) 0)
  where
    by : (b : Bool) → Bare (cond b (opens_with text (opening text) l) (untouched x l)) (cond b (opens_with text (opening text) []) (untouched x [])) l
    by true = opens-bare text (opening text) l
    by false = bare-refl

-- 02, note 11
steady-bare : (text : List ℕ) (x : Engine) (l : List ℕ) → Bare (effect (open_steady' text) x l) (effect (open_steady' text) x []) l
unfolding effect answered untouched has_lengths Option-elim
steady-bare text x l = by (has_lengths (open_steady' text) (λ (p : Part). length (x p)) 0)
  where
    by : (b : Bool) → Bare (cond b (opens_with text (opening_steady text) l) (untouched x l)) (cond b (opens_with text (opening_steady text) []) (untouched x [])) l
    by true = opens-bare text (opening_steady text) l
    by false = bare-refl

-- 02, note 2: a request that turns state and saves shows nothing
stored-bare : (r : Request) (f : Timed → Saves → Stored) → ((h : Held) → acts r h ≡ on_saves f h) → (y : Machine) (x : Engine) (l : List ℕ) → Bare (leaves (uses r) x l (on_machine r y)) (leaves (uses r) x [] (on_machine r y)) l
unfolding leaves on_machine on_saves shown no
stored-bare r f q closed x l = bare-refl
stored-bare r f q (holding h) x l = record { answer = refl; left = refl; output = ap (λ (t : Turn Held). shown t.answer.listing l) (q h) }

-- a request that is lent no output
request-bare : (r : Request) → ((y : Machine) (x : Engine) (l : List ℕ) → Bare (leaves (uses r) x l (on_machine r y)) (leaves (uses r) x [] (on_machine r y)) l) → output_of (on' r) ≡ none → (x : Engine) (l : List ℕ) → Bare (effect (on' r) x l) (effect (on' r) x []) l
unfolding effect answered requested untouched has_lengths Option-elim
request-bare r w o x l = rw o (by (all_parts (λ (p : Part). eqb (length (x p)) (size p)) (uses r) && true))
  where
    by : (b : Bool)
        → Bare (cond b (leaves (uses r) x l (on_machine r (machine_over (uses r) x (held_in (x model))))) (untouched x l))
        (cond b (leaves (uses r) x [] (on_machine r (machine_over (uses r) x (held_in (x model))))) (untouched x [])) l
    by true = w (machine_over (uses r) x (held_in (x model))) x l
    by false = unfold untouched in bare-refl

named-bare : (r : Request) (f : Timed → Saves → Stored) → ((h : Held) → acts r h ≡ on_saves f h) → output_of (on' r) ≡ none → (x : Engine) (l : List ℕ) → Bare (effect (on' r) x l) (effect (on' r) x []) l
named-bare r f q o x l = request-bare r (stored-bare r f q) o x l

-- 02, note 10: a search that is begun or carried on shows nothing
module _ (r : Request) (f : Resolved.Model → State → Option Underway → Turn (Option Underway)) (q : (h : Held) → acts r h ≡ on_search f h) (w : (m : Resolved.Model) (s : State) (o : Option Underway) → Walked o (f m s o)) where
  walked-bare : (y : Machine) (x : Engine) (l : List ℕ) → Bare (leaves (uses r) x l (on_machine r y)) (leaves (uses r) x [] (on_machine r y)) l
  unfolding leaves on_machine on_search shown no
  walked-bare closed x l = bare-refl
  walked-bare (holding h) x l = record { answer = refl; left = refl; output = ap (λ (t : Turn Held). shown t.answer.listing l) (q h) ∙ ap (λ (k : Shown). shown k l) (walked-shows (w h.model h.state h.search)) }

begin-bare : (n : List ℕ) (d : ℕ) (x : Engine) (l : List ℕ) → Bare (effect (on' (begin' n d)) x l) (effect (on' (begin' n d)) x []) l
unfolding acts
begin-bare n d x l = request-bare (begin' n d) (walked-bare (begin' n d) (begins n d) (λ h. refl) (λ m s o. begins-walked n d m s o)) refl x l

carry-bare : (n : ℕ) (x : Engine) (l : List ℕ) → Bare (effect (on' (carry' n)) x l) (effect (on' (carry' n)) x []) l
unfolding acts
carry-bare n x l = request-bare (carry' n) (walked-bare (carry' n) (λ m s. carries_by n m) (λ h. refl) (λ m s o. carries-walked n m o)) refl x l

-- 02, note 8: a search shows nothing
searched-bare : (n : List ℕ) (d : ℕ) (y : Machine) (x : Engine) (l : List ℕ) → Bare (leaves two_parts x l (on_machine (search' n d) y)) (leaves two_parts x [] (on_machine (search' n d) y)) l
unfolding leaves on_machine acts on_state shown no
searched-bare n d closed x l = bare-refl
searched-bare n d (holding h) x l = record { answer = refl; left = refl; output = ap (λ (k : Shown). shown k l) (search-shows h.model n h.state d) }

search-bare : (n : List ℕ) (d : ℕ) (x : Engine) (l : List ℕ) → Bare (effect (on' (search' n d)) x l) (effect (on' (search' n d)) x []) l
unfolding effect answered requested has_lengths Option-elim
search-bare n d x l = by (all_parts (λ (p : Part). eqb (length (x p)) (size p)) two_parts && true)
  where
    by : (b : Bool)
        → Bare (cond b (leaves two_parts x l (on_machine (search' n d) (machine_over two_parts x (held_in (x model))))) (untouched x l))
        (cond b (leaves two_parts x [] (on_machine (search' n d) (machine_over two_parts x (held_in (x model))))) (untouched x [])) l
    by true = searched-bare n d (machine_over two_parts x (held_in (x model))) x l
    by false = unfold untouched in bare-refl

-- eight numbers, one by one
eight : (l : List ℕ) → length l ≡ 8 → get_or l 0 0 ∷ get_or l 1 0 ∷ get_or l 2 0 ∷ get_or l 3 0 ∷ get_or l 4 0 ∷ get_or l 5 0 ∷ get_or l 6 0 ∷ get_or l 7 0 ∷ [] ≡ l
eight (a ∷ b ∷ c ∷ d ∷ e ∷ f ∷ g ∷ h ∷ []) q = refl
eight [] q = absurd (omega arith)
eight (a ∷ []) q = absurd (omega arith)
eight (a ∷ b ∷ []) q = absurd (omega arith)
eight (a ∷ b ∷ c ∷ []) q = absurd (omega arith)
eight (a ∷ b ∷ c ∷ d ∷ []) q = absurd (omega arith)
eight (a ∷ b ∷ c ∷ d ∷ e ∷ []) q = absurd (omega arith)
eight (a ∷ b ∷ c ∷ d ∷ e ∷ f ∷ []) q = absurd (omega arith)
eight (a ∷ b ∷ c ∷ d ∷ e ∷ f ∷ g ∷ []) q = absurd (omega arith)
eight (a ∷ b ∷ c ∷ d ∷ e ∷ f ∷ g ∷ h ∷ i ∷ l) q = absurd (omega arith)

pub eight-entries : (r : List ℕ) → length (entries_of r) ≡ 8
unfolding entries_of
eight-entries r = length-take-le 8 (r ++ replicate 8 0) (omega (arith, length-append r (replicate 8 0)))

-- R.5: with what a run used
pub eleven-entries : (r us : List ℕ) → length (entries_of r ++ used_of us) ≡ 11
unfolding used_of
eleven-entries r us = length-append (entries_of r) (used_of us) ∙ ap (λ (n : ℕ). n + 3) (eight-entries r)

-- ---- a request asks nothing of the parts that it is not lent

-- d is what e is where the parts besides ps are not there
record Alike (ps : List Part) (d e : Effect) (x : Engine) : Type 0 where
  answer : d.answer ≡ e.answer
  output : d.output ≡ e.output
  lent : (p : Part) → is_lent p ps ≡ true → d.left p ≡ e.left p
  others : (p : Part) → is_lent p ps ≡ false → x p ≡ e.left p

module _ (ps : List Part) (x z : Engine) (same-model : z model ≡ x model) (same-lent : (p : Part) → is_lent p ps ≡ true → z p ≡ x p) where
  alike-leaves : (l : List ℕ) (a : Answer) (y : Machine) → Alike ps (leaves ps z l (record { machine = y; answer = a })) (leaves ps x l (record { machine = y; answer = a })) x
  unfolding leaves left_in
  alike-leaves l a closed = record { answer = refl; output = refl; lent = same-lent; others = λ p e. refl }
  alike-leaves l a (holding h) = record {
    answer = refl;
    output = refl;
    lent = λ p e. rw (e, same-model) refl;
    others = λ p e. rw e refl;
  }

  alike-effect : (r : Request) → uses r ≡ ps → ((o : Option Resolved.Model) → machine_over ps z o ≡ machine_over ps x o)
      → all_parts (λ (p : Part). eqb (length (z p)) (size p)) ps ≡ all_parts (λ (p : Part). eqb (length (x p)) (size p)) ps → (l : List ℕ) → Alike ps (effect (on' r) z l) (effect (on' r) x l) x
  unfolding effect answered requested has_lengths
  alike-effect r u m k l = rw (u, k, same-model, m (held_in (x model))) (by (all_parts (λ (p : Part). eqb (length (x p)) (size p)) ps && Option-elim (output_of (on' r)) true (eqb (length l))))
    where
      by : (b : Bool)
          → Alike ps (cond b (leaves ps z l (on_machine r (machine_over ps x (held_in (x model))))) (untouched z l)) (cond b (leaves ps x l (on_machine r (machine_over ps x (held_in (x model))))) (untouched x l)) x
      by true = alike-leaves l (on_machine r (machine_over ps x (held_in (x model)))).answer (on_machine r (machine_over ps x (held_in (x model)))).machine
      by false = unfold untouched in record { answer = refl; output = refl; lent = same-lent; others = λ p e. refl }

-- model and state
module _ (bs : List ℕ) (zs ss : List ℤ) (c : Clock) (xs : List ℤ) where
  two-machine : (o : Option Resolved.Model) → machine_over two_parts (lent_two bs zs) o ≡ machine_over two_parts (lent_whole bs zs ss c xs) o
  unfolding machine_over all_parts is_part read_held is_lent lent_two lent_whole
  two-machine none = refl
  two-machine (some m) = refl

  two-effect : (r : Request) → uses r ≡ two_parts → (l : List ℕ) → Alike two_parts (effect (on' r) (lent_two bs zs) l) (effect (on' r) (lent_whole bs zs ss c xs) l) (lent_whole bs zs ss c xs)
  two-effect r u l = alike-effect two_parts (lent_whole bs zs ss c xs) (lent_two bs zs) (unfold lent_two lent_whole in refl) at r u two-machine (unfold all_parts lent_two lent_whole in refl) l
    where
      at : (p : Part) → is_lent p two_parts ≡ true → lent_two bs zs p ≡ lent_whole bs zs ss c xs p
      at model e = unfold lent_two lent_whole is_lent in refl
      at state e = unfold lent_two lent_whole is_lent in refl
      at saves e = unfold lent_two lent_whole is_lent in absurd (let z : ◌≡◌ {A = ℕ} 0 1 = cc in omega arith)
      at clock e = unfold lent_two lent_whole is_lent in absurd (let z : ◌≡◌ {A = ℕ} 0 1 = cc in omega arith)
      at search e = unfold lent_two lent_whole is_lent in absurd (let z : ◌≡◌ {A = ℕ} 0 1 = cc in omega arith)

  -- 02, note 4: model, state and clock
  timed-machine : (o : Option Resolved.Model) → machine_over timed_parts (lent_timed bs zs c) o ≡ machine_over timed_parts (lent_whole bs zs ss c xs) o
  unfolding machine_over all_parts is_part read_held is_lent lent_timed lent_whole
  timed-machine none = refl
  timed-machine (some m) = refl

  timed-effect : (r : Request) → uses r ≡ timed_parts → (l : List ℕ) → Alike timed_parts (effect (on' r) (lent_timed bs zs c) l) (effect (on' r) (lent_whole bs zs ss c xs) l) (lent_whole bs zs ss c xs)
  timed-effect r u l = alike-effect timed_parts (lent_whole bs zs ss c xs) (lent_timed bs zs c) (unfold lent_timed lent_whole in refl) at r u timed-machine (unfold all_parts lent_timed lent_whole in refl) l
    where
      at : (p : Part) → is_lent p timed_parts ≡ true → lent_timed bs zs c p ≡ lent_whole bs zs ss c xs p
      at model e = unfold lent_timed lent_whole is_lent in refl
      at state e = unfold lent_timed lent_whole is_lent in refl
      at saves e = unfold lent_timed lent_whole is_lent in absurd (let z : ◌≡◌ {A = ℕ} 0 1 = cc in omega arith)
      at clock e = unfold lent_timed lent_whole is_lent in refl
      at search e = unfold lent_timed lent_whole is_lent in absurd (let z : ◌≡◌ {A = ℕ} 0 1 = cc in omega arith)

  -- 02, note 2: model, state and saves
  three-machine : (o : Option Resolved.Model) → machine_over three_parts (lent_three bs zs ss) o ≡ machine_over three_parts (lent_whole bs zs ss c xs) o
  unfolding machine_over all_parts is_part read_held is_lent lent_three lent_whole
  three-machine none = refl
  three-machine (some m) = refl

  three-effect : (r : Request) → uses r ≡ three_parts → (l : List ℕ) → Alike three_parts (effect (on' r) (lent_three bs zs ss) l) (effect (on' r) (lent_whole bs zs ss c xs) l) (lent_whole bs zs ss c xs)
  three-effect r u l = alike-effect three_parts (lent_whole bs zs ss c xs) (lent_three bs zs ss) (unfold lent_three lent_whole in refl) at r u three-machine (unfold all_parts lent_three lent_whole in refl) l
    where
      at : (p : Part) → is_lent p three_parts ≡ true → lent_three bs zs ss p ≡ lent_whole bs zs ss c xs p
      at model e = unfold lent_three lent_whole is_lent in refl
      at state e = unfold lent_three lent_whole is_lent in refl
      at saves e = unfold lent_three lent_whole is_lent in refl
      at clock e = unfold lent_three lent_whole is_lent in absurd (let z : ◌≡◌ {A = ℕ} 0 1 = cc in omega arith)
      at search e = unfold lent_three lent_whole is_lent in absurd (let z : ◌≡◌ {A = ℕ} 0 1 = cc in omega arith)

  -- 02, notes 2 and 4: model, state, saves and clock
  four-machine : (o : Option Resolved.Model) → machine_over four_parts (lent_all bs zs ss c) o ≡ machine_over four_parts (lent_whole bs zs ss c xs) o
  unfolding machine_over all_parts is_part read_held is_lent lent_all lent_whole
  four-machine none = refl
  four-machine (some m) = refl

  four-effect : (r : Request) → uses r ≡ four_parts → (l : List ℕ) → Alike four_parts (effect (on' r) (lent_all bs zs ss c) l) (effect (on' r) (lent_whole bs zs ss c xs) l) (lent_whole bs zs ss c xs)
  four-effect r u l = alike-effect four_parts (lent_whole bs zs ss c xs) (lent_all bs zs ss c) (unfold lent_all lent_whole in refl) at r u four-machine (unfold all_parts lent_all lent_whole in refl) l
    where
      at : (p : Part) → is_lent p four_parts ≡ true → lent_all bs zs ss c p ≡ lent_whole bs zs ss c xs p
      at model e = unfold lent_all lent_whole is_lent in refl
      at state e = unfold lent_all lent_whole is_lent in refl
      at saves e = unfold lent_all lent_whole is_lent in refl
      at clock e = unfold lent_all lent_whole is_lent in refl
      at search e = unfold lent_all lent_whole is_lent in absurd (let z : ◌≡◌ {A = ℕ} 0 1 = cc in omega arith)

  -- 02, note 10: model, state and search
  under-machine : (o : Option Resolved.Model) → machine_over search_parts (lent_search bs zs xs) o ≡ machine_over search_parts (lent_whole bs zs ss c xs) o
  unfolding machine_over all_parts is_part read_held is_lent lent_search lent_whole
  under-machine none = refl
  under-machine (some m) = refl

  under-effect : (r : Request) → uses r ≡ search_parts → (l : List ℕ) → Alike search_parts (effect (on' r) (lent_search bs zs xs) l) (effect (on' r) (lent_whole bs zs ss c xs) l) (lent_whole bs zs ss c xs)
  under-effect r u l = alike-effect search_parts (lent_whole bs zs ss c xs) (lent_search bs zs xs) (unfold lent_search lent_whole in refl) at r u under-machine (unfold all_parts lent_search lent_whole in refl) l
    where
      at : (p : Part) → is_lent p search_parts ≡ true → lent_search bs zs xs p ≡ lent_whole bs zs ss c xs p
      at model e = unfold lent_search lent_whole is_lent in refl
      at state e = unfold lent_search lent_whole is_lent in refl
      at saves e = unfold lent_search lent_whole is_lent in absurd (let z : ◌≡◌ {A = ℕ} 0 1 = cc in omega arith)
      at clock e = unfold lent_search lent_whole is_lent in absurd (let z : ◌≡◌ {A = ℕ} 0 1 = cc in omega arith)
      at search e = unfold lent_search lent_whole is_lent in refl

-- the same result of an effect that is alike
alike-gives : {ps : List Part} {d e : Effect} {x : Engine} {r : engine.Answer} (z y : Engine) (l : List ℕ) → Alike ps d e x → Gives d r z l
    → ((p : Part) → is_lent p ps ≡ true → y p ≡ z p) → ((p : Part) → is_lent p ps ≡ false → y p ≡ x p) → Gives e r y l
alike-gives {ps} {d} {e} {x} {r} z y l a h f g = record {
  number = h.number ∙ ap (λ (b : Answer). b.number) a.answer;
  place = h.place ∙ ap (λ (b : Answer). b.place) a.answer;
  branch = h.branch ∙ ap (λ (b : Answer). b.branch) a.answer;
  count = h.count ∙ ap (λ (b : Answer). b.count) a.answer;
  total = h.total ∙ ap (λ (b : Answer). b.total) a.answer;
  chosen = h.chosen ∙ ap (λ (b : Answer). b.chosen) a.answer;
  buffers = λ p. by p (is_lent p ps) refl;
  output = h.output ∙ a.output;
}
  where
    by : (p : Part) (b : Bool) → is_lent p ps ≡ b → y p ≡ e.left p
    by p true i = f p i ∙ h.buffers p ∙ a.lent p i
    by p false i = g p i ∙ a.others p i

-- 02, note 10: and of one that is lent the search beside model and state, where that alone moves
under-gives : (bs : List ℕ) (zs ss : List ℤ) (c : Clock) (xs xs' : List ℤ) (q : Request) (u : uses q ≡ search_parts) (r : engine.Answer) → Gives (effect (on' q) (lent_search bs zs xs) []) r (lent_search bs zs xs') []
    → Gives (effect (on' q) (lent_whole bs zs ss c xs) []) r (lent_whole bs zs ss c xs') []
under-gives bs zs ss c xs xs' q u r g = alike-gives (lent_search bs zs xs') (lent_whole bs zs ss c xs') [] (under-effect bs zs ss c xs q u []) g at others
  where
    at : (p : Part) → is_lent p search_parts ≡ true → lent_whole bs zs ss c xs' p ≡ lent_search bs zs xs' p
    at model e = unfold lent_search lent_whole is_lent in refl
    at state e = unfold lent_search lent_whole is_lent in refl
    at saves e = unfold lent_search lent_whole is_lent in absurd (let z : ◌≡◌ {A = ℕ} 0 1 = cc in omega arith)
    at clock e = unfold lent_search lent_whole is_lent in absurd (let z : ◌≡◌ {A = ℕ} 0 1 = cc in omega arith)
    at search e = unfold lent_search lent_whole is_lent in refl

    others : (p : Part) → is_lent p search_parts ≡ false → lent_whole bs zs ss c xs' p ≡ lent_whole bs zs ss c xs p
    others model e = unfold lent_whole is_lent in absurd (let z : ◌≡◌ {A = ℕ} 0 1 = cc in omega arith)
    others state e = unfold lent_whole is_lent in absurd (let z : ◌≡◌ {A = ℕ} 0 1 = cc in omega arith)
    others saves e = unfold lent_whole is_lent in refl
    others clock e = unfold lent_whole is_lent in refl
    others search e = unfold lent_whole is_lent in absurd (let z : ◌≡◌ {A = ℕ} 0 1 = cc in omega arith)

-- ---- what a call makes of all that it is lent

module _ (bs : List ℕ) (zs ss : List ℤ) (c : Clock) (xs : List ℤ) (ls : List ℕ) (r : engine.Answer) where
  abbrev X : Engine
  X = lent_whole bs zs ss c xs

  -- a call that is no search answers without a run, and one that is no run uses nothing
  gives : (k : Ask) → (is_search k ≡ false) × (is_used k ≡ false) → (y : Engine) (l : List ℕ) → Gives (effect k X ls) r y l → Makes (effect k X ls) (result_numbers r) y l
  gives k f y l g = record { numbers = numbers-are; engine = g.buffers; output = g.output }
    where
      no-entries : 0 ∷ 0 ∷ 0 ∷ 0 ∷ 0 ∷ 0 ∷ 0 ∷ 0 ∷ 0 ∷ 0 ∷ 0 ∷ 0 ∷ [] ≡ length (effect k X ls).answer.run ∷ (entries_of (effect k X ls).answer.run ++ used_of (effect k X ls).answer.used)
      no-entries = unfold entries_of used_of in ap₂ (λ (r us : List ℕ). length r ∷ (entries_of r ++ used_of us)) (sym (without-run k X ls f.0)) (sym (without-used k X ls f.1))

      numbers-are : result_numbers r ≡ answer_numbers (effect k X ls).answer
      numbers-are = unfold result_numbers answer_numbers in λ i. g.number i ∷ g.place i ∷ g.branch i ∷ g.count i ∷ g.total i ∷ g.chosen i ∷ no-entries i

  -- a call that is lent no output leaves the outputs
  bare-gives : (k : Ask) → (is_search k ≡ false) × (is_used k ≡ false) → Bare (effect k X ls) (effect k X []) ls → (y : Engine) → Gives (effect k X []) r y [] → Makes (effect k X ls) (result_numbers r) y ls
  bare-gives k f w y h =
      gives k f y ls (record {
        number = h.number ∙ sym (ap (λ (a : Answer). a.number) w.answer);
        place = h.place ∙ sym (ap (λ (a : Answer). a.place) w.answer);
        branch = h.branch ∙ sym (ap (λ (a : Answer). a.branch) w.answer);
        count = h.count ∙ sym (ap (λ (a : Answer). a.count) w.answer);
        total = h.total ∙ sym (ap (λ (a : Answer). a.total) w.answer);
        chosen = h.chosen ∙ sym (ap (λ (a : Answer). a.chosen) w.answer);
        buffers = λ p. h.buffers p ∙ sym (ap (λ (z : Engine). z p) w.left);
        output = sym w.output;
      })

  pub opening-makes : (text : List ℕ) (y : Engine) → Gives (effect (open' text) X []) r y [] → Makes (effect (open' text) X ls) (result_numbers r) y ls
  opening-makes text y g = bare-gives (open' text) (unfold is_search is_used in (refl, refl)) (open-bare text X ls) y g

  -- 02, note 11
  pub steady-makes : (text : List ℕ) (y : Engine) → Gives (effect (open_steady' text) X []) r y [] → Makes (effect (open_steady' text) X ls) (result_numbers r) y ls
  steady-makes text y g = bare-gives (open_steady' text) (unfold is_search is_used in (refl, refl)) (steady-bare text X ls) y g

  -- a request that is lent model and state leaves the saves and the clock
  two-gives : (q : Request) → uses q ≡ two_parts → (is_search (on' q) ≡ false) × (is_used (on' q) ≡ false) → (bs' : List ℕ) (zs' : List ℤ) (l : List ℕ)
      → Gives (effect (on' q) (lent_two bs zs) ls) r (lent_two bs' zs') l → Makes (effect (on' q) X ls) (result_numbers r) (lent_whole bs' zs' ss c xs) l
  two-gives q u f bs' zs' l h = gives (on' q) f (lent_whole bs' zs' ss c xs) l (alike-gives (lent_two bs' zs') (lent_whole bs' zs' ss c xs) l (two-effect bs zs ss c xs q u ls) h at others)
    where
      at : (p : Part) → is_lent p two_parts ≡ true → lent_whole bs' zs' ss c xs p ≡ lent_two bs' zs' p
      at model e = unfold lent_two lent_whole is_lent in refl
      at state e = unfold lent_two lent_whole is_lent in refl
      at saves e = unfold lent_two lent_whole is_lent in absurd (let z : ◌≡◌ {A = ℕ} 0 1 = cc in omega arith)
      at clock e = unfold lent_two lent_whole is_lent in absurd (let z : ◌≡◌ {A = ℕ} 0 1 = cc in omega arith)
      at search e = unfold lent_two lent_whole is_lent in absurd (let z : ◌≡◌ {A = ℕ} 0 1 = cc in omega arith)

      others : (p : Part) → is_lent p two_parts ≡ false → lent_whole bs' zs' ss c xs p ≡ X p
      others model e = unfold lent_whole is_lent in absurd (let z : ◌≡◌ {A = ℕ} 0 1 = cc in omega arith)
      others state e = unfold lent_whole is_lent in absurd (let z : ◌≡◌ {A = ℕ} 0 1 = cc in omega arith)
      others saves e = unfold lent_whole is_lent in refl
      others clock e = unfold lent_whole is_lent in refl
      others search e = unfold lent_whole is_lent in refl

  pub listing-makes : (l : List ℕ) → Gives (effect (on' list') (lent_two bs zs) ls) r (lent_two bs zs) l → Makes (effect (on' list') X ls) (result_numbers r) X l
  listing-makes l g = two-gives list' refl (unfold is_search is_used in (refl, refl)) bs zs l g

  pub reporting-makes : (l : List ℕ) → Gives (effect (on' report') (lent_two bs zs) ls) r (lent_two bs zs) l → Makes (effect (on' report') X ls) (result_numbers r) X l
  reporting-makes l g = two-gives report' refl (unfold is_search is_used in (refl, refl)) bs zs l g

  pub stepping-makes : (d : ℕ) (zs' : List ℤ) (l : List ℕ) → Gives (effect (on' (step' d)) (lent_two bs zs) ls) r (lent_two bs zs') l
      → Makes (effect (on' (step' d)) X ls) (result_numbers r) (lent_whole bs zs' ss c xs) l
  stepping-makes d zs' l g = two-gives (step' d) refl (unfold is_search is_used in (refl, refl)) bs zs' l g

  -- 02, note 4: a timed step leaves the saves
  pub timing-makes : (ds : List ℕ) (d : ℕ) (zs' : List ℤ) (c' : Clock) (l : List ℕ) → Gives (effect (on' (timed' ds d)) (lent_timed bs zs c) ls) r (lent_timed bs zs' c') l
      → Makes (effect (on' (timed' ds d)) X ls) (result_numbers r) (lent_whole bs zs' ss c' xs) l
  timing-makes ds d zs' c' l g =
      let q = timed' ds d in
      gives (on' q) (unfold is_search is_used in (refl, refl)) (lent_whole bs zs' ss c' xs) l
      (alike-gives (lent_timed bs zs' c') (lent_whole bs zs' ss c' xs) l (timed-effect bs zs ss c xs q refl ls) g at others)
    where
      at : (p : Part) → is_lent p timed_parts ≡ true → lent_whole bs zs' ss c' xs p ≡ lent_timed bs zs' c' p
      at model e = unfold lent_timed lent_whole is_lent in refl
      at state e = unfold lent_timed lent_whole is_lent in refl
      at saves e = unfold lent_timed lent_whole is_lent in absurd (let z : ◌≡◌ {A = ℕ} 0 1 = cc in omega arith)
      at clock e = unfold lent_timed lent_whole is_lent in refl
      at search e = unfold lent_timed lent_whole is_lent in absurd (let z : ◌≡◌ {A = ℕ} 0 1 = cc in omega arith)

      others : (p : Part) → is_lent p timed_parts ≡ false → lent_whole bs zs' ss c' xs p ≡ X p
      others model e = unfold lent_whole is_lent in absurd (let z : ◌≡◌ {A = ℕ} 0 1 = cc in omega arith)
      others state e = unfold lent_whole is_lent in absurd (let z : ◌≡◌ {A = ℕ} 0 1 = cc in omega arith)
      others saves e = unfold lent_whole is_lent in refl
      others clock e = unfold lent_whole is_lent in absurd (let z : ◌≡◌ {A = ℕ} 0 1 = cc in omega arith)
      others search e = unfold lent_whole is_lent in refl

  -- 02, notes 2 and 4: a save and a return leave the search
  kept-gives : (q : Request) → uses q ≡ four_parts → (is_search (on' q) ≡ false) × (is_used (on' q) ≡ false) → Bare (effect (on' q) X ls) (effect (on' q) X []) ls → (zs' ss' : List ℤ) (c' : Clock)
      → Gives (effect (on' q) (lent_all bs zs ss c) []) r (lent_all bs zs' ss' c') [] → Makes (effect (on' q) X ls) (result_numbers r) (lent_whole bs zs' ss' c' xs) ls
  kept-gives q u f w zs' ss' c' g =
      bare-gives (on' q) f w (lent_whole bs zs' ss' c' xs)
      (alike-gives (lent_all bs zs' ss' c') (lent_whole bs zs' ss' c' xs) [] (four-effect bs zs ss c xs q u []) g at others)
    where
      at : (p : Part) → is_lent p four_parts ≡ true → lent_whole bs zs' ss' c' xs p ≡ lent_all bs zs' ss' c' p
      at model e = unfold lent_all lent_whole is_lent in refl
      at state e = unfold lent_all lent_whole is_lent in refl
      at saves e = unfold lent_all lent_whole is_lent in refl
      at clock e = unfold lent_all lent_whole is_lent in refl
      at search e = unfold lent_all lent_whole is_lent in absurd (let z : ◌≡◌ {A = ℕ} 0 1 = cc in omega arith)

      others : (p : Part) → is_lent p four_parts ≡ false → lent_whole bs zs' ss' c' xs p ≡ X p
      others model e = unfold lent_whole is_lent in absurd (let z : ◌≡◌ {A = ℕ} 0 1 = cc in omega arith)
      others state e = unfold lent_whole is_lent in absurd (let z : ◌≡◌ {A = ℕ} 0 1 = cc in omega arith)
      others saves e = unfold lent_whole is_lent in absurd (let z : ◌≡◌ {A = ℕ} 0 1 = cc in omega arith)
      others clock e = unfold lent_whole is_lent in absurd (let z : ◌≡◌ {A = ℕ} 0 1 = cc in omega arith)
      others search e = unfold lent_whole is_lent in refl

  -- 02, note 2
  pub saving-makes : (n : List ℕ) (zs' ss' : List ℤ) (c' : Clock) → Gives (effect (on' (save' n)) (lent_all bs zs ss c) []) r (lent_all bs zs' ss' c') []
      → Makes (effect (on' (save' n)) X ls) (result_numbers r) (lent_whole bs zs' ss' c' xs) ls
  unfolding acts
  saving-makes n zs' ss' c' g = kept-gives (save' n) refl (unfold is_search is_used in (refl, refl)) (named-bare (save' n) (saving n) (λ h. refl) refl X ls) zs' ss' c' g

  pub returning-makes : (n : List ℕ) (zs' ss' : List ℤ) (c' : Clock) → Gives (effect (on' (return' n)) (lent_all bs zs ss c) []) r (lent_all bs zs' ss' c') []
      → Makes (effect (on' (return' n)) X ls) (result_numbers r) (lent_whole bs zs' ss' c' xs) ls
  unfolding acts
  returning-makes n zs' ss' c' g = kept-gives (return' n) refl (unfold is_search is_used in (refl, refl)) (named-bare (return' n) (returning n) (λ h. refl) refl X ls) zs' ss' c' g

  pub forgetting-makes : (n : List ℕ) (ss' : List ℤ) → Gives (effect (on' (forget' n)) (lent_three bs zs ss) []) r (lent_three bs zs ss') []
      → Makes (effect (on' (forget' n)) X ls) (result_numbers r) (lent_whole bs zs ss' c xs) ls
  unfolding acts
  forgetting-makes n ss' g =
      bare-gives (on' (forget' n)) (unfold is_search is_used in (refl, refl)) (named-bare (forget' n) (forgetting n) (λ h. refl) refl X ls) (lent_whole bs zs ss' c xs)
      (alike-gives (lent_three bs zs ss') (lent_whole bs zs ss' c xs) [] (three-effect bs zs ss c xs (forget' n) refl []) g at others)
    where
      at : (p : Part) → is_lent p three_parts ≡ true → lent_whole bs zs ss' c xs p ≡ lent_three bs zs ss' p
      at model e = unfold lent_three lent_whole is_lent in refl
      at state e = unfold lent_three lent_whole is_lent in refl
      at saves e = unfold lent_three lent_whole is_lent in refl
      at clock e = unfold lent_three lent_whole is_lent in absurd (let z : ◌≡◌ {A = ℕ} 0 1 = cc in omega arith)
      at search e = unfold lent_three lent_whole is_lent in absurd (let z : ◌≡◌ {A = ℕ} 0 1 = cc in omega arith)

      others : (p : Part) → is_lent p three_parts ≡ false → lent_whole bs zs ss' c xs p ≡ X p
      others model e = unfold lent_whole is_lent in absurd (let z : ◌≡◌ {A = ℕ} 0 1 = cc in omega arith)
      others state e = unfold lent_whole is_lent in absurd (let z : ◌≡◌ {A = ℕ} 0 1 = cc in omega arith)
      others saves e = unfold lent_whole is_lent in absurd (let z : ◌≡◌ {A = ℕ} 0 1 = cc in omega arith)
      others clock e = unfold lent_whole is_lent in refl
      others search e = unfold lent_whole is_lent in refl

  -- 02, note 10
  pub beginning-makes : (n : List ℕ) (d : ℕ) (xs' : List ℤ) → Gives (effect (on' (begin' n d)) (lent_search bs zs xs) []) r (lent_search bs zs xs') [] → Makes (effect (on' (begin' n d)) X ls) (result_numbers r) (lent_whole bs zs ss c xs') ls
  beginning-makes n d xs' g = bare-gives (on' (begin' n d)) (unfold is_search is_used in (refl, refl)) (begin-bare n d X ls) (lent_whole bs zs ss c xs') (under-gives bs zs ss c xs xs' (begin' n d) refl r g)

-- 02, note 8: a search changes nothing
module _ (bs : List ℕ) (zs ss : List ℤ) (c : Clock) (xs : List ℤ) (ls : List ℕ) (f : Found) (n : List ℕ) (d : ℕ) where
  abbrev W : Engine
  W = lent_whole bs zs ss c xs

  abbrev K : Ask
  K = on' (search' n d)

  abbrev r : engine.Answer
  r = bare f.number 0 0

  module _ (g : GivesRun (effect K (lent_two bs zs) []) f (lent_two bs zs)) where
    abbrev alone : Alone (effect K (lent_two bs zs) []).answer
    alone = run_alone n d (lent_two bs zs) []

    alike : Alike two_parts (effect K (lent_two bs zs) []) (effect K W []) W
    alike = two-effect bs zs ss c xs (search' n d) refl []

    abbrev same-bare : Bare (effect K W ls) (effect K W []) ls
    same-bare = search-bare n d W ls

    numbers-are : found_numbers f ≡ answer_numbers (effect K W ls).answer
    numbers-are = by ∙ ap answer_numbers (alike.answer ∙ sym same-bare.answer)
      where
        entries-eight : get_or f.run 0 0 ∷ get_or f.run 1 0 ∷ get_or f.run 2 0 ∷ get_or f.run 3 0 ∷ get_or f.run 4 0 ∷ get_or f.run 5 0 ∷ get_or f.run 6 0 ∷ get_or f.run 7 0 ∷ []
            ≡ entries_of (effect K (lent_two bs zs) []).answer.run
        entries-eight = eight f.run (ap length g.run ∙ eight-entries (effect K (lent_two bs zs) []).answer.run) ∙ g.run

        none-used : 0 ∷ 0 ∷ 0 ∷ [] ≡ used_of (effect K (lent_two bs zs) []).answer.used
        none-used = unfold used_of in ap used_of (sym (without-used K (lent_two bs zs) [] (unfold is_used in refl)))

        entries : get_or f.run 0 0 ∷ get_or f.run 1 0 ∷ get_or f.run 2 0 ∷ get_or f.run 3 0 ∷ get_or f.run 4 0 ∷ get_or f.run 5 0 ∷ get_or f.run 6 0 ∷ get_or f.run 7 0 ∷ 0 ∷ 0 ∷ 0 ∷ []
            ≡ entries_of (effect K (lent_two bs zs) []).answer.run ++ used_of (effect K (lent_two bs zs) []).answer.used
        entries = ap₂ (λ (a b : List ℕ). a ++ b) entries-eight none-used

        by : found_numbers f ≡ answer_numbers (effect K (lent_two bs zs) []).answer
        by = unfold found_numbers answer_numbers in λ i. g.number i ∷ sym alone.place i ∷ sym alone.branch i ∷ sym alone.count i ∷ sym alone.total i ∷ sym alone.chosen i ∷ g.long i ∷ entries i

    same-two : Gives (effect K (lent_two bs zs) []) r (lent_two bs zs) []
    same-two = record {
      number = g.number;
      place = sym alone.place;
      branch = sym alone.branch;
      count = sym alone.count;
      total = sym alone.total;
      chosen = sym alone.chosen;
      buffers = g.buffers;
      output = sym (search-bare n d (lent_two bs zs) []).output;
    }

    same-all : Gives (effect K W []) r W []
    same-all = alike-gives (lent_two bs zs) W [] alike same-two at others
      where
        at : (p : Part) → is_lent p two_parts ≡ true → W p ≡ lent_two bs zs p
        at model e = unfold lent_two lent_whole is_lent in refl
        at state e = unfold lent_two lent_whole is_lent in refl
        at saves e = unfold lent_two lent_whole is_lent in absurd (let z : ◌≡◌ {A = ℕ} 0 1 = cc in omega arith)
        at clock e = unfold lent_two lent_whole is_lent in absurd (let z : ◌≡◌ {A = ℕ} 0 1 = cc in omega arith)
        at search e = unfold lent_two lent_whole is_lent in absurd (let z : ◌≡◌ {A = ℕ} 0 1 = cc in omega arith)

        others : (p : Part) → is_lent p two_parts ≡ false → W p ≡ W p
        others p e = refl

    pub searching-makes : Makes (effect K W ls) (found_numbers f) W ls
    searching-makes = record {
      numbers = numbers-are;
      engine = λ p. same-all.buffers p ∙ sym (ap (λ (z : Engine). z p) same-bare.left);
      output = sym same-bare.output;
    }

-- 02, note 10: carrying a search on moves it alone
module _ (bs : List ℕ) (zs ss : List ℤ) (c : Clock) (xs : List ℤ) (ls : List ℕ) (f : Progress) (n : ℕ) where
  abbrev B : Ask
  B = on' (carry' n)

  abbrev E₀ : Effect
  E₀ = effect B (lent_search bs zs xs) []

  abbrev b : engine.Answer
  b = record { number = f.number; place = 0; branch = 0; count = f.count; total = 0; chosen = 0 }

  module _ (xs' : List ℤ) (g : GivesProgress E₀ f (lent_search bs zs xs')) where
    abbrev told : Progressed E₀.answer
    told = carry-progressed n (lent_search bs zs xs) []

    abbrev with-outputs : Bare (effect B (lent_whole bs zs ss c xs) ls) (effect B (lent_whole bs zs ss c xs) []) ls
    with-outputs = carry-bare n (lent_whole bs zs ss c xs) ls

    progress-are : progress_numbers f ≡ answer_numbers (effect B (lent_whole bs zs ss c xs) ls).answer
    progress-are = by ∙ ap answer_numbers ((under-effect bs zs ss c xs (carry' n) refl []).answer ∙ sym with-outputs.answer)
      where
        entries-eight : get_or f.run 0 0 ∷ get_or f.run 1 0 ∷ get_or f.run 2 0 ∷ get_or f.run 3 0 ∷ get_or f.run 4 0 ∷ get_or f.run 5 0 ∷ get_or f.run 6 0 ∷ get_or f.run 7 0 ∷ [] ≡ entries_of E₀.answer.run
        entries-eight = eight f.run (ap length g.run ∙ eight-entries E₀.answer.run) ∙ g.run

        ended-is : f.ended ∷ 0 ∷ 0 ∷ [] ≡ used_of E₀.answer.used
        ended-is = ap (λ (e : ℕ). e ∷ 0 ∷ 0 ∷ []) g.ended ∙ sym told.used

        rest : get_or f.run 0 0 ∷ get_or f.run 1 0 ∷ get_or f.run 2 0 ∷ get_or f.run 3 0 ∷ get_or f.run 4 0 ∷ get_or f.run 5 0 ∷ get_or f.run 6 0 ∷ get_or f.run 7 0 ∷ f.ended ∷ 0 ∷ 0 ∷ [] ≡ entries_of E₀.answer.run ++ used_of E₀.answer.used
        rest = ap₂ (λ (a b : List ℕ). a ++ b) entries-eight ended-is

        by : progress_numbers f ≡ answer_numbers E₀.answer
        by = unfold progress_numbers answer_numbers in λ i. g.number i ∷ sym told.place i ∷ sym told.branch i ∷ g.count i ∷ sym told.total i ∷ sym told.chosen i ∷ g.long i ∷ rest i

    given-under : Gives E₀ b (lent_search bs zs xs') []
    given-under = record {
      number = g.number;
      place = sym told.place;
      branch = sym told.branch;
      count = g.count;
      total = sym told.total;
      chosen = sym told.chosen;
      buffers = g.buffers;
      output = sym (carry-bare n (lent_search bs zs xs) []).output;
    }

    given-whole : Gives (effect B (lent_whole bs zs ss c xs) []) b (lent_whole bs zs ss c xs') []
    given-whole = under-gives bs zs ss c xs xs' (carry' n) refl b given-under

    pub carrying-makes : Makes (effect B (lent_whole bs zs ss c xs) ls) (progress_numbers f) (lent_whole bs zs ss c xs') ls
    carrying-makes = record {
      numbers = progress-are;
      engine = λ p. given-whole.buffers p ∙ sym (ap (λ (z : Engine). z p) with-outputs.left);
      output = sym with-outputs.output;
    }

-- R.4 to R.7: a run leaves the saves, and its events stand in the output
module _ (bs : List ℕ) (zs ss : List ℤ) (c : Clock) (xs : List ℤ) (ls : List ℕ) (r : Told) (ws vs : List ℕ) (n : ℕ) where
  abbrev Q : Request
  Q = run' ws vs n (length ls)

  -- what the code's result says of the effect
  abbrev a : engine.Answer
  a = record { number = r.number; place = 0; branch = 0; count = r.count; total = r.total; chosen = 0 }

  abbrev E : Effect
  E = effect (on' Q) (lent_timed bs zs c) ls

  module _ (zs' : List ℤ) (c' : Clock) (l : List ℕ) (g : GivesRan E r (lent_timed bs zs' c') l) where
    abbrev says : used.Bare E.answer
    says = run-bare ws vs n (length ls) (lent_timed bs zs c) ls

    alike-run : Alike timed_parts E (effect (on' Q) (lent_whole bs zs ss c xs) ls) (lent_whole bs zs ss c xs)
    alike-run = timed-effect bs zs ss c xs Q refl ls

    ran-numbers : ran_numbers r ≡ answer_numbers (effect (on' Q) (lent_whole bs zs ss c xs) ls).answer
    ran-numbers = by ∙ ap answer_numbers alike-run.answer
      where
        no_run : [] ≡ E.answer.run
        no_run = sym (without-run (on' Q) (lent_timed bs zs c) ls (unfold is_search in refl))

        rest : 0 ∷ 0 ∷ 0 ∷ 0 ∷ 0 ∷ 0 ∷ 0 ∷ 0 ∷ 0 ∷ r.steps ∷ r.words ∷ r.waiting ∷ [] ≡ length E.answer.run ∷ (entries_of E.answer.run ++ used_of E.answer.used)
        rest = unfold entries_of used_of in λ i. length (no_run i) ∷ (entries_of (no_run i) ++ (g.steps i ∷ g.words i ∷ g.waiting i ∷ []))

        by : ran_numbers r ≡ answer_numbers E.answer
        by = unfold ran_numbers answer_numbers in λ i. g.number i ∷ sym says.place i ∷ sym says.branch i ∷ g.count i ∷ g.total i ∷ sym says.chosen i ∷ rest i

    given : Gives E a (lent_timed bs zs' c') l
    given = record {
      number = g.number;
      place = sym says.place;
      branch = sym says.branch;
      count = g.count;
      total = g.total;
      chosen = sym says.chosen;
      buffers = g.buffers;
      output = g.output;
    }

    given-all : Gives (effect (on' Q) (lent_whole bs zs ss c xs) ls) a (lent_whole bs zs' ss c' xs) l
    given-all = alike-gives (lent_timed bs zs' c') (lent_whole bs zs' ss c' xs) l alike-run given at others
      where
        at : (p : Part) → is_lent p timed_parts ≡ true → lent_whole bs zs' ss c' xs p ≡ lent_timed bs zs' c' p
        at model e = unfold lent_timed lent_whole is_lent in refl
        at state e = unfold lent_timed lent_whole is_lent in refl
        at saves e = unfold lent_timed lent_whole is_lent in absurd (let z : ◌≡◌ {A = ℕ} 0 1 = cc in omega arith)
        at clock e = unfold lent_timed lent_whole is_lent in refl
        at search e = unfold lent_timed lent_whole is_lent in absurd (let z : ◌≡◌ {A = ℕ} 0 1 = cc in omega arith)

        others : (p : Part) → is_lent p timed_parts ≡ false → lent_whole bs zs' ss c' xs p ≡ lent_whole bs zs ss c xs p
        others model e = unfold lent_whole is_lent in absurd (let z : ◌≡◌ {A = ℕ} 0 1 = cc in omega arith)
        others state e = unfold lent_whole is_lent in absurd (let z : ◌≡◌ {A = ℕ} 0 1 = cc in omega arith)
        others saves e = unfold lent_whole is_lent in refl
        others clock e = unfold lent_whole is_lent in absurd (let z : ◌≡◌ {A = ℕ} 0 1 = cc in omega arith)
        others search e = unfold lent_whole is_lent in refl

    pub running-makes : Makes (effect (on' Q) (lent_whole bs zs ss c xs) ls) (ran_numbers r) (lent_whole bs zs' ss c' xs) l
    running-makes = record { numbers = ran-numbers; engine = given-all.buffers; output = given-all.output }

-- ---- the call of a row

-- a row is lent the first numbers of each part and of the outputs
module _ (row : Row) (texts numbers words bs : List ℕ) (zs ss : List ℤ) (c : Clock) (xs : List ℤ) (ls ns bs' : List ℕ) (zs' ss' : List ℤ) (c' : Clock) (xs' : List ℤ) (l : List ℕ) where
  abbrev Lent-parts : Engine
  Lent-parts = lent_whole (take row.model bs) (take row.state zs) (take row.saves ss) c (take row.search xs)

  lent_is : Lent-parts ≡ (λ (p : Part). take (row_lengths row p) (lent_whole bs zs ss c xs p))
  unfolding lent_whole row_lengths
  lent_is = same-engine at
    where
      at : (p : Part) → Lent-parts p ≡ take (row_lengths row p) (lent_whole bs zs ss c xs p)
      at model = refl
      at state = refl
      at saves = refl
      at clock = refl
      at search = refl

  effect_is : effect (row_ask texts numbers words row) Lent-parts (take row.output ls) ≡ effect_of (row_call texts numbers words row) (lent_whole bs zs ss c xs) ls
  unfolding effect_of row_call
  effect_is = ap (λ (x : Engine). effect (row_ask texts numbers words row) x (take row.output ls)) lent_is

  pub called : Makes (effect (row_ask texts numbers words row) Lent-parts (take row.output ls)) ns (lent_whole bs' zs' ss' c' xs') l
      → Called (row_call texts numbers words row) (lent_whole bs zs ss c xs) ls ns (lent_whole (bs' ++ drop row.model bs) (zs' ++ drop row.state zs) (ss' ++ drop row.saves ss) c' (xs' ++ drop row.search xs)) (l ++ drop row.output ls)
  unfolding row_call
  called g = record {
    numbers = g.numbers ∙ ap (λ (e : Effect). answer_numbers e.answer) effect_is;
    engine = at;
    outputs = ap (λ (h : List ℕ). h ++ drop row.output ls) (g.output ∙ ap (λ (e : Effect). e.output) effect_is);
  }
    where
      at : (p : Part) → lent_whole (bs' ++ drop row.model bs) (zs' ++ drop row.state zs) (ss' ++ drop row.saves ss) c' (xs' ++ drop row.search xs) p
          ≡ (effect_of (row_call texts numbers words row) (lent_whole bs zs ss c xs) ls).left p ++ drop (row_lengths row p) (lent_whole bs zs ss c xs p)
      at model = unfold lent_whole row_lengths in ap (λ (h : List ℕ). h ++ drop row.model bs) (g.engine model ∙ ap (λ (e : Effect). e.left model) effect_is)
      at state = unfold lent_whole row_lengths in ap (λ (h : List ℤ). h ++ drop row.state zs) (g.engine state ∙ ap (λ (e : Effect). e.left state) effect_is)
      at saves = unfold lent_whole row_lengths in ap (λ (h : List ℤ). h ++ drop row.saves ss) (g.engine saves ∙ ap (λ (e : Effect). e.left saves) effect_is)
      at search = unfold lent_whole row_lengths in ap (λ (h : List ℤ). h ++ drop row.search xs) (g.engine search ∙ ap (λ (e : Effect). e.left search) effect_is)
      at clock = unfold lent_whole row_lengths in g.engine clock ∙ ap (λ (e : Effect). e.left clock) effect_is ∙ sym (append-nil _)

-- what a row of a kind asks, with its text, draws and words as the code cuts them
module _ (kind : Kind) (row : Row) (texts numbers words : List ℕ) (e : kind_number kind ≡ row.kind) where
  abbrev Row-asks : Ask → Type 0
  Row-asks k = row_ask texts numbers words row ≡ k

  abbrev T : List ℕ
  T = take row.size (take (length texts - row.text) (drop row.text texts))

  abbrev D : List ℕ
  D = take row.count (take (length numbers - row.from) (drop row.from numbers))

  abbrev V : List ℕ
  V = take row.words (take (length words - row.start) (drop row.start words))

  cut : (p n : ℕ) (l : List ℕ) → take n (drop p l) ≡ take n (take (length l - p) (drop p l))
  cut p n l = ap (take n) (sym (take_all (length l - p) (drop p l) (omega (arith, length-drop p l))))

  text-is : row_text texts row ≡ T
  unfolding row_text
  text-is = cut row.text row.size texts

  draws-are : row_draws numbers row ≡ D
  unfolding row_draws
  draws-are = cut row.from row.count numbers

  words_are : row_words words row ≡ V
  unfolding row_words
  words_are = cut row.start row.words words

  pub asks-open : kind ≡ Open → Row-asks (open' T)
  unfolding row_ask kind_number
  asks-open f = let k : row.kind ≡ 1 = sym e ∙ ap kind_number f in let a : row_ask texts numbers words row ≡ open' (row_text texts row) = rw k refl in a ∙ ap open' text-is

  pub asks-steady : kind ≡ Steady → Row-asks (open_steady' T)
  unfolding row_ask kind_number
  asks-steady f = let k : row.kind ≡ 9 = sym e ∙ ap kind_number f in let a : row_ask texts numbers words row ≡ open_steady' (row_text texts row) = rw k refl in a ∙ ap open_steady' text-is

  pub asks-list : kind ≡ Lists → Row-asks (on' list')
  unfolding row_ask kind_number
  asks-list f = let k : row.kind ≡ 2 = sym e ∙ ap kind_number f in rw k refl

  pub asks-report : kind ≡ Report → Row-asks (on' report')
  unfolding row_ask kind_number
  asks-report f = let k : row.kind ≡ 4 = sym e ∙ ap kind_number f in rw k refl

  pub asks-step : kind ≡ Step → Row-asks (on' (step' row.number))
  unfolding row_ask kind_number
  asks-step f = let k : row.kind ≡ 3 = sym e ∙ ap kind_number f in rw k refl

  pub asks-timed : kind ≡ Times → Row-asks (on' (timed' D row.number))
  unfolding row_ask kind_number
  asks-timed f = let k : row.kind ≡ 8 = sym e ∙ ap kind_number f in let a : row_ask texts numbers words row ≡ on' (timed' (row_draws numbers row) row.number) = rw k refl in a ∙ ap (λ (l : List ℕ). on' (timed' l row.number)) draws-are

  pub asks-save : kind ≡ Save → Row-asks (on' (save' T))
  unfolding row_ask kind_number
  asks-save f = let k : row.kind ≡ 5 = sym e ∙ ap kind_number f in let a : row_ask texts numbers words row ≡ on' (save' (row_text texts row)) = rw k refl in a ∙ ap (λ (l : List ℕ). on' (save' l)) text-is

  pub asks-return : kind ≡ Return → Row-asks (on' (return' T))
  unfolding row_ask kind_number
  asks-return f = let k : row.kind ≡ 6 = sym e ∙ ap kind_number f in let a : row_ask texts numbers words row ≡ on' (return' (row_text texts row)) = rw k refl in a ∙ ap (λ (l : List ℕ). on' (return' l)) text-is

  pub asks-forget : kind ≡ Forget → Row-asks (on' (forget' T))
  unfolding row_ask kind_number
  asks-forget f = let k : row.kind ≡ 7 = sym e ∙ ap kind_number f in let a : row_ask texts numbers words row ≡ on' (forget' (row_text texts row)) = rw k refl in a ∙ ap (λ (l : List ℕ). on' (forget' l)) text-is

  pub asks-search : kind ≡ Search → Row-asks (on' (search' T row.number))
  unfolding row_ask kind_number
  asks-search f = let k : row.kind ≡ 10 = sym e ∙ ap kind_number f in let a : row_ask texts numbers words row ≡ on' (search' (row_text texts row) row.number) = rw k refl in a ∙ ap (λ (l : List ℕ). on' (search' l row.number)) text-is

  pub asks-run : kind ≡ Run → (n : ℕ) → n ≡ row.output → Row-asks (on' (run' V D row.number n))
  unfolding row_ask kind_number
  asks-run f n o = let k : row.kind ≡ 11 = sym e ∙ ap kind_number f in let a : row_ask texts numbers words row ≡ on' (run' (row_words words row) (row_draws numbers row) row.number row.output) = rw k refl in a ∙ (λ i. on' (run' (words_are i) (draws-are i) row.number (sym o i)))

  pub asks-begin : kind ≡ Begin → Row-asks (on' (begin' T row.number))
  unfolding row_ask kind_number
  asks-begin f = let k : row.kind ≡ 12 = sym e ∙ ap kind_number f in let a : row_ask texts numbers words row ≡ on' (begin' (row_text texts row) row.number) = rw k refl in a ∙ ap (λ (l : List ℕ). on' (begin' l row.number)) text-is

  pub asks-carry : kind ≡ Carry → Row-asks (on' (carry' row.number))
  unfolding row_ask kind_number
  asks-carry f = let k : row.kind ≡ 13 = sym e ∙ ap kind_number f in rw k refl

  -- what a call of that makes, in other words of its numbers and its clock
  pub makes-row : (k : Ask) → Row-asks k → (x : Engine) (ls : List ℕ) {ns ns' : List ℕ} {c c' : Clock} (bs : List ℕ) (zs ss xs : List ℤ) {l : List ℕ} → Makes (effect k x ls) ns' (lent_whole bs zs ss c' xs) l → (ns ≡ ns') × (c ≡ c')
      → Makes (effect (row_ask texts numbers words row) x ls) ns (lent_whole bs zs ss c xs) l
  makes-row k q x ls bs zs ss xs m d = rw (q, d.0, d.1) m

-- the first thirteen numbers are read as all are
pub first-row : (l : List ℕ) → row_of (take row_width l) ≡ row_of l
unfolding row_of
first-row l =
    λ i. record {
      kind = get_or-take row_width l 0 0 (omega arith) i;
      text = get_or-take row_width l 1 0 (omega arith) i;
      size = get_or-take row_width l 2 0 (omega arith) i;
      from = get_or-take row_width l 3 0 (omega arith) i;
      count = get_or-take row_width l 4 0 (omega arith) i;
      number = get_or-take row_width l 5 0 (omega arith) i;
      output = get_or-take row_width l 6 0 (omega arith) i;
      model = get_or-take row_width l 7 0 (omega arith) i;
      state = get_or-take row_width l 8 0 (omega arith) i;
      saves = get_or-take row_width l 9 0 (omega arith) i;
      search = get_or-take row_width l 10 0 (omega arith) i;
      start = get_or-take row_width l 11 0 (omega arith) i;
      words = get_or-take row_width l 12 0 (omega arith) i;
    }
