-- One call of a row does to the engine in a run's buffers what it does to the rule machine: it is a call that lends the engine's own buffers, or others of wrong lengths. One argument for
-- all calls, and one lemma for each request, of how much it shows.
use mathlib.Core.Path.{◌≡◌, refl, sym, ap, ap₂, subst, ◌∙◌}
use mathlib.Core.Bool.{Bool, true, false, cond, ◌&&◌}
use mathlib.Core.List.{List, [], ◌∷◌, ◌++◌, append_assoc}
use mathlib.Core.Option.{Option, none, some}
use Prim.Native.Nat.{ℕ, zero, suc, ◌+◌, ◌*◌, ◌≤◌}
use native.Mathlib.Omega.{arith}
use borrow.Author.Tests.{leb-true, eqb-true, eqb-false}
use lib.Dec.{eqb, leb}
use lib.ListN.{length, take, drop, length-append, length-take, length-drop, length-replicate, take-append-drop}
use lib.Seq.{length-take-le, take-take}
use Rattle.std.specs.Prelude.{Err, Ok}
use Rattle.rules.specs.Rules.{key}
use Rattle.rules.specs.Listing.{Entry, entry}
use Rattle.rules.proofs.Decides.{on}
use Rattle.clock.specs.Clock.{Brought, brought_by}
use Rattle.machine.specs.State.{State}
use Rattle.machine.specs.Timed.{timed}
use Rattle.machine.specs.Report.{report_length}
use Rattle.machine.specs.Machine.{entry_limit, listing_length, event_width, Event, Shown, as_lent, zeroed, filled, reported, happened, Answer, no, listed_as, reported_as, Listed, Turn, turn, drawn, showing, lists, sharing, reports, choosing, steps_with, refused_as, with_wait, steps_in, times_with, ran_as, runs_over, Held, Good, Machine, closed, holding, on_state}
use Rattle.machine.specs.Machine.{on_clock, on_saves, Request, list', step', report', search', timed', run', save', return', forget', begin', carry', on_search, Search, Ask, open', open_steady', on', acts, Part, model, state, saves, clock, search, size, lent_to, output_of, uses, is_lent, all_parts, has_lengths, Call, opens, on_machine, calls}
use Rattle.machine.specs.Machine as machine
use Rattle.machine.specs.Runs.{event_row, event_rows, event_numbers}
use Rattle.machine.specs.Questions.{Lists, no12, no13, no14, yes14}
use Rattle.machine.proofs.Lent.{both_true, each_lent, lent-so}
use Rattle.machine.proofs.Listing.{asked}
use Rattle.machine.proofs.Stepping as step
use Rattle.machine.proofs.Running.{run-carries}
use Rattle.machine.proofs.Report.{report-length}
use Rattle.model.specs.Resolved
use Rattle.model.specs.Good.{GoodModel}
use Rattle.model.specs.Opening.{Opening, refused, opened, opening}
use Rattle.profile.specs.Opening.{opening_steady}
use Rattle.buffers.specs.Held.{model_bytes}
use Rattle.buffers.specs.Listing.{shown}
use Rattle.buffers.specs.Parts.{Cell, Engine}
use Rattle.buffers.specs.Effect.{Effect, untouched, left_in, leaves, requested, answered, effect}
use Rattle.buffers.specs.Calls.{Lending, own, other, lent_buffer, lent_length, own_buffer, BufferCall, lent_engine, left_by, lent_lengths, fed, Holds, zeros, held}
use Rattle.buffers.specs.Calls as buffers
use Rattle.buffers.proofs.Every.{engine-long, holds_same, all-lent, one-untouched, left_as, Goes, call-goes}
use Rattle.buffers.proofs.Every as every
use Rattle.buffers.proofs.Held.{held_fits}
use Rattle.buffers.proofs.Listings.{listing-length}
use Rattle.buffers.proofs.Transitions.{fills}
use Rattle.buffers.proofs.Answers.{search-shows}
use Rattle.buffers.proofs.Pieces as pieces
use Rattle.buffers.proofs.Pieces.{Walked, begins-walked, carries-walked}
use Rattle.script.specs.declared.Row.{Row}
use Rattle.script.specs.Rows.{open_kind, last_kind, answer_width, output_width, row_parts, row_lengths, Room, fits, row_call, call_of}
use Rattle.script.specs.Run.{Lent, room_of, effect_of, call_left}
use Rattle.script.specs.Follows.{engine_in, part_shown}
use Rattle.script.proofs.Front.{front-take, front-drop}

-- ---- what a row's call asks for is there

pub record Fits (c : Call) (x : Room) : Type 0 where
  pub parts : (p : Part) → c.lengths p ≤ x.parts p
  pub output : c.output ≤ x.outputs
  pub own : c.output ≤ output_width
  pub answer : answer_width ≤ x.answers

-- every part stands in a row
in_row : (p : Part) → is_lent p row_parts ≡ true
unfolding is_lent
in_row model = refl
in_row state = refl
in_row saves = refl
in_row clock = refl
in_row search = refl

-- what a row that fits asks for
pub record Asks (r : Row) (texts numbers words : ℕ) (parts : Part → ℕ) (outputs : ℕ) : Type 0 where
  pub least : open_kind ≤ r.kind
  pub most : r.kind ≤ last_kind
  pub text : r.text + r.size ≤ texts
  pub list : r.from + r.count ≤ numbers
  pub supply : r.start + r.words ≤ words
  pub part : (p : Part) → row_lengths r p ≤ parts p
  pub output : r.output ≤ outputs
  pub own : r.output ≤ output_width

pub row-asks : (r : Row) (texts numbers words : ℕ) (parts : Part → ℕ) (outputs : ℕ) → fits r texts numbers words parts outputs ≡ true → Asks r texts numbers words parts outputs
unfolding fits
row-asks r texts numbers words parts outputs e =
    let a = both_true (leb open_kind r.kind) _ e in
    let b = both_true (leb r.kind last_kind) _ a.1 in
    let c = both_true (leb (r.text + r.size) texts) _ b.1 in
    let d = both_true (leb (r.from + r.count) numbers) _ c.1 in
    let i = both_true (leb (r.start + r.words) words) _ d.1 in
    let f = both_true (all_parts (λ (p : Part). leb (row_lengths r p) (parts p)) row_parts) _ i.1 in
    let g = both_true (leb r.output outputs) _ f.1 in
    record {
      least = leb-true _ _ a.0;
      most = leb-true _ _ b.0;
      text = leb-true _ _ c.0;
      list = leb-true _ _ d.0;
      supply = leb-true _ _ i.0;
      part = λ p. leb-true _ _ (each_lent (λ (p : Part). leb (row_lengths r p) (parts p)) row_parts f.0 p (in_row p));
      output = leb-true _ _ g.0;
      own = leb-true _ _ g.1;
    }

pub call_fits : (texts numbers words : List ℕ) (x : Room) (r : Row) (c : Call) → call_of texts numbers words x r ≡ some c → Fits c x
unfolding call_of row_call
call_fits texts numbers words x r c e = by (leb answer_width x.answers && fits r (length texts) (length numbers) (length words) x.parts x.outputs) refl e
  where
    by : (b : Bool) → (leb answer_width x.answers && fits r (length texts) (length numbers) (length words) x.parts x.outputs) ≡ b → cond b (some (row_call texts numbers words r)) none ≡ some c → Fits c x
    by true f e =
        let a = both_true (leb answer_width x.answers) _ f in
        let b = row-asks r _ _ _ _ _ a.1 in
        let q : row_call texts numbers words r ≡ c = cc in
        let g : Fits (row_call texts numbers words r) x = record { parts = b.part; output = b.output; own = b.own; answer = leb-true _ _ a.0 } in
        subst (λ (d : Call). Fits d x) q g
    by false f e = absurd (let z : ◌≡◌ {A = ℕ} 0 1 = cc in omega arith)

-- ---- the same call on the engine's own buffers

-- the engine's own buffer where n is its length, else the first n numbers of the list
lending : {A : Type 0} (right n : ℕ) (l : List A) → n ≤ length l → (b : Bool) → eqb n right ≡ b → Lending A right
lending right n l h true e = own
lending right n l h false e = other (take n l) (λ q. eqb-false _ _ e (sym (length-take-le n l h) ∙ q))

lending-lent : {A : Type 0} (right n : ℕ) (l : List A) (h : n ≤ length l) (b : Bool) (e : eqb n right ≡ b) → lent_buffer (lending right n l h b e) (take right l) ≡ take n l
unfolding lending lent_buffer
lending-lent right n l h true e = ap (λ (k : ℕ). take k l) (sym (eqb-true n right e))
lending-lent right n l h false e = refl

lending-long : {A : Type 0} (right n : ℕ) (l : List A) (h : n ≤ length l) (b : Bool) (e : eqb n right ≡ b) → lent_length (lending right n l h b e) ≡ n
unfolding lending lent_length
lending-long right n l h true e = sym (eqb-true n right e)
lending-long right n l h false e = length-take-le n l h

module _ (c : Call) (x : Lent) (f : Fits c (room_of x)) where
  there : (p : Part) → c.lengths p ≤ length (x.engine p)
  unfolding room_of
  there = f.parts

  lendings : (p : Part) → Lending (Cell p) (size p)
  lendings p = lending (size p) (c.lengths p) (x.engine p) (there p) (eqb (c.lengths p) (size p)) refl

  own_call : BufferCall
  own_call = record { ask = c.ask; lending = lendings; output = take c.output x.outputs }

  output-long : length (take c.output x.outputs) ≡ c.output
  unfolding room_of
  output-long = length-take-le c.output x.outputs f.output

  own-fed : fed own_call ≡ c
  unfolding own_call lendings fed lent_lengths
  own-fed =
      λ i. record {
        ask = c.ask;
        lengths = λ (p : Part). lending-long (size p) (c.lengths p) (x.engine p) (there p) (eqb (c.lengths p) (size p)) refl i;
        output = output-long i;
      }

  own-lent : lent_engine own_call (engine_in x) ≡ (λ (p : Part). take (c.lengths p) (x.engine p))
  unfolding own_call lendings lent_engine engine_in
  own-lent = λ i p. lending-lent (size p) (c.lengths p) (x.engine p) (there p) (eqb (c.lengths p) (size p)) refl i

  own-effect : buffers.effect_of (engine_in x) own_call ≡ effect_of c x.engine x.outputs
  unfolding buffers.effect_of effect_of own_call
  own-effect = ap (λ (z : Engine). effect c.ask z (take c.output x.outputs)) own-lent

-- ---- what a call leaves of a part that it is not lent

opening-left : (text : List ℕ) (p : Part) → is_lent p (lent_to (open' text)) ≡ false → ⊥
opening-left text p e = let q : true ≡ false = sym (all-lent text p) ∙ e in let z : ◌≡◌ {A = ℕ} 0 1 = cc in omega arith

request-left : (ps : List Part) (x : Engine) (y : Machine) (p : Part) → is_lent p ps ≡ false → left_in ps x y p ≡ x p
unfolding left_in
request-left ps x closed p e = refl
request-left ps x (holding h) p e = rw e

unlent-left : (k : Ask) (x : Engine) (l : List ℕ) (p : Part) → is_lent p (lent_to k) ≡ false → (effect k x l).left p ≡ x p
unfolding effect untouched
unlent-left k x l p e = by (has_lengths k (λ (p : Part). length (x p)) (length l)) k e
  where
    by : (b : Bool) (k : Ask) → is_lent p (lent_to k) ≡ false → (cond b (answered k x l) (untouched x l)).left p ≡ x p
    by true (open' text) e = absurd (opening-left text p e)
    by true (open_steady' text) e = absurd (opening-left text p e)
    by true (on' r) e = unfold answered requested leaves in request-left (uses r) x _ p e
    by false k e = refl

-- ---- the listing or report that an answer shows

-- it fits in n numbers
Spans : ℕ → Shown → Type 0
Spans n as_lent = Unit {0}
Spans n zeroed = Unit {0}
Spans n (filled es) = (length es ≤ entry_limit) × (n ≡ listing_length)
Spans n (reported ns) = length ns ≡ n
Spans n (happened es) = length es * event_width ≤ n

-- R.4: as many numbers as were lent
rows-length : (es : List Event) (rest : List ℕ) → length (event_rows es rest) ≡ length es * event_width + length rest
unfolding event_rows
rows-length [] rest = omega arith
rows-length (e ∷ es) rest = row-length e.ticks e.entry (event_rows es rest) ∙ omega (arith, rows-length es rest)
  where
    row-length : (t : ℕ) (x : Entry) (l : List ℕ) → length (event_row t x l) ≡ event_width + length l
    row-length t (entry (key c i j k m q) w) l = unfold event_row in omega arith

events-length : (es : List Event) (l : List ℕ) → length es * event_width ≤ length l → length (event_numbers es l) ≡ length l
unfolding event_numbers
events-length es l h = omega (arith, rows-length es (drop (length es * event_width) l), length-drop (length es * event_width) l)

shown-length : (a : Shown) (l : List ℕ) → Spans (length l) a → length (shown a l) ≡ length l
unfolding Spans shown
shown-length as_lent l f = refl
shown-length zeroed l f = length-replicate {A = ℕ} (length l) 0
shown-length (filled es) l f = listing-length es f.0 ∙ sym f.1
shown-length (reported ns) l f = f
shown-length (happened es) l f = events-length es l f

-- what is shown by an answer to k: nothing, or what spans its output
data InPart (k : Ask) (s : Shown) : Type 0 where
  nothing : s ≡ as_lent → InPart k s
  within : (n : ℕ) → output_of k ≡ some n → Spans n s → InPart k s

lists-within : (m : Resolved.Model) (s : State) → InPart (on' list') (lists m s).answer.listing
unfolding lists
lists-within m s = within listing_length refl (by ((asked m s (machine.listing m s)).0 refl))
  where
    by : {k : Listed} → Lists m s k → Spans listing_length (showing s k).answer.listing
    by (no12 f) = unfold Spans showing no in tt
    by (no13 g h l) = unfold Spans showing no in tt
    by (no14 g h l f) = unfold Spans showing no in tt
    by (yes14 g h l f) = unfold Spans showing listed_as in (l, refl)

steps-within : (d : ℕ) (m : Resolved.Model) (s : State) → InPart (on' (step' d)) (steps_with d m s).answer.listing
unfolding steps_with
steps-within d m s = within listing_length refl (by ((asked m s (machine.listing m s)).0 refl))
  where
    by : {k : Listed} → Lists m s k → Spans listing_length (choosing m s d k).answer.listing
    by (no12 f) = unfold Spans choosing no in tt
    by (no13 g h l) = unfold Spans choosing no in tt
    by (no14 g h l f) = unfold Spans choosing no in tt
    by (yes14 {es = es} g h l f) = unfold Spans choosing in rw (fills ((step.asked m s es h d (drawn m s es d)).0 refl)) (l, refl)

reports-within : (h : Held) → GoodModel h.model → Good h → InPart (on' report') (reports h.model h.state).answer.listing
unfolding reports
reports-within h k g = within report_length refl (by ((asked h.model h.state (machine.listing h.model h.state)).0 refl))
  where
    by : {l : Listed} → Lists h.model h.state l → Spans report_length (sharing h.model h.state l).answer.listing
    by (no12 f) = unfold Spans sharing no in tt
    by (no13 c i l) = unfold Spans sharing no in tt
    by (no14 c i l f) = unfold Spans sharing no in tt
    by (yes14 {es = es} c i l f) = unfold Spans sharing reported_as in report-length h.model k h.state g.state es

-- 02, note 4: a timed step shows what its step shows
module _ (ds : List ℕ) (d : ℕ) (h : Held) where
  abbrev stepped : Turn State
  stepped = steps_with d h.model h.state

  abbrev waited : Brought
  waited = brought_by h.clock ds stepped.answer.total

  shows_same : (steps_in h.clock ds h.state stepped).answer.listing ≡ stepped.answer.listing
  unfolding steps_in with_wait refused_as
  shows_same = by (eqb stepped.answer.number 0) waited
    where
      by : (a : Bool) (b : Brought) → (cond a (with_wait h.state h.clock stepped b) (turn (timed stepped.machine h.clock) stepped.answer)).answer.listing ≡ stepped.answer.listing
      by true (Ok k) = refl
      by true (Err l) = refl
      by false b = refl

  timed-within : InPart (on' (timed' ds d)) (acts (timed' ds d) h).answer.listing
  unfolding acts on_clock times_with
  timed-within = by (steps-within d h.model h.state)
    where
      by : InPart (on' (step' d)) stepped.answer.listing → InPart (on' (timed' ds d)) (steps_in h.clock ds h.state stepped).answer.listing
      by (nothing e) = nothing (shows_same ∙ e)
      by (within n o s) = within n o (rw shows_same s)

-- R.6: the events of a run are in the buffer that it says
run-within : (ws vs : List ℕ) (n l : ℕ) (h : Held) → InPart (on' (run' ws vs n l)) (acts (run' ws vs n l) h).answer.listing
unfolding acts on_clock runs_over ran_as
run-within ws vs n l h = within l refl (unfold Spans in (run-carries ws vs n l h.model h.state h.clock).room)

-- 02, note 10: a search that is begun or carried on shows nothing
pub walked-shows : {o : Option Search} {t : Turn (Option Search)} → Walked o t → t.answer.listing ≡ as_lent
walked-shows (pieces.goes a e) = e
walked-shows (pieces.stays a e f) = e

acts-within : (r : Request) (h : Held) → GoodModel h.model → Good h → InPart (on' r) (acts r h).answer.listing
unfolding acts on_state on_clock on_saves on_search no
acts-within list' h k g = lists-within h.model h.state
acts-within (step' d) h k g = steps-within d h.model h.state
acts-within report' h k g = reports-within h k g
acts-within (search' n d) h k g = nothing (search-shows h.model n h.state d)
acts-within (timed' ds d) h k g = timed-within ds d h
acts-within (run' ws vs n l) h k g = run-within ws vs n l h
acts-within (save' n) h k g = nothing refl
acts-within (return' n) h k g = nothing refl
acts-within (forget' n) h k g = nothing refl
acts-within (begin' n d) h k g = nothing (walked-shows (begins-walked n d h.model h.state h.search))
acts-within (carry' n) h k g = nothing (walked-shows (carries-walked n h.model h.search))

opening-shows : (o : Opening) → (opens o).answer.listing ≡ as_lent
unfolding opens no
opening-shows (refused n p) = refl
opening-shows (opened m) = refl

asked-within : {x : Engine} {y : Machine} → Holds x y → (k : Ask) → InPart k (machine.asked_of_machine y k).answer.listing
unfolding machine.asked_of_machine on_machine
asked-within h (open' text) = nothing (opening-shows (opening text))
asked-within h (open_steady' text) = nothing (opening-shows (opening_steady text))
asked-within (zeros e) (on' r) = nothing (unfold no in refl)
asked-within (held {h = h} text m e g) (on' r) = acts-within r h (held_fits (model_bytes text) h.model m) g

-- the first n numbers of the first k
rest_of : (n k : ℕ) (l : List ℕ) → n ≤ k → drop n (take k l) ++ drop k l ≡ drop n l
rest_of zero k l h = take-append-drop k l
rest_of (suc n) zero l h = absurd (omega arith)
rest_of (suc n) (suc k) [] h = refl
rest_of (suc n) (suc k) (a ∷ l) h = rest_of n k l (omega arith)

-- what stands in the row's own part of the outputs, and that it is all that the call changes
record OwnPart (c : Call) (s : Shown) (l : List ℕ) : Type 0 where
  long : length (shown s (take c.output (take output_width l)) ++ drop c.output (take output_width l)) ≡ length (take output_width l)
  listed : shown s (take c.output l) ++ drop c.output l ≡ (shown s (take c.output (take output_width l)) ++ drop c.output (take output_width l)) ++ drop output_width l

as_lent_lem : (c : Call) (s : Shown) (l : List ℕ) → s ≡ as_lent → OwnPart c s l
unfolding shown
as_lent_lem c s l e = rw e (record {
  long = ap length (take-append-drop c.output (take output_width l));
  listed = take-append-drop c.output l ∙ sym (ap (λ (k : List ℕ). k ++ drop output_width l) (take-append-drop c.output (take output_width l)) ∙ take-append-drop output_width l);
})

in-own : (c : Call) (s : Shown) (l : List ℕ) → c.output ≤ length l → c.output ≤ output_width → Spans c.output s → OwnPart c s l
in-own c s l f w p =
    let n = c.output in
    let k : List ℕ = take output_width l in
    let front : take n k ≡ take n l = take-take n output_width l w in
    let size : length (take n k) ≡ n = ap length front ∙ length-take-le n l f in
    let same : length (shown s (take n k)) ≡ length (take n k) = shown-length s (take n k) (rw size p) in
    record {
      long = omega (arith, length-append (shown s (take n k)) (drop n k), same, size, length-drop n k, length-take n k, ap length (take-append-drop n k), length-append (take n k) (drop n k));
      listed = ap₂ (λ (u v : List ℕ). shown s u ++ v) (sym front) (sym (rest_of n output_width l w)) ∙ sym (append_assoc (shown s (take n k)) (drop n k) (drop output_width l));
    }

-- ---- one call

-- a row's call turns the machine y and the engine in x alike, and shows what the answer says in the row's own output
pub record Done (y : Machine) (c : Call) (x : Lent) : Type 0 where
  pub answer : (effect_of c x.engine x.outputs).answer ≡ (calls y c).answer
  pub long : length (part_shown c (calls y c).answer (take output_width x.outputs)) ≡ length (take output_width x.outputs)
  pub listed : (call_left c x).outputs ≡ part_shown c (calls y c).answer (take output_width x.outputs) ++ drop output_width x.outputs
  pub holds : Holds (engine_in (call_left c x)) (calls y c).machine
  pub beyond : (p : Part) → drop (size p) ((call_left c x).engine p) ≡ drop (size p) (x.engine p)

module _ (y : Machine) (c : Call) (x : Lent) (f : Fits c (room_of x)) (h : Holds (engine_in x) y) where
  abbrev C : BufferCall
  C = own_call c x f

  abbrev E : Effect
  E = effect_of c x.engine x.outputs

  goes : Goes (engine_in x) y C
  goes = call-goes h C

  turned : calls y (fed C) ≡ calls y c
  turned = ap (calls y) (own-fed c x f)

  left-holds : Holds (left_by (engine_in x) C) (calls y c).machine
  left-holds = subst (λ (t : Turn Machine). Holds (left_by (engine_in x) C) t.machine) turned goes.left

  -- ---- each part: left as it was lent, or the engine's own
  data PartLeft (p : Part) : Type 0 where
    same : (call_left c x).engine p ≡ x.engine p → left_by (engine_in x) C p ≡ take (size p) (x.engine p) → PartLeft p
    mine : c.lengths p ≡ size p → left_by (engine_in x) C p ≡ E.left p → PartLeft p

  put_back : (p : Part) → E.left p ≡ take (c.lengths p) (x.engine p) → (call_left c x).engine p ≡ x.engine p
  unfolding call_left
  put_back p e = ap (λ (l : List (Cell p)). l ++ drop (c.lengths p) (x.engine p)) e ∙ take-append-drop (c.lengths p) (x.engine p)

  stays-own : (p : Part) → left_by (engine_in x) C p ≡ engine_in x p → left_by (engine_in x) C p ≡ take (size p) (x.engine p)
  unfolding engine_in
  stays-own p e = e

  lent-as : has_lengths c.ask (lent_lengths C) (length (take c.output x.outputs)) ≡ has_lengths c.ask c.lengths c.output
  unfolding own_call fed
  lent-as = ap (λ (d : Call). has_lengths d.ask d.lengths d.output) (own-fed c x f)

  -- 1 leaves what was lent
  one_left : has_lengths c.ask c.lengths c.output ≡ false → (buffers.effect_of (engine_in x) C).left ≡ lent_engine C (engine_in x)
  unfolding untouched own_call
  one_left w = ap (λ (e : Effect). e.left) (one-untouched h C (lent-as ∙ w))

  wrong-left : (p : Part) → has_lengths c.ask c.lengths c.output ≡ false → PartLeft p
  wrong-left p w =
      same (put_back p (sym (ap (λ (e : Effect). e.left p) (own-effect c x f)) ∙ ap (λ (z : Engine). z p) (one_left w ∙ own-lent c x f))) (stays-own p (every.stays h C (one_left w) p))

  unlent-same : (p : Part) → is_lent p (lent_to c.ask) ≡ false → PartLeft p
  unfolding effect_of left_by engine_in own_call
  unlent-same p a = same (put_back p (unlent-left c.ask (λ (p : Part). take (c.lengths p) (x.engine p)) (take c.output x.outputs) p a)) (rw a)

  right-left : (p : Part) → is_lent p (lent_to c.ask) ≡ true → has_lengths c.ask c.lengths c.output ≡ true → PartLeft p
  unfolding own_call
  right-left p a b = mine ((on (lent-so c) b).parts p a) (left_as h C (lent-as ∙ b) p a ∙ ap (λ (e : Effect). e.left p) (own-effect c x f))

  part_left : (p : Part) → PartLeft p
  part_left p = by (is_lent p (lent_to c.ask)) refl (has_lengths c.ask c.lengths c.output) refl
    where
      by : (a : Bool) → is_lent p (lent_to c.ask) ≡ a → (b : Bool) → has_lengths c.ask c.lengths c.output ≡ b → PartLeft p
      by true a true b = right-left p a b
      by true a false b = wrong-left p b
      by false a b e = unlent-same p a

  -- as many numbers as the engine's own
  mine-long : (p : Part) → left_by (engine_in x) C p ≡ E.left p → length (E.left p) ≡ length (take (size p) (x.engine p))
  unfolding engine_in
  mine-long p e = ap length (sym e) ∙ engine-long left-holds p ∙ sym (engine-long h p)

  left_is : (p : Part) → engine_in (call_left c x) p ≡ left_by (engine_in x) C p
  unfolding engine_in call_left
  left_is p = by (part_left p)
    where
      by : PartLeft p → engine_in (call_left c x) p ≡ left_by (engine_in x) C p
      by (same e q) = ap (take (size p)) e ∙ sym q
      by (mine n q) = ap (λ (i : ℕ). take (size p) (E.left p ++ drop i (x.engine p))) n ∙ front-take (size p) (E.left p) (x.engine p) (mine-long p q) ∙ sym q

  beyond-is : (p : Part) → drop (size p) ((call_left c x).engine p) ≡ drop (size p) (x.engine p)
  unfolding call_left
  beyond-is p = by (part_left p)
    where
      by : PartLeft p → drop (size p) ((call_left c x).engine p) ≡ drop (size p) (x.engine p)
      by (same e q) = ap (drop (size p)) e
      by (mine n q) = ap (λ (i : ℕ). drop (size p) (E.left p ++ drop i (x.engine p))) n ∙ front-drop (size p) (E.left p) (x.engine p) (mine-long p q)

  own-part : OwnPart c (calls y c).answer.listing x.outputs
  unfolding calls no room_of
  own-part = by (has_lengths c.ask c.lengths c.output) refl (asked-within h c.ask)
    where
      by : (b : Bool) → has_lengths c.ask c.lengths c.output ≡ b → InPart c.ask (machine.asked_of_machine y c.ask).answer.listing
          → OwnPart c (cond b (machine.asked_of_machine y c.ask) (turn y (no 1 0 0 as_lent))).answer.listing x.outputs
      by true b (nothing e) = as_lent_lem c _ x.outputs e
      by true b (within n o s) =
          let q : c.output ≡ n = (on (lent-so c) b).output n o in
          in-own c _ x.outputs f.output f.own (rw q s)
      by false b i = as_lent_lem c _ x.outputs refl

  -- 01, Rule machine: one call of a row
  pub done : Done y c x
  unfolding call_left part_shown own_call
  done = record {
    answer = sym (ap (λ (e : Effect). e.answer) (own-effect c x f)) ∙ goes.answer ∙ ap (λ (t : Turn Machine). t.answer) turned;
    long = own-part.long;
    listed =
        ap (λ (s : List ℕ). s ++ drop c.output x.outputs)
        (sym (ap (λ (e : Effect). e.output) (own-effect c x f)) ∙ goes.output ∙ ap (λ (t : Turn Machine). shown t.answer.listing (take c.output x.outputs)) turned)
        ∙ own-part.listed;
    holds = holds_same left_is left-holds;
    beyond = beyond-is;
  }
