-- After any list of calls, an accepted list call shows just the derivable transitions of the state that the buffers hold, draws weigh them, steps draw from them and move by the rules,
-- and a report shares their weights among the definitions.
-- From the theorem over every list of calls, and the rule machine's own of listings and steps.
use mathlib.Core.Path.{◌≡◌, refl, sym, ap, ap₂, ◌∙◌}
use mathlib.Core.Bool.{Bool, true, ◌&&◌}
use mathlib.Core.List.{List, map}
use mathlib.Core.Option.{Option, some, Option-elim}
use Prim.Native.Nat.{ℕ}
use native.Mathlib.Omega.{arith}
use borrow.Author.Tests.{eq-eqb}
use lib.Dec.{eqb}
use lib.ListN.{length, get_or}
use Rattle.model.specs.Resolved
use Rattle.model.specs.Held as held
use Rattle.model.specs.Good.{GoodModel}
use Rattle.rules.specs.Listing.{Entry, weight_of}
use Rattle.rules.specs.Draw.{weights, total}
use Rattle.rules.proofs.Chosen.{chooses-first}
use Rattle.machine.specs.State.{State, state_numbers, GoodProcess, GoodState}
use Rattle.machine.specs.Report.{report_length, report_of}
use Rattle.machine.specs.Machine.{listing_length, Shown, filled, as_lent, Answer, no, listed_as, reported_as, Listed, entries_are, Turn, drawn, showing, lists, sharing, reports, choosing, steps_with, Held, moved, Machine, closed, holding, on_state}
use Rattle.machine.specs.Machine.{Request, list', step', report', Ask, on', acts, Part, model, state, saves, clock, search, size, lent_to, output_of, uses, is_lent, all_parts, has_lengths, on_machine, after}
use Rattle.machine.specs.Machine as machine
use Rattle.machine.specs.Questions.{Lists, no12, no13, no14, yes14, Steps, no15, no16, no17, no18, no19, yes19}
use Rattle.machine.proofs.Everys.{every-nth}
use Rattle.machine.proofs.Lent.{lent-all}
use Rattle.machine.proofs.Listing.{asked, accepted}
use Rattle.machine.proofs.OneListing.{draws-weigh}
use Rattle.machine.proofs.Report.{counted-for, listed-adds-up, report-length, share-is, none-beyond}
use Rattle.machine.proofs.Stepping as step
use Rattle.buffers.specs.Held.{model_bytes}
use Rattle.buffers.specs.Listing.{shown, listing_numbers}
use Rattle.buffers.specs.Parts.{Cell, Engine, fresh, numbers_of, with_state}
use Rattle.buffers.specs.Effect.{Effect, leaves}
use Rattle.buffers.specs.Calls.{Lending, own, lent_length, lent_buffer, BufferCall, asks, lent_engine, effect_of, left_by, lent_lengths, fed, engine_after, Holds, zeros}
use Rattle.buffers.specs.Calls as calls
use Rattle.buffers.specs.Transitions.{Leaves, Takes, Shares, Shows}
use Rattle.buffers.proofs.Held.{passes, text_in_lem, held_fits}
use Rattle.buffers.proofs.Lent.{same-engine}
use Rattle.buffers.proofs.Written.{carries}
use Rattle.buffers.proofs.Every.{make, Turns, shut, request-turns, every-list}

-- ---- a call that lends the engine's own and an output of the right length

pub own-lengths : (k : Ask) (l : List ℕ) (n : ℕ) → output_of k ≡ some n → length l ≡ n → has_lengths k (lent_lengths (asks k l)) (length l) ≡ true
unfolding has_lengths lent_lengths lent_length Option-elim
own-lengths k l n o e =
    ap₂ (λ (a b : Bool). a && b) (lent-all (λ (p : Part). eqb (size p) (size p)) (lent_to k) (λ p t. eq-eqb (size p) (size p) refl))
    (ap (λ (k : Option ℕ). Option-elim k true (eqb (length l))) o ∙ eq-eqb _ _ e)

pub own-turns : {x : Engine} {h : Held} → Holds x (holding h) → (r : Request) (l : List ℕ) (n : ℕ) → output_of (on' r) ≡ some n → length l ≡ n → Turns x h r (λ (p : Part). own) l
own-turns {h = h} b r l n o e = request-turns b (λ (p : Part). own) l b h refl r (own-lengths (on' r) l n o e)

-- what a request leaves of an engine, where it leaves the machine as it was
pub still : {x : Engine} {h : Held} {r : Request} {a : (p : Part) → Lending (Cell p) (size p)} {l : List ℕ} → Turns x h r a l → (acts r h).machine ≡ h → left_by x (make (on' r) a l) ≡ x
still t e = same-engine (λ p. t.left p ∙ ap (λ (k : Held). numbers_of t.bytes k p) e ∙ sym (t.before p))

-- ---- what is listed

-- an accepted list call has a listing
has-entries : (m : Resolved.Model) (s : State) → (lists m s).answer.number ≡ 0 → (es : List Entry) × (machine.listing m s ≡ entries_are es)
unfolding lists showing no
has-entries m s e = by ((asked m s (machine.listing m s)).0 refl) refl e
  where
    by : {k : Listed} → Lists m s k → machine.listing m s ≡ k → (showing s k).answer.number ≡ 0 → (es : List Entry) × (machine.listing m s ≡ entries_are es)
    by (no12 f) q e = absurd (omega arith)
    by (no13 g h l) q e = absurd (omega arith)
    by (no14 g h l f) q e = absurd (omega arith)
    by (yes14 {es = es} g h l f) q e = (es, q)

-- every answer to a draw from a listing shows it
pub fills : {m : Resolved.Model} {s : State} {es : List Entry} {d : ℕ} {t : Turn State} → Steps m s es d t → t.answer.listing ≡ filled es
unfolding listed_as
fills (no15 e) = refl
fills (no16 l k) = refl
fills (no17 o k) = refl
fills (no18 r l) = refl
fills (no19 r l k) = refl
fills (yes19 r l k) = refl

-- an accepted one takes the entry that the draw chooses
accepts : {m : Resolved.Model} {s : State} {es : List Entry} {d : ℕ} {t : Turn State} (e : Effect)
    → Steps m s es d t → t.answer.number ≡ 0 → e.answer ≡ t.answer → e.output ≡ listing_numbers es → e.left state ≡ state_numbers t.machine → Takes m s es d e
unfolding listed_as
accepts e (no15 q) z a l n = absurd (omega arith)
accepts e (no16 q k) z a l n = absurd (omega arith)
accepts e (no17 o k) z a l n = absurd (omega arith)
accepts e (no18 r k) z a l n = absurd (omega arith)
accepts e (no19 r k f) z a l n = absurd (omega arith)
accepts {es = es} {d = d} e (yes19 {c = c} {n = change} {ps = ps} r k f) z a l n =
    record {
      number = c;
      key = r.key;
      weight = r.weight;
      drawn = (chooses-first (weights es) d c).1 r.chosen.first;
      entry = r.chosen;
      given = r.given;
      change = change;
      processes = ps;
      moves = r.moves;
      answer = a;
      listed = l;
      state = n;
    }

module _ {x : Engine} {h : Held} (b : Holds x (holding h)) (es : List Entry) (q : machine.listing h.model h.state ≡ entries_are es) where
  abbrev m : Resolved.Model
  m = h.model

  abbrev s : State
  s = h.state

  -- what a list call leaves
  module _ (l : List ℕ) (long : length l ≡ listing_length) where
    list-turns : Turns x h list' (λ (p : Part). own) l
    list-turns = own-turns b list' l listing_length refl long

    list-answer : (effect_of x (asks (on' list') l)).answer ≡ listed_as 0 0 es
    unfolding acts on_state lists showing
    list-answer = list-turns.answer ∙ ap (λ (k : Listed). (showing s k).answer) q

    list-output : (effect_of x (asks (on' list') l)).output ≡ listing_numbers es
    unfolding acts on_state lists showing shown listed_as
    list-output = list-turns.output ∙ ap (λ (k : Listed). shown (showing s k).answer.listing l) q

    list-stays : left_by x (asks (on' list') l) ≡ x
    unfolding acts on_state lists showing
    list-stays = still list-turns (ap (λ (k : Listed). moved h (showing s k).machine) q)

  -- what a step leaves
  leaving : (l : List ℕ) (d : ℕ) → length l ≡ listing_length → Leaves x m s es d (effect_of x (asks (on' (step' d)) l))
  unfolding acts on_state steps_with choosing numbers_of with_state is_lent lent_engine lent_buffer
  leaving l d long =
      record {
        turn = drawn m s es d;
        asked = a;
        answer = t.answer ∙ ap (λ (k : Listed). (choosing m s d k).answer) q;
        listed = t.output ∙ ap (λ (k : Listed). shown (choosing m s d k).answer.listing l) q ∙ filled-so (drawn m s es d).answer.listing (fills a);
        left = same-engine at;
      }
    where
      a : Steps m s es d (drawn m s es d)
      a = (step.asked m s es ((accepted m s es).0 q).1 d (drawn m s es d)).0 refl

      t : Turns x h (step' d) (λ (p : Part). own) l
      t = own-turns b (step' d) l listing_length refl long

      filled-so : (k : Shown) → k ≡ filled es → shown k l ≡ listing_numbers es
      filled-so k e = unfold shown in ap (λ (k : Shown). shown k l) e

      at : (p : Part) → (effect_of x (asks (on' (step' d)) l)).left p ≡ with_state x (state_numbers (drawn m s es d).machine) p
      at model = t.lent model refl ∙ sym (t.before model)
      at state = t.lent state refl ∙ ap (λ (k : Listed). state_numbers (choosing m s d k).machine) q
      at saves = t.unlent saves refl
      at clock = t.unlent clock refl
      at search = t.unlent search refl

  taking : (l : List ℕ) (d : ℕ) → length l ≡ listing_length → (effect_of x (asks (on' (step' d)) l)).answer.number ≡ 0 → Takes m s es d (effect_of x (asks (on' (step' d)) l))
  unfolding with_state
  taking l d long z =
      let a = leaving l d long in
      accepts (effect_of x (asks (on' (step' d)) l)) a.asked (sym (ap (λ (b : Answer). b.number) a.answer) ∙ z) a.answer a.listed (ap (λ (z : Engine). z state) a.left)

  -- what is shared
  sharing-all : GoodModel m → GoodState m s → (l : List ℕ) → length l ≡ report_length → Shares x m s es l
  unfolding acts on_state reports sharing shown reported_as
  sharing-all good g l long =
      let t = own-turns b report' l report_length refl long in
      let n : (effect_of x (asks (on' report') l)).output ≡ report_of m s es = t.output ∙ ap (λ (k : Listed). shown (sharing m s k).answer.listing l) q in
      record {
        answer = t.answer ∙ ap (λ (k : Listed). (sharing m s k).answer) q;
        stays = still t (ap (λ (k : Listed). moved h (sharing m s k).machine) q);
        numbers = n;
        long = ap length n ∙ report-length m good s g es;
        each = λ d i. ap (λ (ns : List ℕ). get_or ns d 0) n ∙ share-is m good s g es d i;
        beyond = λ d i. ap (λ (ns : List ℕ). get_or ns d 0) n ∙ none-beyond m good s g es d i;
        counts = counted-for m good s g es ((accepted m s es).0 q).1;
        sum = ap total n ∙ listed-adds-up m good s g es q;
      }

-- ---- the theorem

shows : {x : Engine} {y : Machine} → Holds x y → (l : List ℕ) → length l ≡ listing_length → (effect_of x (asks (on' list') l)).answer.number ≡ 0 → Shows x y l
unfolding leaves on_machine acts on_state no listed_as weight_of numbers_of
shows (zeros e) l long z =
    absurd (omega (arith, ap (λ (e : Effect). e.answer.number) (shut (zeros e) (λ (p : Part). own) l (zeros e) refl list' (own-lengths (on' list') l listing_length refl long))))
shows {x} (calls.held {h = h} text b e g) l long z =
    let w : Holds x (holding h) = calls.held text b e g in
    let m : Resolved.Model = h.model in
    let s : State = h.state in
    let r = has-entries m s (sym (ap (λ (a : Answer). a.number) (own-turns w list' l listing_length refl long).answer) ∙ z) in
    let es : List Entry = r.0 in
    let k = (accepted m s es).0 r.1 in
    let t = ap held.held (sym (text_in_lem text)) ∙ (passes (model_bytes text) m b).text in
    record {
      text = text;
      holds = h;
      machine = refl;
      model-buffer = e model;
      text-holds = t;
      state-buffer = e state;
      carried = λ {i} {p} n. carries text m t p (every-nth (GoodProcess m) g.state.processes n);
      entries = es;
      derivable = k.1;
      evaluated = k.0;
      few = k.2;
      bounded = k.3;
      listed = list-output w es r.1 l long;
      stays = list-stays w es r.1 l long;
      number = ap (λ (a : Answer). a.count) (list-answer w es r.1 l long);
      sum = ap (λ (a : Answer). a.total) (list-answer w es r.1 l long);
      draws = λ n. draws-weigh m s es k.1 n;
      steps = leaving w es r.1;
      takes = taking w es r.1;
      shares = sharing-all w es r.1 (held_fits (model_bytes text) m b) g.state;
    }

-- 01, Transitions: what a list call shows after any list of calls on the fresh engine, and what steps from there take
pub after-calls : (cs : List BufferCall) (l : List ℕ)
    → length l ≡ listing_length → (effect_of (engine_after fresh cs) (asks (on' list') l)).answer.number ≡ 0 → Shows (engine_after fresh cs) (after closed (map fed cs)) l
after-calls cs l long z = shows (every-list cs).1 l long z
