-- Every list of calls on the fresh engine's buffers answers and leaves what the rule machine does: one argument for all requests, one for openings, then by induction on the calls.
use mathlib.Core.Path.{◌≡◌, refl, sym, ap, ◌∙◌}
use mathlib.Core.Bool.{Bool, true, false, cond}
use mathlib.Core.List.{List, [], ◌∷◌, map}
use mathlib.Core.Option.{some}
use Prim.Native.Nat.{ℕ}
use native.Mathlib.Omega.{arith}
use lib.IntN.{pos}
use lib.ListN.{length, length-replicate}
use Rattle.clock.proofs.Bringing.{both-in}
use Rattle.model.specs.Resolved
use Rattle.model.specs.Opening.{Opening, refused, opened, opening}
use Rattle.profile.specs.Opening.{opening_steady}
use Rattle.profile.proofs.Opened.{opened-plain}
use Rattle.model.specs.Good.{GoodModel}
use Rattle.model.proofs.Held.{opened-held}
use Rattle.model.proofs.Opened as formed
use Rattle.machine.specs.State.{state_length, state_numbers}
use Rattle.machine.specs.Machine.{model_length, Shown, as_lent, Answer, no, Turn, turn, Held, Good, Machine, closed, holding, Request, Ask, open', open_steady', on', acts, Part, model, state, saves, clock, size, lent_to, uses, is_lent, has_lengths, opens, on_machine, asked_of_machine, calls, answers, after, search, search_length, asked_of_machine}
use Rattle.machine.specs.Saves.{saves_length}
use Rattle.machine.proofs.Numbers.{state-length}
use Rattle.machine.proofs.Keeps.{opened-good, acts-good, same-model}
use Rattle.machine.proofs.Lent.{lent-all}
use Rattle.state.specs.Fits.{scopes_of}
use Rattle.state.specs.Decode.{decode}
use Rattle.state.proofs.Over.{good-fits, few-scopes}
use Rattle.state.proofs.Image.{numbers-pass, decode-back}
use Rattle.saves.specs.Places.{saves_numbers, saves_in}
use Rattle.saves.proofs.Over.{saves-fit}
use Rattle.saves.proofs.Places.{saves-length, saves-pass, saves-back}
use Rattle.underway.specs.Buffer.{search_numbers, search_in}
use Rattle.underway.proofs.Buffer.{search-length, search-pass, search-back}
use Rattle.buffers.specs.Held.{model_bytes, held_in}
use Rattle.buffers.specs.Listing.{shown}
use Rattle.buffers.specs.Parts.{Cell, Engine, clock_numbers, clock_in, fresh, numbers_of, is_part, read_held}
use Rattle.buffers.specs.Effect.{Effect, machine_over, machine_in, untouched, opens_with, left_in, leaves, requested, answered, effect}
use Rattle.buffers.specs.Calls.{Lending, own, own_buffer, BufferCall, lent_engine, effect_of, left_by, lent_lengths, fed, effects, engine_after, Holds, zeros, held, Answered, none, one}
use Rattle.buffers.proofs.Held.{bytes-length, length-in, text-held, passes, held_fits}
use Rattle.buffers.proofs.Machines.{fresh-closed}
use Rattle.buffers.proofs.Local.{content, Agree, local, model-lent}
use Rattle.buffers.proofs.Lent.{lent-long, kept, own-lent, own-left, all_own}

-- ---- laws of each buffer, one clause for each

module _ (text : List ℕ) (h : Held) (m : held_in (model_bytes text) ≡ some h.model) (g : Good h) where
  good : GoodModel h.model
  good = held_fits (model_bytes text) h.model m

  held-long : (p : Part) → length (numbers_of (model_bytes text) h p) ≡ size p
  unfolding numbers_of
  held-long model = bytes-length text (omega (arith, (passes (model_bytes text) h.model m).short, length-in text))
  held-long state = state-length h.model good h.state g.state
  held-long saves = saves-length (scopes_of h.model) (few-scopes h.model good) h.model.channels h.saves (saves-fit h.model good h.saves g.saves)
  held-long clock = refl
  held-long search = search-length h.model good h.search g.search

  part-passes : (p : Part) → is_part h.model p (numbers_of (model_bytes text) h p) ≡ true
  unfolding numbers_of is_part
  part-passes model = refl
  part-passes state = numbers-pass (scopes_of h.model) (few-scopes h.model good) h.model.channels h.state (good-fits h.model h.state good g.state)
  part-passes saves = saves-pass (scopes_of h.model) (few-scopes h.model good) h.model.channels h.saves (saves-fit h.model good h.saves g.saves)
  part-passes clock = sym (both-in h.clock g.clock.ticks g.clock.draws)
  part-passes search = search-pass h.model good h.search g.search

  -- what is read back of the parts that are lent
  read_back : (ps : List Part) (x : Engine) → ((p : Part) → is_lent p ps ≡ true → x p ≡ numbers_of (model_bytes text) h p) → Agree ps (read_held h.model ps x) h
  unfolding read_held content numbers_of
  read_back ps x e model l = refl
  read_back ps x e state l =
      rw l
      (ap (decode (scopes_of h.model)) (e state l)
      ∙ decode-back (scopes_of h.model) (few-scopes h.model good) h.model.channels h.state (good-fits h.model h.state good g.state))
  read_back ps x e saves l =
      rw l
      (ap (saves_in (scopes_of h.model)) (e saves l)
      ∙ saves-back (scopes_of h.model) (few-scopes h.model good) h.model.channels h.saves (saves-fit h.model good h.saves g.saves))
  read_back ps x e clock l = rw l (ap clock_in (e clock l))
  read_back ps x e search l = rw l (ap (search_in h.model) (e search l) ∙ search-back h.model good h.search g.search)

fresh-long : (p : Part) → length (fresh p) ≡ size p
unfolding fresh
fresh-long model = length-replicate {A = ℕ} model_length 0
fresh-long state = length-replicate state_length (pos 0)
fresh-long saves = length-replicate saves_length (pos 0)
fresh-long clock = refl
fresh-long search = length-replicate search_length (pos 0)

numbers-agree : (bytes bytes' : List ℕ) (h k : Held) → bytes ≡ bytes' → (p : Part) → content p h ≡ content p k → numbers_of bytes h p ≡ numbers_of bytes' k p
unfolding numbers_of content
numbers-agree bytes bytes' h k b model e = b
numbers-agree bytes bytes' h k b state e = ap state_numbers e
numbers-agree bytes bytes' h k b saves e = ap saves_numbers e
numbers-agree bytes bytes' h k b clock e = ap clock_numbers e
numbers-agree bytes bytes' h k b search e = ap search_numbers e

pub all-lent : (text : List ℕ) (p : Part) → is_lent p (lent_to (open' text)) ≡ true
unfolding is_lent
all-lent text model = refl
all-lent text state = refl
all-lent text saves = refl
all-lent text clock = refl
all-lent text search = refl

-- ---- engines

pub engine-long : {x : Engine} {y : Machine} → Holds x y → (p : Part) → length (x p) ≡ size p
engine-long (zeros e) p = ap length (e p) ∙ fresh-long p
engine-long (held {h} text m e g) p = ap length (e p) ∙ held-long text h m g p

pub holds_same : {x x' : Engine} {y : Machine} → ((p : Part) → x' p ≡ x p) → Holds x y → Holds x' y
holds_same q (zeros e) = zeros (λ p. q p ∙ e p)
holds_same q (held text m e g) = held text m (λ p. q p ∙ e p) g

same_cond : {A : Type 0} (b : Bool) (x y : A) → (b ≡ true → x ≡ y) → cond b x y ≡ y
same_cond true x y e = e refl
same_cond false x y e = refl

-- ---- one call

-- a call does to the engine what it does to the machine
pub record Goes (x : Engine) (y : Machine) (c : BufferCall) : Type 0 where
  pub answer : (effect_of x c).answer ≡ (calls y (fed c)).answer
  pub output : (effect_of x c).output ≡ shown (calls y (fed c)).answer.listing c.output
  pub left : Holds (left_by x c) (calls y (fed c)).machine

module _ {x : Engine} {y : Machine} (h : Holds x y) (c : BufferCall) where
  abbrev k : Ask
  k = c.ask

  abbrev ps : List Part
  ps = lent_to c.ask

  abbrev X : Engine
  X = lent_engine c x

  lengths : has_lengths k (λ (p : Part). length (X p)) (length c.output) ≡ has_lengths k (lent_lengths c) (length c.output)
  unfolding lent_engine lent_lengths
  lengths = ap (λ (l : Part → ℕ). has_lengths k l (length c.output)) (λ i p. lent-long (c.lending p) (x p) (engine-long h p) i)

  goes : (e : Effect) (t : Turn Machine) → effect_of x c ≡ e → calls y (fed c) ≡ t → e.answer ≡ t.answer → e.output ≡ shown t.answer.listing c.output
      → Holds (λ (p : Part). cond (is_lent p ps) (own_buffer (c.lending p) (x p) (e.left p)) (x p)) t.machine → Goes x y c
  unfolding left_by
  goes e t p q a l w = record {
    answer = rw (p, q) a;
    output = rw (p, q) l;
    left = rw q (holds_same (λ s. ap (λ (e : Effect). cond (is_lent s ps) (own_buffer (c.lending s) (x s) (e.left s)) (x s)) p) w);
  }

  -- a buffer that is left as it was lent
  same_left : (e : Effect) → e.left ≡ X → (p : Part) → cond (is_lent p ps) (own_buffer (c.lending p) (x p) (e.left p)) (x p) ≡ x p
  unfolding lent_engine
  same_left e q p = same_cond (is_lent p ps) _ (x p) (λ t. ap (λ (z : Engine). own_buffer (c.lending p) (x p) (z p)) q ∙ kept (c.lending p) (x p))

  pub stays : (effect_of x c).left ≡ X → (p : Part) → left_by x c p ≡ x p
  unfolding left_by
  stays q p = same_left (effect_of x c) q p

  -- refused under 1 or 11: nothing is changed
  unchanged : (e : Effect) (a : Answer) → effect_of x c ≡ e → e.answer ≡ a → e.left ≡ X → e.output ≡ c.output → calls y (fed c) ≡ turn y a → a.listing ≡ as_lent → Goes x y c
  unfolding shown
  unchanged e a p b l o q w = goes e (turn y a) p q b (o ∙ ap (λ (s : Shown). shown s c.output) (sym w)) (holds_same (same_left e l) h)

  -- wrong lengths
  pub one-untouched : has_lengths k (lent_lengths c) (length c.output) ≡ false → effect_of x c ≡ untouched X c.output
  unfolding effect_of effect
  one-untouched w = rw (lengths, w)

  wrong-goes : has_lengths k (lent_lengths c) (length c.output) ≡ false → Goes x y c
  unfolding calls fed untouched no
  wrong-goes w = unchanged (untouched X c.output) (no 1 0 0 as_lent) (one-untouched w) refl refl refl (rw w) refl

  -- right lengths
  module _ (w : has_lengths k (lent_lengths c) (length c.output) ≡ true) where
    own_at : (p : Part) → is_lent p ps ≡ true → c.lending p ≡ own
    unfolding lent_lengths
    own_at = all_own k c.lending (length c.output) w

    pub own-engine : (p : Part) → is_lent p ps ≡ true → X p ≡ x p
    unfolding lent_engine
    own-engine p l = own-lent (c.lending p) (x p) (own_at p l)

    pub left-lent : (z : Engine) (p : Part) → is_lent p ps ≡ true → cond (is_lent p ps) (own_buffer (c.lending p) (x p) (z p)) (x p) ≡ z p
    left-lent z p l = rw l (own-left (c.lending p) (x p) (z p) (own_at p l))

    pub left_as : (p : Part) → is_lent p ps ≡ true → left_by x c p ≡ (effect_of x c).left p
    unfolding left_by
    left_as p l = left-lent (effect_of x c).left p l

    pub asks-all : effect_of x c ≡ answered k X c.output
    unfolding effect_of effect
    asks-all = rw (lengths, w)

    turns : calls y (fed c) ≡ asked_of_machine y k
    unfolding calls fed
    turns = rw w

-- ---- openings

-- a call that opens a text with this answer: a model that is opened is the one that a plain opening opens
pub record IsOpening (k : Ask) (text : List ℕ) (o : Opening) : Type 0 where
  pub lent : (p : Part) → is_lent p (lent_to k) ≡ true
  pub effect_is : (x : Engine) (l : List ℕ) → answered k x l ≡ opens_with text o l
  pub turn_is : (y : Machine) → asked_of_machine y k ≡ opens o
  pub plain : (m : Resolved.Model) → o ≡ opened m → opening text ≡ opened m

pub plainly : (text : List ℕ) → IsOpening (open' text) text (opening text)
unfolding answered asked_of_machine
plainly text = record { lent = all-lent text; effect_is = λ x l. refl; turn_is = λ y. refl; plain = λ m e. e }

-- 02, note 11
pub steadily : (text : List ℕ) → IsOpening (open_steady' text) text (opening_steady text)
unfolding answered asked_of_machine
steadily text = record { lent = all-lent text; effect_is = λ x l. refl; turn_is = λ y. refl; plain = opened-plain text }

open-holds : (text : List ℕ) (o : Opening) (l : List ℕ) (z : Engine) → ((m : Resolved.Model) → o ≡ opened m → opening text ≡ opened m) → ((p : Part) → z p ≡ (opens_with text o l).left p) → Holds z (opens o).machine
unfolding opens_with opens
open-holds text (refused n p) l z f q = zeros q
open-holds text (opened m) l z f q =
    let e = f m refl in
    held text (text-held text m (opened-held text m e)) q (opened-good m (formed.opened-good text m e) (formed.opened-few text m e))

open-answers : (text : List ℕ) (o : Opening) (l : List ℕ) → ((opens_with text o l).answer ≡ (opens o).answer) × ((opens_with text o l).output ≡ shown (opens o).answer.listing l)
unfolding opens_with opens shown no
open-answers text (refused n p) l = (refl, refl)
open-answers text (opened m) l = (refl, refl)

-- ---- requests

module _ (r : Request) (x : Engine) (h : Held) (text : List ℕ) (m : held_in (model_bytes text) ≡ some h.model) (g : Good h) where
  -- the lent buffers hold what the machine holds, in the parts that are lent
  module _ (q : (p : Part) → is_lent p (uses r) ≡ true → x p ≡ numbers_of (model_bytes text) h p) where
    abbrev H : Held
    H = read_held h.model (uses r) x

    found : machine_in (uses r) x ≡ holding H
    unfolding machine_in machine_over numbers_of
    found =
        ap (machine_over (uses r) x) (ap held_in (q model (model-lent r)) ∙ m)
        ∙ ap (λ (b : Bool). cond b (holding H) closed)
        (lent-all (λ (p : Part). is_part h.model p (x p)) (uses r) (λ p l. ap (is_part h.model p) (q p l) ∙ part-passes text h m g p))

    agrees : Agree (uses r) H h
    agrees = read_back text h m g (uses r) x q

    answers-same : (acts r H).answer ≡ (acts r h).answer
    answers-same = (local r).answer H h agrees

    numbers_after : (p : Part) → is_lent p (uses r) ≡ true → numbers_of (x model) (acts r H).machine p ≡ numbers_of (model_bytes text) (acts r h).machine p
    unfolding numbers_of
    numbers_after p l = numbers-agree (x model) (model_bytes text) (acts r H).machine (acts r h).machine (q model (model-lent r)) p ((local r).writes H h agrees p l)

  numbers-kept : (p : Part) → is_lent p (uses r) ≡ false → numbers_of (model_bytes text) h p ≡ numbers_of (model_bytes text) (acts r h).machine p
  numbers-kept p l = numbers-agree (model_bytes text) (model_bytes text) h (acts r h).machine refl p (sym ((local r).keeps h p l))

-- ---- one call

abbrev pub make : Ask → ((p : Part) → Lending (Cell p) (size p)) → List ℕ → BufferCall
make k a l = record { ask = k; lending = a; output = l }

-- what a request of right lengths leaves, where h is held
pub record Turns (x : Engine) (h : Held) (r : Request) (a : (p : Part) → Lending (Cell p) (size p)) (l : List ℕ) : Type 0 where
  pub bytes : List ℕ
  pub before : (p : Part) → x p ≡ numbers_of bytes h p
  pub answer : (effect_of x (make (on' r) a l)).answer ≡ (acts r h).answer
  pub output : (effect_of x (make (on' r) a l)).output ≡ shown (acts r h).answer.listing l
  pub lent : (p : Part) → is_lent p (uses r) ≡ true → (effect_of x (make (on' r) a l)).left p ≡ numbers_of bytes (acts r h).machine p
  pub unlent : (p : Part) → is_lent p (uses r) ≡ false → (effect_of x (make (on' r) a l)).left p ≡ lent_engine (make (on' r) a l) x p
  pub left : (p : Part) → left_by x (make (on' r) a l) p ≡ numbers_of bytes (acts r h).machine p

module _ {x : Engine} (a : (p : Part) → Lending (Cell p) (size p)) (l : List ℕ) (r : Request) (w : has_lengths (on' r) (lent_lengths (make (on' r) a l)) (length l) ≡ true)
    (h : Held) (text : List ℕ) (m : held_in (model_bytes text) ≡ some h.model) (e : (p : Part) → x p ≡ numbers_of (model_bytes text) h p) (g : Good h) where
  abbrev C : BufferCall
  C = make (on' r) a l

  abbrev Z : Engine
  Z = lent_engine C x

  abbrev K : Held
  K = read_held h.model (uses r) Z

  lent-numbers : (p : Part) → is_lent p (uses r) ≡ true → Z p ≡ numbers_of (model_bytes text) h p
  lent-numbers p t = own-engine (held text m e g) C w p t ∙ e p

  left-numbers : (p : Part) → cond (is_lent p (uses r)) (own_buffer (a p) (x p) (left_in (uses r) Z (holding (acts r K).machine) p)) (x p) ≡ numbers_of (model_bytes text) (acts r h).machine p
  unfolding left_in
  left-numbers p = by (is_lent p (uses r)) refl
    where
      by : (t : Bool) → is_lent p (uses r) ≡ t
          → cond (is_lent p (uses r)) (own_buffer (a p) (x p) (left_in (uses r) Z (holding (acts r K).machine) p)) (x p) ≡ numbers_of (model_bytes text) (acts r h).machine p
      by true t = left-lent (held text m e g) C w (left_in (uses r) Z (holding (acts r K).machine)) p t ∙ rw t (numbers_after r Z h text m g lent-numbers p t)
      by false t = rw t (e p ∙ numbers-kept r Z h text m g p t)

  effect_is : effect_of x C ≡ leaves (uses r) Z l (on_machine r (holding K))
  unfolding answered requested machine_in
  effect_is = asks-all (held text m e g) C w ∙ ap (λ (y : Machine). leaves (uses r) Z l (on_machine r y)) (found r Z h text m g lent-numbers)

  turned : Goes x (holding h) C
  unfolding asked_of_machine on_machine leaves
  turned =
      let same = answers-same r Z h text m g lent-numbers in
      goes (held text m e g) C (leaves (uses r) Z l (on_machine r (holding K))) (on_machine r (holding h)) effect_is (turns (held text m e g) C w) same
      (ap (λ (a : Answer). shown a.listing l) same)
      (held text (m ∙ ap some (sym (same-model r h))) left-numbers (acts-good r h (good text h m g) g))

  turns-so : Turns x h r a l
  unfolding on_machine leaves left_in left_by
  turns-so =
      let same = answers-same r Z h text m g lent-numbers in
      record {
        bytes = model_bytes text;
        before = e;
        answer = ap (λ (e : Effect). e.answer) effect_is ∙ same;
        output = ap (λ (e : Effect). e.output) effect_is ∙ ap (λ (a : Answer). shown a.listing l) same;
        lent = λ p t. ap (λ (e : Effect). e.left p) effect_is ∙ rw t (numbers_after r Z h text m g lent-numbers p t);
        unlent = λ p t. ap (λ (e : Effect). e.left p) effect_is ∙ rw t refl;
        left = λ p. ap (λ (e : Effect). cond (is_lent p (uses r)) (own_buffer (a p) (x p) (e.left p)) (x p)) effect_is ∙ left-numbers p;
      }

module _ {x : Engine} {y : Machine} (b : Holds x y) (a : (p : Part) → Lending (Cell p) (size p)) (l : List ℕ) where
  open-goes : (k : Ask) (text : List ℕ) (o : Opening) → IsOpening k text o → has_lengths k (lent_lengths (make k a l)) (length l) ≡ true → Goes x y (make k a l)
  open-goes k text o i w =
      let c = make k a l in
      let r = open-answers text o l in
      goes b c (opens_with text o l) (opens o) (asks-all b c w ∙ i.effect_is _ l) (turns b c w ∙ i.turn_is y) r.0 r.1
      (open-holds text o l _ i.plain (λ p. left-lent b c w (opens_with text o l).left p (i.lent p)))

  -- 11
  pub shut : {y : Machine} → Holds x y → y ≡ closed → (r : Request) → has_lengths (on' r) (lent_lengths (make (on' r) a l)) (length l) ≡ true
      → effect_of x (make (on' r) a l) ≡ leaves (uses r) (lent_engine (make (on' r) a l) x) l (on_machine r closed)
  unfolding answered requested machine_in
  shut (zeros e) q r w =
      let c = make (on' r) a l in
      asks-all (zeros e) c w
      ∙ ap (λ (y : Machine). leaves (uses r) (lent_engine c x) l (on_machine r y)) (fresh-closed (uses r) (lent_engine c x) (own-engine (zeros e) c w model (model-lent r) ∙ e model))
  shut (held text m e g) q r w = absurd (let z : ◌≡◌ {A = ℕ} 0 1 = cc in omega arith)

  pub request-turns : {y : Machine} → Holds x y → (h : Held) → y ≡ holding h → (r : Request) → has_lengths (on' r) (lent_lengths (make (on' r) a l)) (length l) ≡ true → Turns x h r a l
  request-turns (zeros e) h q r w = absurd (let z : ◌≡◌ {A = ℕ} 0 1 = cc in omega arith)
  request-turns (held {h = k} text m e g) h q r w = let n : k ≡ h = cc in rw (← n) (turns-so a l r w k text m e g)

  request-goes : (r : Request) → has_lengths (on' r) (lent_lengths (make (on' r) a l)) (length l) ≡ true → Goes x y (make (on' r) a l)
  unfolding asked_of_machine on_machine leaves left_in shown no
  request-goes r w = by b
    where
      c : BufferCall
      c = make (on' r) a l

      by : {y : Machine} → Holds x y → Goes x y c
      by (zeros e) = unchanged (zeros e) c (leaves (uses r) (lent_engine c x) l (on_machine r closed)) (no 11 0 0 as_lent) (shut (zeros e) refl r w) refl refl refl (turns (zeros e) c w) refl
      by (held {h} text m e g) = turned a l r w h text m e g

  call_at : (k : Ask) → Goes x y (make k a l)
  call_at k = by k (has_lengths k (lent_lengths (make k a l)) (length l)) refl
    where
      by : (k : Ask) (t : Bool) → has_lengths k (lent_lengths (make k a l)) (length l) ≡ t → Goes x y (make k a l)
      by (open' text) true w = open-goes (open' text) text (opening text) (plainly text) w
      by (open_steady' text) true w = open-goes (open_steady' text) text (opening_steady text) (steadily text) w
      by (on' r) true w = request-goes r w
      by k false w = wrong-goes b (make k a l) w

pub call-goes : {x : Engine} {y : Machine} → Holds x y → (c : BufferCall) → Goes x y c
call-goes b c = call_at b c.lending c.output c.ask

-- ---- every list

from-any : (x : Engine) (y : Machine) → Holds x y → (cs : List BufferCall) → Answered cs (effects x cs) (answers y (map fed cs)) × Holds (engine_after x cs) (after y (map fed cs))
unfolding effects answers engine_after after
from-any x y h [] = (none, h)
from-any x y h (c ∷ cs) =
    let g = call-goes h c in
    let r = from-any (left_by x c) (calls y (fed c)).machine g.left cs in
    (one g.answer g.output r.0, r.1)

-- 01, State and rule machine: on the fresh engine's buffers every list of calls answers, shows and leaves what the rule machine does
pub every-list : (cs : List BufferCall) → Answered cs (effects fresh cs) (answers closed (map fed cs)) × Holds (engine_after fresh cs) (after closed (map fed cs))
every-list cs = from-any fresh closed (zeros (λ p. refl)) cs
