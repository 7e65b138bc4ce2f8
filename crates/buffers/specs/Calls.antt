-- Lists of calls on one engine, by its buffers (01, State and rule machine). Definitions only.
use Rattle.std.specs.Prelude.{◌≡◌, cond, List, [], ◌∷◌, ℕ, length}
use Rattle.std.proofs.Math.Option.{some}
use Rattle.machine.specs.Machine.{Answer, Held, Good, Machine, closed, holding, Ask, Part, size, lent_to, is_lent, Call}
use Rattle.buffers.specs.Held.{model_bytes, held_in}
use Rattle.buffers.specs.Listing.{shown}
use Rattle.buffers.specs.Parts.{Cell, Engine, fresh, numbers_of}
use Rattle.buffers.specs.Effect.{Effect, effect}

-- 01, Opening a text, 1: a call lends the engine's own buffer, or another of a wrong length, whatever it holds
pub data Lending (A : Type 0) (right : ℕ) : Type 0 where
  own : Lending A right
  other : (l : List A) → (length l ≡ right → ⊥) → Lending A right

-- the buffer that is lent, where l is the engine's own
unfoldable pub lent_buffer : {A : Type 0} {right : ℕ} → Lending A right → List A → List A
lent_buffer own l = l
lent_buffer (other k w) l = k

-- 01, Rule machine: its length; the engine's own have theirs
unfoldable pub lent_length : {A : Type 0} {right : ℕ} → Lending A right → ℕ
lent_length {A} {right} own = right
lent_length (other k w) = length k

-- the engine's own buffer after a call that left this in the lent one
unfoldable pub own_buffer : {A : Type 0} {right : ℕ} → Lending A right → List A → List A → List A
own_buffer own l left = left
own_buffer (other k w) l left = l

-- 01, Rule machine: one call: what is asked, what is lent of the engine, and an output buffer of any length and contents
pub record BufferCall : Type 0 where
  pub ask : Ask
  pub lending : (p : Part) → Lending (Cell p) (size p)
  pub output : List ℕ

-- the engine's own are lent
abbrev pub asks : Ask → List ℕ → BufferCall
asks k l = record { ask = k; lending = λ (p : Part). own; output = l }

-- what it lends, each buffer in its part
unfoldable pub lent_engine : BufferCall → Engine → Engine
lent_engine c x = λ (p : Part). lent_buffer (c.lending p) (x p)

-- what a call answers, and leaves in the buffers that are lent
unfoldable pub effect_of : Engine → BufferCall → Effect
effect_of x c = effect c.ask (lent_engine c x) c.output

-- 01, State: the engine that it leaves for the next call; what is not lent is as it was
unfoldable pub left_by : Engine → BufferCall → Engine
left_by x c = λ (p : Part). cond (is_lent p (lent_to c.ask)) (own_buffer (c.lending p) (x p) ((effect_of x c).left p)) (x p)

-- 01, Rule machine: the lengths of the parts that are lent
unfoldable pub lent_lengths : BufferCall → Part → ℕ
lent_lengths c = λ (p : Part). lent_length (c.lending p)

-- 01, Rule machine: the same call as the machine is fed it: texts, draws, and the lengths of all that is lent
unfoldable pub fed : BufferCall → Call
fed c = record { ask = c.ask; lengths = lent_lengths c; output = length c.output }

-- 01, Rule machine: what each of a list of calls answers and leaves, in order
unfoldable pub effects : Engine → List BufferCall → List Effect
effects x [] = []
effects x (c ∷ cs) = effect_of x c ∷ effects (left_by x c) cs

-- 01, State: the engine after a list of calls
unfoldable pub engine_after : Engine → List BufferCall → Engine
engine_after x [] = x
engine_after x (c ∷ cs) = engine_after (left_by x c) cs

-- ---- what the theorem says

-- 01, State: the buffers hold the machine, number for number: zeros where it is closed; else the bytes of a text that holds its model, and the numbers of all that is held
pub data Holds (x : Engine) : Machine → Type 0 where
  zeros : ((p : Part) → x p ≡ fresh p) → Holds x closed
  held : {h : Held} (text : List ℕ) → held_in (model_bytes text) ≡ some h.model → ((p : Part) → x p ≡ numbers_of (model_bytes text) h p) → Good h → Holds x (holding h)

-- 01, Rule machine: the answers are the machine's, and each output is as the answer says
pub data Answered : List BufferCall → List Effect → List Answer → Type 0 where
  none : Answered [] [] []
  one : {c : BufferCall} {cs : List BufferCall} {e : Effect} {es : List Effect} {a : Answer} {bs : List Answer}
      → e.answer ≡ a → e.output ≡ shown a.listing c.output → Answered cs es bs → Answered (c ∷ cs) (e ∷ es) (a ∷ bs)
