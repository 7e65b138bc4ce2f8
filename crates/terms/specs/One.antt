-- Term 1: every text, state and draw, however damaged, is read and carried through exactly as 01 says, or refused under the first of its questions that has the answer no, with the
-- buffers as 01 gives for that number. Definitions only.
use Rattle.std.specs.Prelude.{◌≡◌, List, ℕ, ◌/◌, ◌<◌, length, get_or}
use Rattle.std.proofs.Math.Option.{Option, some}
use Rattle.model.specs.Resolved
use Rattle.model.specs.Held.{held}
use Rattle.model.specs.Opening.{refused, opened}
use Rattle.model.specs.Questions.{Answers}
use Rattle.clock.specs.declared.Clock.{Clock}
use Rattle.clock.specs.Clock.{fresh_clock, InRange}
use Rattle.profile.specs.Opening.{AnswersSteady}
use Rattle.machine.specs.State.{State, state_numbers, GoodState}
use Rattle.machine.specs.Timed.{Timed, timed}
use Rattle.machine.specs.Saves.{Saves, GoodSaves, Stored, saving, returning, forgetting}
use Rattle.machine.specs.Machine as machine
use Rattle.machine.specs.Machine.{event_width, as_lent, Answer, no, Turn, Search, GoodSearching, begins, carries_by, runs_with, Request, list', step', report', search', timed', run', save', return', forget', begin', carry', Ask, open', open_steady', on', Part, model, state, saves, clock, call, opened_state}
use Rattle.machine.specs.Results.{Lent}
use Rattle.saves.specs.Places.{saves_numbers}
use Rattle.underway.specs.Buffer.{search_numbers}
use Rattle.buffers.specs.Held.{model_bytes}
use Rattle.buffers.specs.Parts.{Engine, clock_numbers, fresh, numbers_of}
use Rattle.buffers.specs.Effect.{Effect, effect}
use Rattle.buffers.specs.Answers.{ListsAs, StepsAs, ReportsAs, SearchesAs, TimesAs, stores_as, keeps_as, runs_as, walks_as}

-- 1: what a call is lent has its length: its buffers of the engine x, and its output l
abbrev pub Lengths : Ask → Engine → List ℕ → Type 0
Lengths k x l = Lent (call k (λ (p : Part). length (x p)) (length l))

-- 11: the buffers hold the model m and the state s over it, number for number
pub record Hold (x : Engine) (m : Resolved.Model) (s : State) : Type 0 where
  pub text : List ℕ
  pub bytes : x model ≡ model_bytes text
  pub holds : held text ≡ some m
  pub over : GoodState m s
  pub numbers : x state ≡ state_numbers s

-- an answer, and the buffers after it
abbrev pub left : Answer → Engine → List ℕ → Effect
left a x l = record { answer = a; left = x; output = l }

-- 01, Opening a text: 1 changes nothing; 2 to 10, asked in order, zero the buffers; acceptance fills them
pub data Opens (text : List ℕ) (x : Engine) (l : List ℕ) : Effect → Type 0 where
  no1 : (Lengths (open' text) x l → ⊥) → Opens text x l (left (no 1 0 0 as_lent) x l)
  no10 : {n p : ℕ} → Lengths (open' text) x l → Answers text (refused n p) → Opens text x l (left (no n p 0 as_lent) fresh l)
  yes10 : {m : Resolved.Model} → Lengths (open' text) x l → Answers text (opened m) → Opens text x l (left (no 0 0 0 as_lent) (numbers_of (model_bytes text) (machine.held m (opened_state m))) l)

-- 02, note 11: under the steady profile the same, with 29 after 10; acceptance fills the buffers as an opening without the profile does
pub data OpensSteady (text : List ℕ) (x : Engine) (l : List ℕ) : Effect → Type 0 where
  no1 : (Lengths (open_steady' text) x l → ⊥) → OpensSteady text x l (left (no 1 0 0 as_lent) x l)
  no29 : {n p : ℕ} → Lengths (open_steady' text) x l → AnswersSteady text (refused n p) → OpensSteady text x l (left (no n p 0 as_lent) fresh l)
  yes29 : {m : Resolved.Model} → Lengths (open_steady' text) x l → AnswersSteady text (opened m)
      → OpensSteady text x l (left (no 0 0 0 as_lent) (numbers_of (model_bytes text) (machine.held m (opened_state m))) l)

-- 01, Listing and stepping: 1, then 11, which change nothing, then what the request asks of the model and the state that are held (As); l: the output
pub data Asks (r : Request) (As : Resolved.Model → State → Effect → Type 0) (x : Engine) (l : List ℕ) : Effect → Type 0 where
  no1 : (Lengths (on' r) x l → ⊥) → Asks r As x l (left (no 1 0 0 as_lent) x l)
  no11 : Lengths (on' r) x l → ((m : Resolved.Model) (s : State) → Hold x m s → ⊥) → Asks r As x l (left (no 11 0 0 as_lent) x l)
  yes11 : {m : Resolved.Model} {s : State} {e : Effect} → Lengths (on' r) x l → Hold x m s → As m s e → Asks r As x l e

-- 02, note 2, 11: and the saves buffer holds saves over the model, number for number
pub record HoldSaves (x : Engine) (m : Resolved.Model) (s : State) (ss : Saves) : Type 0 where
  pub hold : Hold x m s
  pub over : GoodSaves m ss
  pub numbers : x saves ≡ saves_numbers ss

-- 02, note 4, 11: the clock is in its range, number for number
pub record HoldClock (x : Engine) (c : Clock) : Type 0 where
  pub range : InRange c
  pub numbers : x clock ≡ clock_numbers c

-- 02, note 4: 1, then 11, which change nothing, then what a timed step asks of the model, the state and the clock that are held
pub data Waits (ds : List ℕ) (d : ℕ) (x : Engine) (l : List ℕ) : Effect → Type 0 where
  no1 : (Lengths (on' (timed' ds d)) x l → ⊥) → Waits ds d x l (left (no 1 0 0 as_lent) x l)
  no11 : Lengths (on' (timed' ds d)) x l → ((m : Resolved.Model) (s : State) (c : Clock) → Hold x m s → HoldClock x c → ⊥) → Waits ds d x l (left (no 11 0 0 as_lent) x l)
  yes11 : {m : Resolved.Model} {s : State} {c : Clock} {e : Effect} → Lengths (on' (timed' ds d)) x l → Hold x m s → HoldClock x c → TimesAs m s x l c ds d e → Waits ds d x l e

-- R.1 to R.7: 1, of the model and the state alone, then 11, which change nothing, then the run from the state and the clock that are held
pub data Runs (ws vs : List ℕ) (n : ℕ) (x : Engine) (l : List ℕ) : Effect → Type 0 where
  no1 : (Lengths (on' (run' ws vs n (length l))) x l → ⊥) → Runs ws vs n x l (left (no 1 0 0 as_lent) x l)
  no11 : Lengths (on' (run' ws vs n (length l))) x l → ((m : Resolved.Model) (s : State) (c : Clock) → Hold x m s → HoldClock x c → ⊥) → Runs ws vs n x l (left (no 11 0 0 as_lent) x l)
  yes11 : {m : Resolved.Model} {s : State} {c : Clock} → Lengths (on' (run' ws vs n (length l))) x l → Hold x m s → HoldClock x c
      → Runs ws vs n x l (runs_as x l (runs_with n (length l / event_width) ws vs m s c))

-- 02, note 10: a search over the model, or none, and the buffer has its numbers
pub record HoldSearch (x : Engine) (m : Resolved.Model) (o : Option Search) : Type 0 where
  pub good : GoodSearching m o
  pub numbers : x machine.search ≡ search_numbers o

-- 02, note 10: 1, then 11, which change nothing, then 26, 28 or what the turn f of the search that is held says
pub data Searching (r : Request) (f : Resolved.Model → State → Option Search → Turn (Option Search)) (x : Engine) (l : List ℕ) : Effect → Type 0 where
  no1 : (Lengths (on' r) x l → ⊥) → Searching r f x l (left (no 1 0 0 as_lent) x l)
  no11 : Lengths (on' r) x l → ((m : Resolved.Model) (s : State) (o : Option Search) → Hold x m s → HoldSearch x m o → ⊥) → Searching r f x l (left (no 11 0 0 as_lent) x l)
  yes11 : {m : Resolved.Model} {s : State} {o : Option Search} → Lengths (on' r) x l → Hold x m s → HoldSearch x m o → Searching r f x l (walks_as x l (f m s o))

-- 02, notes 2 and 4: 1, then 11, which change nothing, then 20 to 22 or acceptance as the turn f of the state, the clock and the saves that are held says
pub data Keeps (r : Request) (f : Timed → Saves → Stored) (x : Engine) (l : List ℕ) : Effect → Type 0 where
  no1 : (Lengths (on' r) x l → ⊥) → Keeps r f x l (left (no 1 0 0 as_lent) x l)
  no11 : Lengths (on' r) x l → ((m : Resolved.Model) (s : State) (ss : Saves) (c : Clock) → HoldSaves x m s ss → HoldClock x c → ⊥) → Keeps r f x l (left (no 11 0 0 as_lent) x l)
  yes11 : {m : Resolved.Model} {s : State} {ss : Saves} {c : Clock} → Lengths (on' r) x l → HoldSaves x m s ss → HoldClock x c → Keeps r f x l (keeps_as x l (f (timed s c) ss))

-- 02, note 2: the same of a forget, which is lent no clock: its turn f reads none
pub data Stores (r : Request) (f : Timed → Saves → Stored) (x : Engine) (l : List ℕ) : Effect → Type 0 where
  no1 : (Lengths (on' r) x l → ⊥) → Stores r f x l (left (no 1 0 0 as_lent) x l)
  no11 : Lengths (on' r) x l → ((m : Resolved.Model) (s : State) (ss : Saves) → HoldSaves x m s ss → ⊥) → Stores r f x l (left (no 11 0 0 as_lent) x l)
  yes11 : {m : Resolved.Model} {s : State} {ss : Saves} → Lengths (on' r) x l → HoldSaves x m s ss → Stores r f x l (stores_as x l (f (timed s fresh_clock) ss))

-- the term; the first number of a model buffer is a byte
pub record TermOne : Type 0 where
  pub opening : (text : List ℕ) (x : Engine) (l : List ℕ) → Opens text x l (effect (open' text) x l)
  pub steady : (text : List ℕ) (x : Engine) (l : List ℕ) → OpensSteady text x l (effect (open_steady' text) x l)
  pub listing : (x : Engine) (l : List ℕ) → get_or (x model) 0 0 < 256 → Asks list' (λ m s. ListsAs m s x l) x l (effect (on' list') x l)
  pub stepping : (x : Engine) (l : List ℕ) (d : ℕ) → get_or (x model) 0 0 < 256 → Asks (step' d) (λ m s. StepsAs m s x l d) x l (effect (on' (step' d)) x l)
  pub reporting : (x : Engine) (l : List ℕ) → get_or (x model) 0 0 < 256 → Asks report' (λ m s. ReportsAs m s x l) x l (effect (on' report') x l)
  pub searching : (x : Engine) (l n : List ℕ) (d : ℕ) → get_or (x model) 0 0 < 256 → Asks (search' n d) (λ m s. SearchesAs m s x l n d) x l (effect (on' (search' n d)) x l)
  pub timing : (x : Engine) (l ds : List ℕ) (d : ℕ) → get_or (x model) 0 0 < 256 → Waits ds d x l (effect (on' (timed' ds d)) x l)
  pub runs : (x : Engine) (l ws vs : List ℕ) (n : ℕ) → get_or (x model) 0 0 < 256 → Runs ws vs n x l (effect (on' (run' ws vs n (length l))) x l)
  pub saves : (x : Engine) (l n : List ℕ) → get_or (x model) 0 0 < 256 → Keeps (save' n) (saving n) x l (effect (on' (save' n)) x l)
  pub returns : (x : Engine) (l n : List ℕ) → get_or (x model) 0 0 < 256 → Keeps (return' n) (returning n) x l (effect (on' (return' n)) x l)
  pub begins : (x : Engine) (l n : List ℕ) (d : ℕ) → get_or (x model) 0 0 < 256 → Searching (begin' n d) (begins n d) x l (effect (on' (begin' n d)) x l)
  pub carries : (x : Engine) (l : List ℕ) (n : ℕ) → get_or (x model) 0 0 < 256 → Searching (carry' n) (λ m s. carries_by n m) x l (effect (on' (carry' n)) x l)
  pub forgets : (x : Engine) (l n : List ℕ) → get_or (x model) 0 0 < 256 → Stores (forget' n) (forgetting n) x l (effect (on' (forget' n)) x l)
