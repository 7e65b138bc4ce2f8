-- What a call gives: the answer, number by number, and the buffers as an effect says (01, Rule machine). Definitions only.
use Rattle.std.specs.Prelude.{◌≡◌, Bool, true, false, ◌&&◌, List, ℕ, eqb, Result, Err, Ok}
use Rattle.machine.specs.Saves.{saves_length}
use Rattle.machine.specs.Machine.{Machine, closed, holding, Part, search_length}
use Rattle.buffers.specs.Parts.{Engine}
use Rattle.buffers.specs.Effect.{Effect}
use Rattle.token.specs.declared.Refusal as token
use Rattle.token.specs.Questions.{question_number}
use Rattle.listing.specs.declared.Refusal as listing
use Rattle.listing.specs.Buffer as buffer
use Rattle.running.specs.Taking as taking
use Rattle.saves.specs.Change as saves
use Rattle.simulation.specs.declared.Refusal as simulation
use Rattle.simulation.specs.declared.Refusal.TheVariants as before
use Rattle.simulation.specs.Comes.{are_parts_long}
use Rattle.engine.specs.declared.Answer.{Answer}
use Rattle.engine.specs.declared.Told.{Told}
use Rattle.engine.specs.declared.Refusal.{Refusal}
use Rattle.engine.specs.declared.Refusal.TheVariants.{Lengths, Text, NotHeld, Listing, Step, Save}

-- 01, Opening a text, Listing and stepping: a refusal's number and places, or an opening's acceptance
abbrev pub bare : ℕ → ℕ → ℕ → Answer
bare n p b = record { number = n; place = p; branch = b; count = 0; total = 0; chosen = 0 }

-- 01, Listing and stepping: acceptance and 15 to 19 carry entry count and total, a step also the entry that it took
abbrev pub filled : ℕ → ℕ → ℕ → ℕ → Answer
filled n c t e = record { number = n; place = 0; branch = 0; count = c; total = t; chosen = e }

-- 01, Opening a text, Listing and stepping, and 02, notes 2, 4 and 11: 1 to 25 and 29
abbrev pub refusal_number : Refusal → ℕ
refusal_number Lengths = 1
refusal_number (Text r) = question_number r.question
refusal_number NotHeld = 11
refusal_number (Listing r) = buffer.refusal_number r
refusal_number (Step r x) = taking.refusal_number r
refusal_number (Save r) = saves.refusal_number r

-- the same: a refusal's number and places, and with 15 to 19 and 23 to 25 entry count and total
abbrev pub refusal_answer : Refusal → Answer
refusal_answer Lengths = bare 1 0 0
refusal_answer (Text r) = bare (question_number r.question) r.place 0
refusal_answer NotHeld = bare 11 0 0
refusal_answer (Listing r) = bare (buffer.refusal_number r) (buffer.refusal_place r) (buffer.refusal_branch r)
refusal_answer (Step r x) = filled (taking.refusal_number r) x.count x.total 0
refusal_answer (Save r) = bare (saves.refusal_number r) 0 0

-- a refusal of the text, of the listing, and of a run before its first step
abbrev pub of_text : token.Refusal → Refusal
of_text r = Text r

abbrev pub of_listing : listing.Refusal → Refusal
of_listing r = Listing r

abbrev pub of_run : simulation.Refusal → Refusal
of_run before.Lengths = Lengths
of_run before.NotHeld = NotHeld

-- 01, Listing and stepping: acceptance with entry count and total, and the entry that a step took
abbrev pub accepted : Told → Answer
accepted t = filled 0 t.listed.count t.listed.total t.chosen

-- either
abbrev pub answer_of : Result Told Refusal → Answer
answer_of (Ok t) = accepted t
answer_of (Err r) = refusal_answer r

-- 01, Rule machine: the result r, the buffers x that were lent and the output l are those of the effect
pub record Gives (w : Effect) (r : Answer) (x : Engine) (l : List ℕ) : Type 0 where
  pub number : r.number ≡ w.answer.number
  pub place : r.place ≡ w.answer.place
  pub branch : r.branch ≡ w.answer.branch
  pub count : r.count ≡ w.answer.count
  pub total : r.total ≡ w.answer.total
  pub chosen : r.chosen ≡ w.answer.chosen
  pub buffers : (p : Part) → x p ≡ w.left p
  pub output : l ≡ w.output

-- ---- within a call

-- 01, 1: of the model and the state, and of an output with this right length
unfoldable pub are_long : (model state output right : ℕ) → Bool
are_long model state output right = are_parts_long model state && eqb output right

-- 02, note 2, 1: of the model, the state and the saves
unfoldable pub are_all_long : (model state saves : ℕ) → Bool
are_all_long model state saves = are_parts_long model state && eqb saves saves_length

-- 02, note 10, 1: and of the search
unfoldable pub are_whole_long : (model state saves search : ℕ) → Bool
are_whole_long model state saves search = are_all_long model state saves && eqb search search_length

-- 02, note 10, 1: of the model, the state and the search
unfoldable pub are_search_long : (model state search : ℕ) → Bool
are_search_long model state search = are_parts_long model state && eqb search search_length

-- 01, 11
unfoldable pub is_holding : Machine → Bool
is_holding closed = false
is_holding (holding h) = true
