-- What a call leaves of the buffers, by the number that it answers (01, Opening a text, Listing and stepping): a constructor for each outcome. Definitions only.
use Rattle.std.specs.Prelude.{◌≡◌, List, ◌⊎◌, ℕ, ◌/◌, ◌≤◌, replicate, length}
use Rattle.std.proofs.Math.Option.{some}
use Rattle.model.specs.Resolved
use Rattle.model.specs.Opening.{opened, opening}
use Rattle.profile.specs.Opening.{opening_steady}
use Rattle.rules.specs.Listing.{Entry}
use Rattle.machine.specs.Report.{report_of}
use Rattle.machine.specs.State.{state_numbers}
use Rattle.machine.specs.Machine.{event_width, depth_limit, Run, runs_with, Held, held, Machine, holding, Request, list', step', report', search', timed', run', save', return', forget', begin', carry', open', open_steady', on', acts, model, output_of, opened_state}
use Rattle.machine.specs.Results.{Names, RunCarries}
use Rattle.saves.specs.Places.{saves_numbers}
use Rattle.underway.specs.Buffer.{search_numbers}
use Rattle.machine.specs.Questions.{IsListing}
use Rattle.machine.specs.Searching.{Searches}
use Rattle.buffers.specs.Held.{model_bytes}
use Rattle.buffers.specs.Listing.{listing_numbers}
use Rattle.buffers.specs.Parts.{Engine, fresh, numbers_of, with_kept, with_search}
use Rattle.buffers.specs.Effect.{Effect}
use Rattle.buffers.specs.Answers.{runs_as}
use Rattle.buffers.specs.Calls.{BufferCall, lent_engine, left_by}

-- 02, note 10: a search is begun or carried on
unfoldable pub Walks : Request → Type 0
Walks list' = ⊥
Walks (step' d) = ⊥
Walks report' = ⊥
Walks (search' x d) = ⊥
Walks (timed' ds d) = ⊥
Walks (run' ws vs n l) = ⊥
Walks (save' n) = ⊥
Walks (return' n) = ⊥
Walks (forget' n) = ⊥
Walks (begin' x d) = Unit {0}
Walks (carry' n) = Unit {0}

-- 01, Opening a text, Listing and stepping: of a call c to an engine x that holds the machine y, with the effect e
pub data Outcome (x : Engine) (y : Machine) (c : BufferCall) (e : Effect) : Type 0 where
  -- 1 and 11 change nothing that is lent
  nothing : (e.answer.number ≡ 1) ⊎ (e.answer.number ≡ 11) → e.left ≡ lent_engine c x → e.output ≡ c.output → Outcome x y c e
  -- 2 to 10 zero all buffers
  zeroed : 2 ≤ e.answer.number → e.answer.number ≤ 10 → left_by x c ≡ fresh → Outcome x y c e
  -- an accepted opening fills them
  opens : {text : List ℕ} {m : Resolved.Model} → c.ask ≡ open' text → opening text ≡ opened m
      → e.answer.number ≡ 0 → left_by x c ≡ numbers_of (model_bytes text) (held m (opened_state m)) → Outcome x y c e
  -- 02, note 11: under the steady profile 29 zeroes them too, and an accepted opening fills them alike
  unsteady : e.answer.number ≡ 29 → left_by x c ≡ fresh → Outcome x y c e
  opens_steady : {text : List ℕ} {m : Resolved.Model} → c.ask ≡ open_steady' text → opening_steady text ≡ opened m
      → e.answer.number ≡ 0 → left_by x c ≡ numbers_of (model_bytes text) (held m (opened_state m)) → Outcome x y c e
  -- 12 to 14 zero the listing or report, and change nothing else
  unlisted : {n : ℕ} → output_of c.ask ≡ some n → 12 ≤ e.answer.number → e.answer.number ≤ 14 → e.output ≡ replicate n 0 → left_by x c ≡ x → Outcome x y c e
  -- 15 to 19 leave the listing filled, and change nothing else
  listed : {h : Held} {es : List Entry} → y ≡ holding h → IsListing h.model h.state es
      → 15 ≤ e.answer.number → e.answer.number ≤ 19 → e.output ≡ listing_numbers es → left_by x c ≡ x → Outcome x y c e
  -- 02, note 4: so do 23 to 25
  unwaited : {h : Held} {es : List Entry} → y ≡ holding h → IsListing h.model h.state es
      → 23 ≤ e.answer.number → e.answer.number ≤ 25 → e.output ≡ listing_numbers es → left_by x c ≡ x → Outcome x y c e
  -- a list or a step, timed or not, is accepted: the listing is filled, as Transitions.antt says
  accepted : {h : Held} {es : List Entry} → y ≡ holding h → IsListing h.model h.state es
      → e.answer.number ≡ 0 → e.output ≡ listing_numbers es → left_by x c model ≡ x model → Outcome x y c e
  -- 02, note 6: a report is accepted: the shares of the listing, as Transitions.antt says, and nothing moves
  reported : {h : Held} {es : List Entry} → y ≡ holding h → IsListing h.model h.state es
      → e.answer.number ≡ 0 → e.output ≡ report_of h.model h.state es → left_by x c ≡ x → Outcome x y c e
  -- 02, notes 8 and 9: a search answers 26, the first run, none or 27, and changes nothing
  searched : {h : Held} {name : List ℕ} {d : ℕ} → y ≡ holding h → c.ask ≡ on' (search' name d) → Searches h.model name h.state d e.answer → left_by x c ≡ x → e.output ≡ c.output → Outcome x y c e
  -- 02, note 2: 20 to 22 change nothing
  unstored : 20 ≤ e.answer.number → e.answer.number ≤ 22 → left_by x c ≡ x → e.output ≡ c.output → Outcome x y c e
  -- 02, notes 2 and 4: save, return and forget are accepted: state, clock and saves are those that the request leads to
  stored : {h : Held} {r : Request} → y ≡ holding h → c.ask ≡ on' r → Names r → e.answer.number ≡ 0
      → left_by x c ≡ with_kept x (state_numbers (acts r h).machine.state) (saves_numbers (acts r h).machine.saves) (acts r h).machine.clock → e.output ≡ c.output → Outcome x y c e
  -- R.4 to R.7: a run leaves the state and the clock after its last accepted step, and its events, whatever ended it
  ran : {h : Held} {ws vs : List ℕ} {n k : ℕ} {r : Run} → y ≡ holding h → c.ask ≡ on' (run' ws vs n k) → runs_with n (k / event_width) ws vs h.model h.state h.clock ≡ r
      → RunCarries ws vs n k r → e.answer ≡ (runs_as x c.output r).answer → e.output ≡ (runs_as x c.output r).output → left_by x c ≡ (runs_as x c.output r).left → Outcome x y c e
  -- 02, note 10: 26 and 28 change nothing
  unwalked : {r : Request} → c.ask ≡ on' r → Walks r → (e.answer.number ≡ 26) ⊎ (e.answer.number ≡ 28) → left_by x c ≡ x → e.output ≡ c.output → Outcome x y c e
  -- 02, note 10: a search is begun or carried on, to its end or not, with 27 too: the search is the one that the request leads to, and nothing else moves; a run has at most eight entries
  walked : {h : Held} {r : Request} → y ≡ holding h → c.ask ≡ on' r → Walks r → (e.answer.number ≡ 0) ⊎ (e.answer.number ≡ 27) → length e.answer.run ≤ depth_limit → e.answer ≡ (acts r h).answer
      → left_by x c ≡ with_search x (search_numbers (acts r h).machine.search) → e.output ≡ c.output → Outcome x y c e
