-- What an accepted listing of an engine shows, what a step of the same engine takes and leaves (01, Transitions, Step), and what a report shares (02, note 6). Definitions only.
use Rattle.std.specs.Prelude.{◌≡◌, ℕ, ◌≤◌, ◌<◌, length, get_or}
use mathlib.Core.List.{List, Memᴰ as In}
use Rattle.std.proofs.Math.Option.{some}
use Rattle.grammar.specs.Syntax
use Rattle.model.specs.Resolved
use Rattle.model.specs.Resolved.{sum_number}
use Rattle.model.specs.Stands.{WrittenIn}
use Rattle.model.specs.Questions.{Yes5}
use Rattle.model.specs.Held.{held}
use Rattle.rules.specs.Rules.{Nth, Change, Key, Moves}
use Rattle.rules.specs.Listing.{Entry, entry}
use Rattle.rules.specs.Pairs.{pairs_after}
use Rattle.rules.specs.Draw.{weights, total, chosen, is_chosen, count}
use Rattle.rules.specs.Subtotals.{actor, subtotal}
use Rattle.machine.specs.Offer.{Process, branches}
use Rattle.machine.specs.State.{State, state_numbers}
use Rattle.machine.specs.Report.{report_length, definition_at, report_of}
use Rattle.machine.specs.Machine.{entry_limit, listing_length, total_limit, listed_as, reported_as, Turn, Held, Machine, holding, list', step', report', on', model, state}
use Rattle.machine.specs.Questions.{Evaluated, IsListing, Chosen, AllGiven, Steps}
use Rattle.buffers.specs.Held.{model_bytes}
use Rattle.buffers.specs.Listing.{listing_numbers}
use Rattle.buffers.specs.Parts.{Engine, with_state}
use Rattle.buffers.specs.Effect.{Effect}
use Rattle.buffers.specs.Calls.{asks, effect_of, left_by}

-- 01, Step: what is left of an engine by any step that is lent right lengths, where es is listed: 15 to 19 or acceptance, as the questions say
pub record Leaves (x : Engine) (m : Resolved.Model) (s : State) (es : List Entry) (d : ℕ) (e : Effect) : Type 0 where
  pub turn : Turn State
  pub asked : Steps m s es d turn
  pub answer : e.answer ≡ turn.answer
  pub listed : e.output ≡ listing_numbers es
  pub left : e.left ≡ with_state x (state_numbers turn.machine)

-- 01, Step: what an accepted step takes and leaves
pub record Takes (m : Resolved.Model) (s : State) (es : List Entry) (d : ℕ) (e : Effect) : Type 0 where
  -- the entry with this number, the first whose running sum exceeds the draw
  pub number : ℕ
  pub key : Key
  pub weight : ℕ
  pub drawn : chosen (weights es) d ≡ some number
  pub entry : Chosen es d number key weight
  -- every argument of the continuations that it enters has a value
  pub given : AllGiven m s key
  -- the rules' own move with that key and weight
  pub change : Change
  pub processes : List Process
  pub moves : Moves (branches m) s key weight change processes
  -- the answer names the entry; the listing is the one before the step; the state is the one moved to
  pub answer : e.answer ≡ listed_as 0 number es
  pub listed : e.output ≡ listing_numbers es
  pub state : e.left state ≡ state_numbers (record { processes = processes; pairs = pairs_after change s.pairs })

-- 02, note 6: a process carries the number of the definition whose text holds its sum, as the text reads
pub record Carried (text : List ℕ) (p : Process) : Type 0 where
  pub tree : Syntax.Model
  pub reads : Yes5 text tree
  pub sum : Syntax.Sum
  pub number : sum_number sum ≡ p.sum
  pub written : WrittenIn tree p.definition sum

-- 02, note 6: what a report leaves that is lent right lengths, where es is listed
pub record Shares (x : Engine) (m : Resolved.Model) (s : State) (es : List Entry) (l : List ℕ) : Type 0 where
  -- accepted as the listing is, with its count and total; nothing moves
  pub answer : (effect_of x (asks (on' report') l)).answer ≡ reported_as (report_of m s es) es
  pub stays : left_by x (asks (on' report') l) ≡ x
  -- one weight sum for each definition, then zeros, in 64 numbers
  pub numbers : (effect_of x (asks (on' report') l)).output ≡ report_of m s es
  pub long : length (effect_of x (asks (on' report') l)).output ≡ report_length
  pub each : (d : ℕ) → d < length m.definitions → get_or (effect_of x (asks (on' report') l)).output d 0 ≡ subtotal (definition_at s) es d
  pub beyond : (d : ℕ) → length m.definitions ≤ d → get_or (effect_of x (asks (on' report') l)).output d 0 ≡ 0
  -- an entry counts for the definition of the process that acts, a handshake for its sender's
  pub counts : (k : Key) (w : ℕ) → In (entry k w) es → (p : Process) × Nth s.processes (actor k) p × (definition_at s (entry k w) ≡ p.definition)
  -- added in definition order they equal the listing's total
  pub sum : total (effect_of x (asks (on' report') l)).output ≡ total (weights es)

-- 01, Transitions: what an accepted list call of an engine shows, where y is the rule machine that was fed the same calls, and l the listing buffer lent
pub record Shows (x : Engine) (y : Machine) (l : List ℕ) : Type 0 where
  -- what the machine holds: the model and the state that the buffers hold
  pub text : List ℕ
  pub holds : Held
  pub machine : y ≡ holding holds
  pub model-buffer : x model ≡ model_bytes text
  pub text-holds : held text ≡ some holds.model
  pub state-buffer : x state ≡ state_numbers holds.state
  pub carried : {i : ℕ} {p : Process} → Nth holds.state.processes i p → Carried text p
  -- the entries are the derivable transitions, each once and in order, and nothing that was evaluated lacked a value
  pub entries : List Entry
  pub derivable : IsListing holds.model holds.state entries
  pub evaluated : Evaluated holds.model holds.state.processes
  pub few : length entries ≤ entry_limit
  pub bounded : total (weights entries) ≤ total_limit
  -- the listing buffer has them and nothing else; the engine stays as it was
  pub listed : (effect_of x (asks (on' list') l)).output ≡ listing_numbers entries
  pub stays : left_by x (asks (on' list') l) ≡ x
  -- the answer has their number and the sum of their weights
  pub number : (effect_of x (asks (on' list') l)).answer.count ≡ length entries
  pub sum : (effect_of x (asks (on' list') l)).answer.total ≡ total (weights entries)
  -- of the draws below that sum, as many choose an entry as its weight says
  pub draws : {i : ℕ} {k : Key} {w : ℕ} → Nth entries i (entry k w) → count (λ d. is_chosen i (chosen (weights entries) d)) (total (weights entries)) ≡ w
  -- a step of the same engine draws from this same listing
  pub steps : (l : List ℕ) (d : ℕ) → length l ≡ listing_length → Leaves x holds.model holds.state entries d (effect_of x (asks (on' (step' d)) l))
  pub takes : (l : List ℕ) (d : ℕ) → length l ≡ listing_length → (effect_of x (asks (on' (step' d)) l)).answer.number ≡ 0 → Takes holds.model holds.state entries d (effect_of x (asks (on' (step' d)) l))
  -- 02, note 6: a report on the same engine shares this same listing
  pub shares : (l : List ℕ) → length l ≡ report_length → Shares x holds.model holds.state entries l
