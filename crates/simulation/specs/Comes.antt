-- What a run over a text comes to (docs/DECISIONS.md, R.4 to R.7), number by number, and the buffers as an effect says. Definitions only.
use Rattle.std.specs.Prelude.{◌≡◌, Bool, Option, None, Some, Result, Err, Ok, ◌&&◌, List, ℕ, eqb, get_or}
use Rattle.std.proofs.Math.Option.{some, none}
use Rattle.clock.specs.declared.Clock.{Clock}
use Rattle.model.specs.Resolved
use Rattle.buffers.specs.Held.{held_in}
use Rattle.store.specs.declared.Settled.{Settled}
use Rattle.store.specs.Tables.{Shows}
use Rattle.machine.specs.State.{state_length}
use Rattle.machine.specs.Machine.{model_length, Part}
use Rattle.buffers.specs.Parts.{Engine}
use Rattle.buffers.specs.Effect.{Effect}
use Rattle.running.specs.declared.Progress.{Progress}
use Rattle.running.specs.Progress.{end_number, begun_with}
use Rattle.simulation.specs.declared.Refusal.{Refusal}
use Rattle.simulation.specs.declared.Refusal.TheVariants.{Lengths, NotHeld}

-- 01, 1 and 11
abbrev pub refusal_number : Refusal → ℕ
refusal_number Lengths = 1
refusal_number NotHeld = 11

-- 0, or the number of the refusal that ended a run or let it not begin
abbrev pub number_of : Result Progress Refusal → ℕ
number_of (Ok p) = end_number p.end
number_of (Err r) = refusal_number r

-- 1 and 11 take no step, and the clock k stays
abbrev pub come_to : Clock → Result Progress Refusal → Progress
come_to k (Ok p) = p
come_to k (Err r) = begun_with k

abbrev pub clock_after : Clock → Result Progress Refusal → Clock
clock_after k (Ok p) = p.clock
clock_after k (Err r) = k

-- R.4 to R.7: what the run from the clock k came to, the buffers x and the events l that were lent are those of the effect; a call that used nothing says 0
pub record Comes (w : Effect) (k : Clock) (r : Result Progress Refusal) (x : Engine) (l : List ℕ) : Type 0 where
  pub number : number_of r ≡ w.answer.number
  pub steps : (come_to k r).steps ≡ get_or w.answer.used 0 0
  pub words : (come_to k r).words ≡ get_or w.answer.used 1 0
  pub waiting : (come_to k r).waiting ≡ get_or w.answer.used 2 0
  pub count : (come_to k r).count ≡ w.answer.count
  pub total : (come_to k r).total ≡ w.answer.total
  pub buffers : (q : Part) → x q ≡ w.left q
  pub output : l ≡ w.output

-- 01, Listing, 11: no model, or the tables of the one that the buffer holds
unfoldable pub Reads : List ℕ → Option Settled → Type 0
Reads bs None = held_in bs ≡ none
Reads bs (Some s) = (m : Resolved.Model) × (held_in bs ≡ some m) × Shows s m

-- 01, 1, of a run: the lengths of the model and the state
unfoldable pub are_parts_long : (model state : ℕ) → Bool
are_parts_long model state = eqb model model_length && eqb state state_length
