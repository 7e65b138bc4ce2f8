-- What a call answers, and leaves in the buffers that it is lent, whatever these hold (01, Opening a text, Listing and stepping): one definition for all calls. Definitions only.
use Rattle.std.specs.Prelude.{cond, List, ℕ, length}
use Rattle.std.proofs.Math.Option.{Option, none, some}
use Rattle.model.specs.Resolved
use Rattle.model.specs.Opening.{Opening, refused, opened, opening}
use Rattle.profile.specs.Opening.{opening_steady}
use Rattle.machine.specs.Machine.{as_lent, Answer, no, Turn, held, Machine, closed, holding, Request, Ask, open', open_steady', on', Part, model, uses, is_lent, all_parts, has_lengths, opened_state, on_machine}
use Rattle.buffers.specs.Held.{model_bytes, held_in}
use Rattle.buffers.specs.Listing.{shown}
use Rattle.buffers.specs.Parts.{Engine, fresh, numbers_of, is_part, read_held}

-- 01, Rule machine: an answer, the buffers and the output, a listing or a report, as a call leaves them
pub record Effect : Type 0 where
  pub answer : Answer
  pub left : Engine
  pub output : List ℕ

-- ---- which machine buffers hold

-- 01, Listing, 11: is each lent buffer one over the model?
unfoldable pub machine_over : List Part → Engine → Option Resolved.Model → Machine
machine_over ps x none = closed
machine_over ps x (some m) = cond (all_parts (λ (p : Part). is_part m p (x p)) ps) (holding (read_held m ps x)) closed

-- 01, Listing, 11: the machine in the lent buffers; closed where the answer to 11 is no
unfoldable pub machine_in : List Part → Engine → Machine
machine_in ps x = machine_over ps x (held_in (x model))

-- 01, Opening a text, Listing and stepping: 1 changes nothing
unfoldable pub untouched : Engine → List ℕ → Effect
untouched x l = record { answer = no 1 0 0 as_lent; left = x; output = l }

-- ---- openings

-- 01, Opening a text, and 02, note 11: 2 to 10 and 29 zero all buffers; acceptance fills them
unfoldable pub opens_with : List ℕ → Opening → List ℕ → Effect
opens_with text (refused n p) l = record { answer = no n p 0 as_lent; left = fresh; output = l }
opens_with text (opened m) l = record { answer = no 0 0 0 as_lent; left = numbers_of (model_bytes text) (held m (opened_state m)); output = l }

-- ---- requests

-- 01, State: a lent buffer has what the machine holds, any other is as it was; 11 leaves all as it was
unfoldable pub left_in : List Part → Engine → Machine → Engine
left_in ps x closed = x
left_in ps x (holding h) = λ (p : Part). cond (is_lent p ps) (numbers_of (x model) h p) (x p)

-- 01, Rule machine: what a machine's turn leaves in the buffers
unfoldable pub leaves : List Part → Engine → List ℕ → Turn Machine → Effect
leaves ps x l t = record { answer = t.answer; left = left_in ps x t.machine; output = shown t.answer.listing l }

-- 01, Listing and stepping: 11 and on, of this model and the lent buffers
unfoldable pub requested : Request → Engine → List ℕ → Option Resolved.Model → Effect
requested r x l o = leaves (uses r) x l (on_machine r (machine_over (uses r) x o))

-- ---- calls

-- what is asked, where 1 is answered with yes
unfoldable pub answered : Ask → Engine → List ℕ → Effect
answered (open' text) x l = opens_with text (opening text) l
answered (open_steady' text) x l = opens_with text (opening_steady text) l
answered (on' r) x l = requested r x l (held_in (x model))

-- 01, Opening a text, Listing and stepping: 1, then what is asked
unfoldable pub effect : Ask → Engine → List ℕ → Effect
effect k x l = cond (has_lengths k (λ (p : Part). length (x p)) (length l)) (answered k x l) (untouched x l)
