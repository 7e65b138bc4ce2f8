-- Which text an engine's model buffer holds after a list of calls (01, Fresh, Open): that of the last opening with right lengths, if it was accepted. Definitions only.
use Rattle.std.specs.Prelude.{Bool, cond, List, [], ◌∷◌, ℕ, length, replicate}
use Rattle.std.proofs.Math.Option.{Option, none, some, Option-elim}
use Rattle.model.specs.Opening.{Opening, refused, opened, opening}
use Rattle.profile.specs.Opening.{opening_steady}
use Rattle.machine.specs.Machine.{model_length, Ask, open', open_steady', on', has_lengths}
use Rattle.buffers.specs.Held.{model_bytes}
use Rattle.buffers.specs.Calls.{lent_lengths, BufferCall}

-- 01, Fresh, and 02, note 11: refusals 2 to 10 and 29 lead back to it; an accepted text is kept
unfoldable pub keeps : List ℕ → Opening → Option (List ℕ)
keeps text (refused n p) = none
keeps text (opened m) = some text

-- 01, Opening a text: 1, where b says that a length is wrong, changes nothing; nor does any other call
unfoldable pub reads : Option (List ℕ) → Bool → Ask → Option (List ℕ)
reads o b (open' text) = cond b (keeps text (opening text)) o
reads o b (open_steady' text) = cond b (keeps text (opening_steady text)) o
reads o b (on' r) = o

unfoldable pub text_after : Option (List ℕ) → List BufferCall → Option (List ℕ)
text_after o [] = o
text_after o (c ∷ cs) = text_after (reads o (has_lengths c.ask (lent_lengths c) (length c.output)) c.ask) cs

-- 01, Fresh: its bytes, or zeros where there is none
unfoldable pub bytes_of : Option (List ℕ) → List ℕ
bytes_of o = Option-elim o (replicate model_length 0) model_bytes
