-- What the test of a model buffer finds before its text is read (docs/LAYOUT.md). Definitions only.
use Rattle.std.specs.Prelude.{◌≡◌, List, ℕ, ◌≤◌, length}
use Rattle.token.specs.Questions.{text_limit}
use Rattle.model.specs.Held.{held}
use Rattle.buffers.specs.Held.{length_in, text_in, held_in}

-- 01, State: the text of the length that the buffer tells, which holds what the buffer holds
pub record TextOf (bs text : List ℕ) : Type 0 where
  pub is : text ≡ text_in bs
  pub long : length text ≡ length_in bs
  pub short : length text ≤ text_limit
  pub holds : held_in bs ≡ held text
