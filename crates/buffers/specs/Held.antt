-- The model buffer: two bytes for the text's length, low byte first, then the text, then zeros; and the exact test of one (docs/LAYOUT.md). Definitions only.
use Rattle.std.specs.Prelude.{Bool, true, cond, ◌&&◌, List, [], ◌∷◌, ◌++◌, ℕ, ◌+◌, ◌-◌, ◌*◌, ◌/◌, ◌%◌, eqb, leb, length, get_or, take, drop, replicate}
use Rattle.std.proofs.Math.Option.{Option, none}
use Rattle.token.specs.Questions.{text_limit}
use Rattle.model.specs.Resolved.{Model}
use Rattle.model.specs.Held.{held}

-- docs/LAYOUT.md: the buffer of a text
unfoldable pub model_bytes : List ℕ → List ℕ
model_bytes text = length text % 256 ∷ length text / 256 ∷ (text ++ replicate (text_limit - length text) 0)

-- docs/LAYOUT.md: the length in the first two bytes
unfoldable pub length_in : List ℕ → ℕ
length_in bs = get_or bs 0 0 + 256 * get_or bs 1 0

-- docs/LAYOUT.md: so many bytes after them
unfoldable pub text_in : List ℕ → List ℕ
text_in bs = take (length_in bs) (drop 2 bs)

-- docs/LAYOUT.md: every byte after the text is 0
unfoldable pub zeros : List ℕ → Bool
zeros [] = true
zeros (b ∷ bs) = eqb b 0 && zeros bs

-- 01, State: the exact test: a length that a text may have, zeros after the text, and a text within questions 2 to 9
unfoldable pub held_in : List ℕ → Option Model
held_in bs = cond (leb (length_in bs) text_limit && zeros (drop (length_in bs) (drop 2 bs))) (held (text_in bs)) none
