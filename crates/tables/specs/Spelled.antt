-- The bytes of a text's tokens, as two tables beside the text tell them (01, Model text). Definitions only.
use Rattle.std.specs.Prelude.{◌≡◌, List, ℕ, ◌+◌, ◌≤◌, length, get_or, take, drop}

-- each word stands in the text, at its place and of its size; those that the tables don't have are empty
pub record Spells (words : ℕ → List ℕ) (text places sizes : List ℕ) : Type 0 where
  pub alike : length places ≡ length sizes
  pub within : (n : ℕ) → get_or places n 0 + get_or sizes n 0 ≤ length text
  pub word : (n : ℕ) → words n ≡ take (get_or sizes n 0) (drop (get_or places n 0) text)
