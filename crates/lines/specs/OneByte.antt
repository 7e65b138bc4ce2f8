-- What is read byte by byte: a digit more, and a byte more. Definitions only.
use Rattle.std.specs.Prelude.{ℕ, ◌+◌, ◌*◌, cond, nat_lt, Option, Some, None}
use Rattle.word.specs.Number.{digit_of}
use Rattle.token.specs.Bytes.{is_digit}
use Rattle.lines.specs.Limit.{limit}

-- a number with one more digit, below the limit
unfoldable pub number_grown : ℕ → ℕ → Option ℕ
number_grown v d = cond (nat_lt (v * 10 + d) limit) (Some (v * 10 + d)) None

-- one more byte, by what a digit and what another byte make of it
abbrev pub byte_next : {R : Type 0} → (R → ℕ → R) → (R → ℕ → R) → R → ℕ → R
byte_next digit letter r b = cond (is_digit b) (digit r (digit_of b)) (letter r b)
