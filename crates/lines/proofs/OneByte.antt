-- A byte is a digit or not; a number with one more digit is below the limit or not.
use Rattle.std.proofs.Common.{◌≡◌, ℕ, ◌+◌, ◌-◌, ◌*◌, ◌<◌, ◌≤◌, Option, Some, None, ap, ◌∙◌, arith, le-ltb, lt-ltb, le-leb}
use Rattle.std.specs.Option.{SomeIff}
use borrow.Author.Tests.{lt-leb}
use Rattle.word.specs.Number.{digit_of}
use Rattle.token.specs.Bytes.{is_digit, within}
use Rattle.lines.specs.Limit.{limit}
use Rattle.lines.specs.OneByte.{number_grown, byte_next}

module _ {R : Type 0} (digit letter : R → ℕ → R) (r : R) (b : ℕ) where
  pub below-digit : b < 48 → letter r b ≡ byte_next digit letter r b
  unfolding is_digit within
  below-digit h = simp (lt-leb 48 b h)

  pub above-digit : 57 < b → letter r b ≡ byte_next digit letter r b
  unfolding is_digit within
  above-digit h = simp (lt-leb b 57 h, le-leb 48 b (omega arith))

  pub at-digit : 48 ≤ b → b ≤ 57 → digit r (b - 48) ≡ byte_next digit letter r b
  unfolding is_digit within
  at-digit h k =
      let e : b - 48 ≡ digit_of b = omega arith in
      simp (le-leb 48 b h, le-leb b 57 k, ← e)

-- a sum or a product that is told where it fits
pub grown-large : (v d : ℕ) → (v * 10 < limit → ⊥) → None ≡ number_grown v d
unfolding number_grown
grown-large v d h = simp (le-ltb (v * 10 + d) limit (omega arith))

pub grown-is : (v d n : ℕ) (r : Option ℕ) → n ≡ v * 10 → SomeIff r (n + d < limit) (n + d) → r ≡ number_grown v d
unfolding number_grown
grown-is v d n None e h = simp (le-ltb (v * 10 + d) limit (omega (arith, e, h)))
grown-is v d n (Some x) e h = simp (lt-ltb (v * 10 + d) limit (omega (arith, e, h.0))) (ap Some (h.1 ∙ ap (λ (m : ℕ). m + d) e))
