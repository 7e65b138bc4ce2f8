-- What the functions of evaluation are given and what they answer: a part by its root in the settled table (tables: Settled), and what it comes to
-- (machine: Evaluate). Assumes nothing: these are definitions.
use Rattle.std.specs.Prelude.{◌≡◌, List, [], ◌∷◌, ℕ, ℤ, None, Some}
use Rattle.std.specs.Coded.{×_prop, Unit-prop}
use Rattle.std.proofs.Math.Bool.{Bool-set}
use Rattle.value.specs.Range.{InRange, Value}
use Rattle.model.specs.Good.{Every}

-- 01, Values: there is at most one proof that a number lies in the range, and that all locals do
value-prop : (z : ℤ) → IsProp (InRange z)
value-prop z p q = λ i. record { low = Bool-set _ _ p.low q.low i; high = Bool-set _ _ p.high q.high i }

pub in_range-prop : (ls : List ℤ) → IsProp (Every InRange ls)
unfolding Every
in_range-prop [] = Unit-prop
in_range-prop (z ∷ ls) = ×_prop (value-prop z) (in_range-prop ls)

-- some part stands at k, and it is well formed
pub record Held {A : Type 0} (stands : A → ℕ → Type 0) (good : A → Type 0) (k : ℕ) : Type 0 where
  pub part : A
  pub at : stands part k
  pub fit : good part

-- r is what every part that stands at k comes to
abbrev pub Worth : {A B : Type 0} → (A → ℕ → Type 0) → (A → B) → ℕ → B → Type 0
Worth stands worth k r = (x : _) → stands x k → r ≡ worth x

-- 01, Values: a value, where there is one, lies in the range
abbrev pub Sound : Value → Type 0
Sound (Some x) = InRange x
Sound None = Unit {0}
