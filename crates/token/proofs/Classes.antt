-- The sorts of bytes as numbers: by cases of the sort.
use Rattle.std.proofs.Common.{eqb, ◌≡◌, refl, sym, ap, ◌∙◌, ℕ, ◌<◌, Bool, false, arith}
use denote.Enum.Bare.{sameb}
use Rattle.token.specs.contracts.Class.{the_type}
use Rattle.token.specs.declared.Class.{Class}
use Rattle.token.specs.declared.Class.TheVariants.{Blank, Letter, Digit, Sign, Other}
use Rattle.token.specs.Bytes.{within, class_number, sort_of, belongs}
use Rattle.token.proofs.Sorts.{below-within, above_within}

pub not-blank : (k : Class) → (k ≡ Blank → ⊥) → class_number k ≡ 0 → ⊥
not-blank Blank n e = n refl
not-blank Letter n e = omega arith
not-blank Digit n e = omega arith
not-blank Sign n e = omega arith
not-blank Other n e = omega arith

pub not-letter : (k : Class) → (k ≡ Letter → ⊥) → class_number k ≡ 1 → ⊥
not-letter Blank n e = omega arith
not-letter Letter n e = n refl
not-letter Digit n e = omega arith
not-letter Sign n e = omega arith
not-letter Other n e = omega arith

pub not-digit : (k : Class) → (k ≡ Digit → ⊥) → class_number k ≡ 2 → ⊥
not-digit Blank n e = omega arith
not-digit Letter n e = omega arith
not-digit Digit n e = n refl
not-digit Sign n e = omega arith
not-digit Other n e = omega arith

pub not-sign : (k : Class) → (k ≡ Sign → ⊥) → class_number k ≡ 3 → ⊥
not-sign Blank n e = omega arith
not-sign Letter n e = omega arith
not-sign Digit n e = omega arith
not-sign Sign n e = n refl
not-sign Other n e = omega arith

-- a sort that goes on no run of letters or digits
pub off : (class : ℕ) (k : Class) → 0 < class → (k ≡ Letter → ⊥) → (k ≡ Digit → ⊥) → false ≡ within class 2 (class_number k)
off class Blank h l d = sym (below-within class 2 0 h)
off class Letter h l d = absurd (l refl)
off class Digit h l d = absurd (d refl)
off class Sign h l d = sym (above_within class 2 3 (omega arith))
off class Other h l d = sym (above_within class 2 4 (omega arith))

pub belongs-is : (class k b : ℕ) {r : Bool} → r ≡ within class 2 k → k ≡ sort_of b → r ≡ belongs class b
unfolding belongs
belongs-is class k b e f = e ∙ ap (within class 2) f

-- a byte is a digit exactly where its sort is
pub digit-same : (k : Class) → sameb the_type k Digit ≡ eqb (class_number k) 2
digit-same Blank = refl
digit-same Letter = refl
digit-same Digit = refl
digit-same Sign = refl
digit-same Other = refl
