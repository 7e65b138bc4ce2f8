-- What the reader of a number after its `-` reads (01, Rate). Assumes nothing: these are definitions.
use Rattle.std.specs.Prelude.{List, ◌∷◌, Bool, false, true, cond, ℕ, ◌+◌, ◌-◌}
use Rattle.token.specs.Kind as kind
use Rattle.tree.specs.Node.{number_kind}
use Rattle.tree.specs.Table

-- the greatest kind of a number that is whole
abbrev pub negative_number : ℕ
negative_number = number_kind true false

-- a decimal, or a whole number
unfoldable pub flat_unsigned : Bool → List ℕ → List ℕ
flat_unsigned decimal ts = cond decimal kind.decimal kind.whole ∷ ts

-- its node, which is of this kind if the number is whole; a decimal's kind is as far above it as without `-`
unfoldable pub HoldsUnsigned : ℕ → ℕ → List ℕ → Bool → ℕ → ℕ → Type 0
HoldsUnsigned whole k t decimal = Table.Leaf t (whole + (number_kind false decimal - number_kind false false)) k
