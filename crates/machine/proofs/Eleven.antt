-- Question 11 clause by clause, on both sides of its limits, over the bench sheet's model (two sums of one local, one channel name): what a state may have, and what it may not. By computation.
use mathlib.Core.Path.{◌≡◌, refl, sym}
use mathlib.Core.List.{List, [], ◌∷◌}
use mathlib.Core.Bool.{true, false}
use Prim.Native.Nat.{ℕ}
use native.Mathlib.Omega.{arith}
use lib.IntN.{ℤ, pos, negsuc}
use lib.Signed.{le_z}
use Rattle.value.specs.Range.{least, greatest, InRange}
use Rattle.value.specs.Items.{one_item}
use Rattle.model.specs.Good.{Every, OneOrTwo}
use Rattle.rules.specs.Offers as offers
use Rattle.machine.specs.Offer.{Process}
use Rattle.machine.specs.Specimens.{sheet}
use Rattle.machine.specs.State.{GoodItem, GoodChannel, GoodPair, GoodProcess}

no_both : true ≡ false → ⊥
no_both e = let z : ◌≡◌ {A = ℕ} 0 1 = cc in omega arith

-- ---- numbers in range

in-range : (z : ℤ) → le_z least z ≡ true → le_z z greatest ≡ true → InRange z
in-range z l h = record { low = l; high = h }

above : InRange (pos 1099511627776) → ⊥
above r = no_both (sym r.high)

below : InRange (negsuc 1099511627775) → ⊥
below r = no_both (sym r.low)

-- of numbers in range, the only one
single : {z : ℤ} → Every InRange (z ∷ []) → InRange z
unfolding Every
single e = e.0

-- ---- processes

-- sum n with these locals
abbrev process : ℕ → List ℤ → Process
process n zs = record { sum = n; locals = zs; definition = n }

pub rows-of-processes :
    -- the least and the greatest value, and those beyond
    GoodProcess sheet (process 1 (pos 1099511627775 ∷ []))
    × GoodProcess sheet (process 1 (negsuc 1099511627774 ∷ []))
    × (GoodProcess sheet (process 1 (pos 1099511627776 ∷ [])) → ⊥)
    × (GoodProcess sheet (process 1 (negsuc 1099511627775 ∷ [])) → ⊥)
    -- no local, and two
    × (GoodProcess sheet (process 1 []) → ⊥)
    × (GoodProcess sheet (process 1 (pos 1 ∷ pos 1 ∷ [])) → ⊥)
    -- no sum has number 2
    × (GoodProcess sheet (process 2 (pos 1 ∷ [])) → ⊥)
    -- the definition of another sum
    × (GoodProcess sheet (record { sum = 1; locals = pos 1 ∷ []; definition = 0 }) → ⊥)
unfolding Every
rows-of-processes = (
  record { sum = record { sum = _; exists = refl; scope = refl }; values = (in-range _ refl refl, tt); definition = refl },
  record { sum = record { sum = _; exists = refl; scope = refl }; values = (in-range _ refl refl, tt); definition = refl },
  λ g. above (single g.values),
  λ g. below (single g.values),
  λ g. let e = g.sum.exists in let s = g.sum.scope in absurd (let z : ◌≡◌ {A = ℕ} 0 1 = cc in omega arith),
  λ g. let e = g.sum.exists in let s = g.sum.scope in absurd (let z : ◌≡◌ {A = ℕ} 1 2 = cc in omega arith),
  λ g. let e = g.sum.exists in absurd (let z : ◌≡◌ {A = ℕ} 0 1 = cc in omega arith),
  λ g. let e = g.sum.exists in let d = g.definition in absurd (let z : ◌≡◌ {A = ℕ} 0 1 = cc in omega arith),
)

-- ---- pairs

-- on a number channel, and on the channel name n
abbrev on : ℤ → List ℤ → offers.Pair
on z vs = record { channel = one_item (offers.number z); values = vs }

abbrev on_name : ℕ → List ℤ → offers.Pair
on_name n vs = record { channel = one_item (offers.named n); values = vs }

one_value : {z : ℤ} → OneOrTwo (z ∷ [])
one_value = record { one = omega arith; two = omega arith }

pub rows-of-pairs :
    -- number channels: the greatest value, and those beyond
    GoodPair sheet (on (pos 1099511627775) (pos 1 ∷ []))
    × (GoodPair sheet (on (pos 1099511627776) (pos 1 ∷ [])) → ⊥)
    × (GoodPair sheet (on (negsuc 1099511627775) (pos 1 ∷ [])) → ⊥)
    -- channel names: one exists
    × GoodPair sheet (on_name 0 (pos 1 ∷ []))
    × (GoodPair sheet (on_name 1 (pos 1 ∷ [])) → ⊥)
    -- values
    × GoodPair sheet (on_name 0 (pos 1099511627775 ∷ []))
    × (GoodPair sheet (on_name 0 (pos 1099511627776 ∷ [])) → ⊥)
    × (GoodPair sheet (on_name 0 (negsuc 1099511627775 ∷ [])) → ⊥)
    -- one value or two
    × (GoodPair sheet (on_name 0 []) → ⊥)
    × GoodPair sheet (on_name 0 (pos 1 ∷ pos 2 ∷ []))
    × (GoodPair sheet (on_name 0 (pos 1 ∷ pos 2 ∷ pos 3 ∷ [])) → ⊥)
unfolding Every GoodChannel GoodItem
rows-of-pairs = (
  record { channel = in-range _ refl refl; number = one_value; values = (in-range _ refl refl, tt) },
  λ g. above g.channel,
  λ g. below g.channel,
  record { channel = omega arith; number = one_value; values = (in-range _ refl refl, tt) },
  λ g. let h = g.channel in omega arith,
  record { channel = omega arith; number = one_value; values = (in-range _ refl refl, tt) },
  λ g. above (single g.values),
  λ g. below (single g.values),
  λ g. let h = g.number.one in omega arith,
  record { channel = omega arith; number = record { one = omega arith; two = omega arith }; values = (in-range _ refl refl, (in-range _ refl refl, tt)) },
  λ g. let h = g.number.two in omega arith,
)
