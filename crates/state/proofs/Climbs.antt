-- Rows of pairs ascend exactly when the pairs do: padded numbers stand to each other as the numbers, and neighbours tell of all since the order is transitive.
use mathlib.Core.Path.{◌≡◌, refl, sym, ap, ap₂, ◌∙◌}
use mathlib.Core.Bool.{Bool, true, false, ◌&&◌, ◌||◌}
use mathlib.Core.List.{List, [], ◌∷◌, ◌++◌, map}
use Prim.Native.Nat.{ℕ, ◌-◌}
use native.Mathlib.Omega.{arith}
use borrow.Author.Tests.{eqb-true}
use lib.Dec.{eqb}
use lib.IntN.{ℤ, pos}
use lib.ListN.{length, replicate}
use Rattle.value.specs.Arithmetic.{is_less, is_same}
use Rattle.rules.specs.Offers as offers
use Rattle.rules.specs.Order.{less, Ascending}
use Rattle.rules.specs.Pairs.{numbers, before, Before}
use Rattle.rules.proofs.Less.{less-irreflexive}
use Rattle.rules.proofs.Before.{before-trans}
use Rattle.rules.proofs.Channels.{less-channel}
use Rattle.model.specs.Good.{Every}
use Rattle.machine.specs.State.{padded, pair_numbers}
use Rattle.machine.proofs.Everys.{every_in, in-every}
use Rattle.state.specs.Test.{leads, ascends}
use Rattle.state.proofs.Tests.{both}
use Rattle.state.proofs.Entries.{pair-shape}

-- ---- padded numbers
less-append : (u v r : List ℤ) → length u ≡ length v → less (u ++ r) (v ++ r) ≡ less u v
unfolding less
less-append [] [] r l = less-irreflexive r
less-append [] (y ∷ v) r l = absurd (omega arith)
less-append (x ∷ u) [] r l = absurd (omega arith)
less-append (x ∷ u) (y ∷ v) r l = ap (λ (t : Bool). is_less x y || is_same x y && t) (less-append u v r (omega arith))

less-padded : (n : ℕ) (u v : List ℤ) → length u ≡ length v → less (padded n u) (padded n v) ≡ less u v
unfolding padded
less-padded n u v l = ap (λ (m : ℕ). less (u ++ replicate (n - length u) (pos 0)) (v ++ replicate (n - m) (pos 0))) (sym l) ∙ less-append u v (replicate (n - length u) (pos 0)) l

-- counts that differ decide before the values
less-counted : (n : ℕ) (u v : List ℤ) → less (pos (length u) ∷ padded n u) (pos (length v) ∷ padded n v) ≡ less (pos (length u) ∷ u) (pos (length v) ∷ v)
unfolding less
less-counted n u v = ap (λ (t : Bool). is_less (pos (length u)) (pos (length v)) || t) (go (eqb (length u) (length v)) refl)
  where
    go : (t : Bool) → eqb (length u) (length v) ≡ t → t && less (padded n u) (padded n v) ≡ t && less u v
    go true e = less-padded n u v (eqb-true (length u) (length v) e)
    go false e = refl

pub before-rows : (x y : offers.Pair) → less (pair_numbers x) (pair_numbers y) ≡ before x y
unfolding before numbers
before-rows x y = ap₂ less (pair-shape x) (pair-shape y) ∙ less-channel x.channel y.channel _ _ _ _ (less-counted 2 x.values y.values)

-- ---- neighbours and all
all-later : (x : offers.Pair) (xs : List offers.Pair) → leads (pair_numbers x) (map pair_numbers xs) ≡ true → Ascending Before xs → Every (Before x) xs
unfolding leads Ascending Every
all-later x [] e a = tt
all-later x (y ∷ ys) e a =
    let b : Before x y = sym (before-rows x y) ∙ e in
    (b, in-every (Before x) ys (λ z i. before-trans x y z b (a.0 z i)))

pub climbs : (xs : List offers.Pair) → ascends (map pair_numbers xs) ≡ true → Ascending Before xs
unfolding ascends Ascending
climbs [] e = tt
climbs (x ∷ xs) e =
    let b = both (leads (pair_numbers x) (map pair_numbers xs)) _ e in
    let a = climbs xs b.1 in
    (every_in (Before x) xs (all-later x xs b.0 a), a)

first-later : (x : offers.Pair) (xs : List offers.Pair) → Every (Before x) xs → leads (pair_numbers x) (map pair_numbers xs) ≡ true
unfolding leads Every
first-later x [] h = refl
first-later x (y ∷ ys) h = before-rows x y ∙ h.0

pub climbing : (xs : List offers.Pair) → Ascending Before xs → ascends (map pair_numbers xs) ≡ true
unfolding ascends Ascending
climbing [] a = refl
climbing (x ∷ xs) a = rw (first-later x xs (in-every (Before x) xs a.0), climbing xs a.1)
