-- The order of pairs is a strict total order: a pair is told by its numbers, and their order is one.
use mathlib.Core.Path.{◌≡◌, refl, sym, ap, ap₂, ◌∙◌}
use mathlib.Core.Bool.{Bool, true, false}
use mathlib.Core.List.{List, ◌∷◌, tail-eq_of_cons-eq}
use Prim.Native.Nat.{ℕ}
use native.Mathlib.Omega.{arith}
use lib.IntN.{ℤ}
use Rattle.value.specs.Items.{one_item, two_items, three_items}
use Rattle.value.proofs.Kit.{true-not-false}
use Rattle.rules.specs.Offers.{Item, number, named, Channel, Pair}
use Rattle.rules.specs.Pairs.{item_kind, item_value, item_numbers, channel_numbers, numbers, before, Before}
use Rattle.rules.proofs.Less.{less-irreflexive, less-trans, less_equal}

item-told : (c d : Item) (us vs : List ℤ) → item_numbers c us ≡ item_numbers d vs → (c ≡ d) × (us ≡ vs)
unfolding item_numbers item_kind item_value
item-told (number x) (number y) us vs e = let p : x ≡ y = cc in (ap number p, cc)
item-told (number x) (named n) us vs e = let z : ◌≡◌ {A = ℕ} 0 1 = cc in absurd (omega arith)
item-told (named m) (number y) us vs e = let z : ◌≡◌ {A = ℕ} 0 1 = cc in absurd (omega arith)
item-told (named m) (named n) us vs e = let p : m ≡ n = cc in (ap named p, cc)

pub channel-told : (c d : Channel) (k l : ℤ) (us vs : List ℤ) → channel_numbers c (k ∷ us) ≡ channel_numbers d (l ∷ vs) → (c ≡ d) × (us ≡ vs)
unfolding channel_numbers
channel-told (one_item a) (one_item d) k l us vs q = let p = item-told a d _ _ (tail-eq_of_cons-eq q) in let r = p.1 in (ap one_item p.0, cc)
channel-told (two_items a b) (two_items d e) k l us vs q =
    let p = item-told a d _ _ (tail-eq_of_cons-eq q) in
    let r = item-told b e _ _ p.1 in
    let s = r.1 in
    (ap₂ two_items p.0 r.0, cc)
channel-told (three_items a b c) (three_items d e f) k l us vs q =
    let p = item-told a d _ _ (tail-eq_of_cons-eq q) in
    let r = item-told b e _ _ p.1 in
    let s = item-told c f _ _ r.1 in
    let u = s.1 in
    (ap₂ (λ (x : Item) (y : Item × Item). three_items x y.0 y.1) p.0 (ap₂ (λ (x y : Item). (x, y)) r.0 s.0), cc)
channel-told (one_item a) (two_items d e) k l us vs q = let z : ◌≡◌ {A = ℕ} 1 2 = cc in absurd (omega arith)
channel-told (one_item a) (three_items d e f) k l us vs q = let z : ◌≡◌ {A = ℕ} 1 3 = cc in absurd (omega arith)
channel-told (two_items a b) (one_item d) k l us vs q = let z : ◌≡◌ {A = ℕ} 2 1 = cc in absurd (omega arith)
channel-told (two_items a b) (three_items d e f) k l us vs q = let z : ◌≡◌ {A = ℕ} 2 3 = cc in absurd (omega arith)
channel-told (three_items a b c) (one_item d) k l us vs q = let z : ◌≡◌ {A = ℕ} 3 1 = cc in absurd (omega arith)
channel-told (three_items a b c) (two_items d e) k l us vs q = let z : ◌≡◌ {A = ℕ} 3 2 = cc in absurd (omega arith)

make : Channel → List ℤ → Pair
make c vs = record { channel = c; values = vs }

pub told : (x y : Pair) → numbers x ≡ numbers y → x ≡ y
unfolding numbers make
told x y e = let p = channel-told x.channel y.channel _ _ x.values y.values e in ap₂ make p.0 p.1

pub before-trans : (x y z : Pair) → Before x y → Before y z → Before x z
unfolding before
before-trans x y z e f = less-trans (numbers x) (numbers y) (numbers z) e f

pub before-apart : (x y : Pair) → Before x y → x ≡ y → ⊥
unfolding before
before-apart x y e q = true-not-false (sym e ∙ ap (λ (t : Pair). before t y) q ∙ less-irreflexive (numbers y))

-- how two pairs stand to each other, by both tests
pub data Compared (x y : Pair) : Type 0 where
  under : before x y ≡ true → Compared x y
  over : before x y ≡ false → before y x ≡ true → Compared x y
  equal : before x y ≡ false → before y x ≡ false → x ≡ y → Compared x y

pub compared : (x y : Pair) → Compared x y
unfolding before
compared x y = go (before x y) refl (before y x) refl
  where
    go : (a : Bool) → before x y ≡ a → (b : Bool) → before y x ≡ b → Compared x y
    go true e b f = under e
    go false e true f = over e f
    go false e false f = equal e f (told x y (less_equal (numbers x) (numbers y) e f))
