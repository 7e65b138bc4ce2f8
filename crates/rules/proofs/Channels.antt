-- The numbers of channels in order: what the rows of a state's pairs need of them. By cases of the item count, from the laws of an item.
use mathlib.Core.Path.{◌≡◌, refl, sym, ap, ap₂, ◌∙◌}
use mathlib.Core.Bool.{Bool, true, false, ◌&&◌, ◌||◌}
use mathlib.Core.List.{List, ◌∷◌, ◌++◌}
use Prim.Native.Nat.{◌+◌}
use native.Mathlib.Omega.{arith}
use lib.IntN.{ℤ, pos, nat_abs}
use lib.ListN.{length, get_or}
use Rattle.value.specs.Arithmetic.{is_less, is_same}
use Rattle.value.specs.Items.{one_item, two_items, three_items}
use Rattle.value.proofs.Kit.{true-not-false, false-not-true, same-eq}
use Rattle.rules.specs.Offers.{Item, number, named, Channel}
use Rattle.rules.specs.Order.{less}
use Rattle.rules.specs.Pairs.{item_kind, item_value, item_numbers, no_item, channel_numbers}
use Rattle.rules.proofs.Less.{less-rest}

-- ---- one item

less-item : (c d : Item) (u v s t : List ℤ) → less u v ≡ less s t → less (item_numbers c u) (item_numbers d v) ≡ less (item_numbers c s) (item_numbers d t)
unfolding less item_numbers item_kind item_value
less-item (number x) (number y) u v s t e = ap (λ (b : Bool). is_less x y || is_same x y && b) e
less-item (number x) (named n) u v s t e = refl
less-item (named m) (number y) u v s t e = refl
less-item (named m) (named n) u v s t e = ap (λ (b : Bool). is_less (pos m) (pos n) || is_same (pos m) (pos n) && b) e

one-item : (c : Item) (u v : List ℤ) → less u v ≡ true → less (item_numbers c u) (item_numbers c v) ≡ true
unfolding item_numbers
one-item c u v e = less-rest (pos (item_kind c)) (item_value c ∷ u) (item_value c ∷ v) (less-rest (item_value c) u v e)

blank-item : (u v : List ℤ) → less u v ≡ true → less (no_item u) (no_item v) ≡ true
blank-item u v e = less-rest (pos 0) (pos 0 ∷ u) (pos 0 ∷ v) (less-rest (pos 0) u v e)

-- equal numbers, and what is left of two tests that tell them apart
same_number : (x y : ℤ) (t w : Bool) → is_less x y || is_same x y && t ≡ false → is_less x y || is_same x y && w ≡ true → (x ≡ y) × (t ≡ false) × (w ≡ true)
same_number x y t w e f = go (is_less x y) (is_same x y) refl e f
  where
    go : (a b : Bool) → is_same x y ≡ b → a || b && t ≡ false → a || b && w ≡ true → (x ≡ y) × (t ≡ false) × (w ≡ true)
    go true b s e f = true-not-false e
    go false true s e f = (same-eq x y s, e, f)
    go false false s e f = false-not-true f

between-item : (c d : Item) (u v w : List ℤ) → less (item_numbers d u) (item_numbers c v) ≡ false → less (item_numbers d u) (item_numbers c w) ≡ true → (d ≡ c) × (less u v ≡ false) × (less u w ≡ true)
unfolding less item_numbers item_kind item_value
between-item (number y) (number x) u v w e f = let r = same_number x y (less u v) (less u w) e f in (ap number r.0, r.1, r.2)
between-item (named n) (number x) u v w e f = false-not-true (sym e ∙ f)
between-item (number y) (named m) u v w e f = false-not-true (sym e ∙ f)
between-item (named n) (named m) u v w e f = let r = same_number (pos m) (pos n) (less u v) (less u w) e f in (ap (λ (z : ℤ). named (nat_abs z)) r.0, r.1, r.2)

-- ---- channels

pub less-channel : (c d : Channel) (u v s t : List ℤ) → less u v ≡ less s t → less (channel_numbers c u) (channel_numbers d v) ≡ less (channel_numbers c s) (channel_numbers d t)
unfolding less channel_numbers
less-channel (one_item a) (one_item d) u v s t q = less-item a d (no_item (no_item u)) (no_item (no_item v)) (no_item (no_item s)) (no_item (no_item t)) q
less-channel (two_items a b) (two_items d e) u v s t q = less-item a d _ _ _ _ (less-item b e (no_item u) (no_item v) (no_item s) (no_item t) q)
less-channel (three_items a b c) (three_items d e f) u v s t q = less-item a d _ _ _ _ (less-item b e _ _ _ _ (less-item c f u v s t q))
less-channel (one_item a) (two_items d e) u v s t q = refl
less-channel (one_item a) (three_items d e f) u v s t q = refl
less-channel (two_items a b) (one_item d) u v s t q = refl
less-channel (two_items a b) (three_items d e f) u v s t q = refl
less-channel (three_items a b c) (one_item d) u v s t q = refl
less-channel (three_items a b c) (two_items d e) u v s t q = refl

pub one-channel : (c : Channel) (u v : List ℤ) → less u v ≡ true → less (channel_numbers c u) (channel_numbers c v) ≡ true
unfolding channel_numbers
one-channel (one_item a) u v e = less-rest (pos 1) _ _ (one-item a _ _ (blank-item _ _ (blank-item u v e)))
one-channel (two_items a b) u v e = less-rest (pos 2) _ _ (one-item a _ _ (one-item b _ _ (blank-item u v e)))
one-channel (three_items a b c) u v e = less-rest (pos 3) _ _ (one-item a _ _ (one-item b _ _ (one-item c u v e)))

pub between : (c d : Channel) (u v w : List ℤ) → less (channel_numbers d u) (channel_numbers c v) ≡ false → less (channel_numbers d u) (channel_numbers c w) ≡ true → d ≡ c
unfolding less channel_numbers
between (one_item a) (one_item d) u v w p q = ap one_item (between-item a d (no_item (no_item u)) (no_item (no_item v)) (no_item (no_item w)) p q).0
between (two_items a b) (two_items d e) u v w p q =
    let r = between-item a d _ _ _ p q in
    let s = between-item b e (no_item u) (no_item v) (no_item w) r.1 r.2 in
    ap₂ two_items r.0 s.0
between (three_items a b c) (three_items d e f) u v w p q =
    let r = between-item a d _ _ _ p q in
    let s = between-item b e _ _ _ r.1 r.2 in
    let t = between-item c f u v w s.1 s.2 in
    ap₂ (λ (x : Item) (y : Item × Item). three_items x y.0 y.1) r.0 (ap₂ (λ (x y : Item). (x, y)) s.0 t.0)
between (one_item a) (two_items d e) u v w p q = false-not-true q
between (one_item a) (three_items d e f) u v w p q = false-not-true q
between (two_items a b) (one_item d) u v w p q = true-not-false p
between (two_items a b) (three_items d e f) u v w p q = false-not-true q
between (three_items a b c) (one_item d) u v w p q = true-not-false p
between (three_items a b c) (two_items d e) u v w p q = true-not-false p

-- ---- how many numbers, and the one after them

pub channel-length : (c : Channel) (l : List ℤ) → length (channel_numbers c l) ≡ length l + 7
unfolding channel_numbers item_numbers
channel-length (one_item a) l = omega arith
channel-length (two_items a b) l = omega arith
channel-length (three_items a b c) l = omega arith

pub channel-eighth : (c : Channel) (k : ℤ) (l r : List ℤ) → get_or (channel_numbers c (k ∷ l) ++ r) 7 (pos 0) ≡ k
unfolding channel_numbers item_numbers
channel-eighth (one_item a) k l r = refl
channel-eighth (two_items a b) k l r = refl
channel-eighth (three_items a b c) k l r = refl
