-- A channel's shape and values: made of its items, and read back as the numbers of a pair's row. By cases of the channel.
use mathlib.Core.Path.{◌≡◌, refl, sym, ap, ap₂, ◌∙◌}
use mathlib.Core.List.{List, [], ◌∷◌, ◌++◌}
use mathlib.Core.Option.{Option, none, some}
use Prim.Native.Nat.{ℕ, ◌+◌, ◌*◌, ◌/◌, ◌%◌, ◌≤◌, ◌<◌}
use native.Mathlib.Omega.{arith}
use lib.IntN.{ℤ, pos}
use Rattle.value.specs.Items.{one_item, two_items, three_items}
use Rattle.rules.specs.Offers as offers
use Rattle.rules.specs.Pairs.{item_kind, item_value, item_numbers, channel_numbers}
use Rattle.rules.proofs.Before.{channel-told}
use Rattle.machine.specs.Evaluate.{given}
use Rattle.std.specs.Prelude.{Some, None}
use Rattle.eval.specs.declared.channel.Item.{Item}
use Rattle.eval.specs.declared.channel.Item.TheVariants.{Number, Name}
use Rattle.eval.specs.declared.channel.Channel.{Channel}
use Rattle.eval.specs.Channels.{shape, shape_of, first_of, second_of, third_of, ShowsChannel, numbers_of, kind_of, value_of, item_of, channel_of}

-- ---- items that have no value
kind-small : (a : offers.Item) → item_kind a ≤ 1
unfolding item_kind
kind-small (offers.number z) = omega arith
kind-small (offers.named n) = omega arith

pub lacks-first : (o : Option offers.Item) (f : offers.Item → Option offers.Channel) → None ≡ item_of o → None ≡ channel_of (given o f)
unfolding given item_of channel_of
lacks-first none f e = refl
lacks-first (some (offers.number z)) f e = cc
lacks-first (some (offers.named n)) f e = cc

pub lacks-second : (o p : Option offers.Item) (f : offers.Item → offers.Item → Option offers.Channel) → None ≡ item_of p → None ≡ channel_of (given o (λ x. given p (f x)))
unfolding given channel_of
lacks-second none p f e = refl
lacks-second (some x) p f e = lacks-first p (f x) e

pub lacks-third : (o p q : Option offers.Item) (f : offers.Item → offers.Item → offers.Item → Option offers.Channel) → None ≡ item_of q
    → None ≡ channel_of (given o (λ x. given p (λ y. given q (f x y))))
unfolding given channel_of
lacks-third none p q f e = refl
lacks-third (some x) p q f e = lacks-second p q (f x) e

-- ---- items that have values
made : ℕ → ℤ → ℤ → ℤ → Channel
made s a b c = record { shape = s; first = a; second = b; third = c }

kind-of : (a : Item) (x : offers.Item) → Some a ≡ item_of (some x) → kind_of a ≡ item_kind x
unfolding item_of item_kind
kind-of a (offers.number z) e = let d : a ≡ Number z = cc in ap kind_of d
kind-of a (offers.named n) e = let d : a ≡ Name (pos n) = cc in ap kind_of d

value-of : (a : Item) (x : offers.Item) → Some a ≡ item_of (some x) → value_of a ≡ item_value x
unfolding item_of item_value
value-of a (offers.number z) e = let d : a ≡ Number z = cc in ap value_of d
value-of a (offers.named n) e = let d : a ≡ Name (pos n) = cc in ap value_of d

there : {A : Type 0} (a : Item) → Some a ≡ item_of none → A
unfolding item_of
there a e = cc

pub one-made : (a : Item) (o : Option offers.Item) → Some a ≡ item_of o → (s : ℕ) → s ≡ 8 + kind_of a
    → Some (record { shape = s; first = value_of a; second = pos 0; third = pos 0 }) ≡ channel_of (given o (λ x. some (one_item x)))
unfolding given channel_of shape_of shape first_of second_of third_of made
one-made a none e s q = there a e
one-made a (some x) e s q = ap₂ (λ (t : ℕ) (v : ℤ). Some (made t v (pos 0) (pos 0))) (omega (arith, q, kind-of a x e)) (value-of a x e)

pub two_made : (a b : Item) (o p : Option offers.Item) → Some a ≡ item_of o → Some b ≡ item_of p → (s : ℕ) → s ≡ 16 + kind_of a + kind_of b * 2
    → Some (record { shape = s; first = value_of a; second = value_of b; third = pos 0 }) ≡ channel_of (given o (λ x. given p (λ y. some (two_items x y))))
unfolding given channel_of shape_of shape first_of second_of third_of made
two_made a b none p e f s q = there a e
two_made a b (some x) none e f s q = there b f
two_made a b (some x) (some y) e f s q =
    ap (λ (t : ℕ). Some (made t (value_of a) (value_of b) (pos 0))) (omega (arith, q, kind-of a x e, kind-of b y f)) ∙ ap₂ (λ (v w : ℤ). Some (made (shape 2 (item_kind x) (item_kind y) 0) v w (pos 0))) (value-of a x e) (value-of b y f)

pub three_made : (a b c : Item) (o p q : Option offers.Item) → Some a ≡ item_of o → Some b ≡ item_of p → Some c ≡ item_of q
    → (s : ℕ) → s ≡ 24 + kind_of a + kind_of b * 2 + kind_of c * 4
    → Some (record { shape = s; first = value_of a; second = value_of b; third = value_of c }) ≡ channel_of (given o (λ x. given p (λ y. given q (λ z. some (three_items x y z)))))
unfolding given channel_of shape_of shape first_of second_of third_of made
three_made a b c none p q e f g s r = there a e
three_made a b c (some x) none q e f g s r = there b f
three_made a b c (some x) (some y) none e f g s r = there c g
three_made a b c (some x) (some y) (some z) e f g s r =
    ap₂ (λ (t : ℕ) (v : ℤ). Some (made t v (value_of b) (value_of c))) (omega (arith, r, kind-of a x e, kind-of b y f, kind-of c z g)) (value-of a x e)
    ∙ ap₂ (λ (v w : ℤ). Some (made (shape 3 (item_kind x) (item_kind y) (item_kind z)) (item_value x) v w)) (value-of b y f) (value-of c z g)

-- ---- a shape is small, and not 0
pub shape-bounds : (x : offers.Channel) → (8 ≤ shape_of x) × (shape_of x < 32)
unfolding shape_of shape
shape-bounds (one_item a) = (omega arith, omega (arith, kind-small a))
shape-bounds (two_items a b) = (omega arith, omega (arith, kind-small a, kind-small b))
shape-bounds (three_items a b c) = (omega arith, omega (arith, kind-small a, kind-small b, kind-small c))

-- ---- the numbers of a channel
back : (n a b c : ℕ) → a ≤ 1 → b ≤ 1 → c ≤ 1 → let s = shape n a b c in (s / 8 ≡ n) × (s % 2 ≡ a) × (s / 2 % 2 ≡ b) × (s / 4 % 2 ≡ c)
unfolding shape
back n a b c h i j = (omega arith, omega arith, omega arith, omega arith)

pub numbers-are : {s : ℕ} {a b c : ℤ} (x : offers.Channel) → ShowsChannel s a b c x → (l : List ℤ) → numbers_of s a b c ++ l ≡ channel_numbers x l
unfolding numbers_of channel_numbers item_numbers shape_of first_of second_of third_of
numbers-are x h l = rw (h.shape_is, h.first-is, h.second_is, h.third-is) (go x)
  where
    go : (x : offers.Channel) → numbers_of (shape_of x) (first_of x) (second_of x) (third_of x) ++ l ≡ channel_numbers x l
    go (one_item a) = let e = back 1 (item_kind a) 0 0 (kind-small a) (omega arith) (omega arith) in rw (e.0, e.1, e.2, e.3)
    go (two_items a b) = let e = back 2 (item_kind a) (item_kind b) 0 (kind-small a) (kind-small b) (omega arith) in rw (e.0, e.1, e.2, e.3)
    go (three_items a b c) = let e = back 3 (item_kind a) (item_kind b) (item_kind c) (kind-small a) (kind-small b) (kind-small c) in rw (e.0, e.1, e.2, e.3)

-- a channel is told by the numbers that show it
pub channels-alike : {s : ℕ} {a b c : ℤ} {x y : offers.Channel} → ShowsChannel s a b c x → ShowsChannel s a b c y → x ≡ y
channels-alike {x = x} {y = y} h g = (channel-told x y (pos 0) (pos 0) [] [] (sym (numbers-are x h (pos 0 ∷ [])) ∙ numbers-are y g (pos 0 ∷ []))).0
