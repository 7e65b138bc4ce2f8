-- What a node says of the channel that stands there, by its kind. By cases of the channel.
use mathlib.Core.Path.{◌≡◌, ap, subst, ◌∙◌}
use mathlib.Core.List.{List}
use mathlib.Core.Option.{Option, some}
use Prim.Native.Nat.{ℕ, ◌-◌, ◌≤◌, ◌<◌}
use native.Mathlib.Omega.{arith}
use lib.IntN.{ℤ, pos}
use lib.ListN.{get_or}
use Rattle.value.specs.Range.{Value}
use Rattle.value.specs.Items.{one_item, two_items, three_items}
use Rattle.tree.specs.Node.{kind_of, token_of, left_of, third_of as middle_of}
use Rattle.model.specs.Resolved
use Rattle.model.specs.Good.{GoodItem, GoodName}
use Rattle.rules.specs.Offers as offers
use Rattle.rules.specs.Pairs.{item_kind, item_value}
use Rattle.tables.specs.Settled.{Item, Channel}
use Rattle.tables.proofs.Parts.{pair-above, pair-second}
use Rattle.machine.specs.Evaluate.{valued, given, eval_item, eval_channel}
use Rattle.std.specs.Prelude.{Some, None, Option as RustOption}
use Rattle.eval.proofs.Shapes.{lacks-first, lacks-second}
use Rattle.eval.specs.declared.channel.Item.{Item as AnItem}
use Rattle.eval.specs.declared.channel.Item.TheVariants.{Name}
use Rattle.eval.specs.declared.channel.Channel.{Channel as AChannel}
use Rattle.eval.specs.Held.{Held, Worth}
use Rattle.eval.specs.Channels.{item_of, item_answer, channel_of, channel_answer}
use Rattle.eval.proofs.Exprs.{SomeExpr, IsExpr, expr-kind}

abbrev pub ItemAnswer : Type 0
ItemAnswer = RustOption AnItem

abbrev pub Answer : Type 0
Answer = RustOption AChannel

-- ---- items

-- r is what the item at k comes to
abbrev pub IsItem : List ℕ → List ℤ → ℕ → ItemAnswer → Type 0
IsItem t ls k r = Worth (Item t) (item_answer ls) k r

-- an item's kind is below that of two items
item-kind : (t : List ℕ) (k : ℕ) (a : Resolved.Item) → Item t a k → kind_of (get_or t k 0) < 67
unfolding Item
item-kind t k (Resolved.number e) a = omega (arith, expr-kind t k e a)
item-kind t k (Resolved.name n) a = omega (arith, a.kind-is)

module _ (t : List ℕ) (k kind : ℕ) (is : kind ≡ kind_of (get_or t k 0)) where
  pub name-is : (ls : List ℤ) → kind ≡ 66 → IsItem t ls k (Some (Name (pos (token_of (get_or t k 0)))))
  unfolding Item eval_item item_answer item_of item_kind item_value
  name-is ls h (Resolved.number e) a = absurd (omega (arith, expr-kind t k e a))
  name-is ls h (Resolved.name n) a = ap (λ (i : ℕ). item_of (some (offers.named i))) a.index_is

  module _ (h : kind ≡ 66 → ⊥) where
    pub number-part : (m : Resolved.Model) (n : ℕ) → Held (Item t) (GoodItem m n) k → SomeExpr t n k
    unfolding Item GoodItem
    number-part m n s = go s.part s.at s.fit
      where
        go : (c : Resolved.Item) → Item t c k → GoodItem m n c → SomeExpr t n k
        go (Resolved.number e) a g = record { part = e; at = a; fit = g }
        go (Resolved.name i) a g = absurd (h (is ∙ a.kind-is))

    pub number_is : (ls : List ℤ) (x : Value) → IsExpr t ls k x → IsItem t ls k (item_of (valued x (λ z. some (offers.number z))))
    unfolding Item eval_item item_answer
    number_is ls x w (Resolved.number e) a = ap (λ (v : Value). item_of (valued v (λ z. some (offers.number z)))) (w e a)
    number_is ls x w (Resolved.name n) a = absurd (h (is ∙ a.kind-is))

-- ---- channels

-- r is what the channel at k comes to
abbrev pub IsChannel : List ℕ → List ℤ → ℕ → Answer → Type 0
IsChannel t ls k r = Worth (Channel t) (channel_answer ls) k r

-- good items stand at k
abbrev pub GoodAt : List ℕ → Resolved.Model → ℕ → ℕ → Type 0
GoodAt t m n k = Held (Item t) (GoodItem m n) k

module _ (t : List ℕ) (k kind : ℕ) (is : kind ≡ kind_of (get_or t k 0)) where
  -- one item
  module _ (h : kind < 67) where
    pub one-part : (m : Resolved.Model) (n : ℕ) → Held (Channel t) (GoodName m n) k → GoodAt t m n k
    unfolding Channel GoodName
    one-part m n s = go s.part s.at s.fit
      where
        go : (c : Resolved.Channel) → Channel t c k → GoodName m n c → GoodAt t m n k
        go (one_item a) p g = record { part = a; at = p; fit = g }
        go (two_items a b) p g = absurd (omega (arith, p.kind-is))
        go (three_items a b c) p g = absurd (omega (arith, p.kind-is))

    pub one-is : (ls : List ℤ) (a : ItemAnswer) (r : Answer) → IsItem t ls k a
        → ((o : Option offers.Item) → a ≡ item_of o → r ≡ channel_of (given o (λ x. some (one_item x)))) → IsChannel t ls k r
    unfolding Channel eval_channel channel_answer item_answer
    one-is ls a r w f (one_item x) p = f (eval_item ls x) (w x p)
    one-is ls a r w f (two_items x y) p = absurd (omega (arith, p.kind-is))
    one-is ls a r w f (three_items x y z) p = absurd (omega (arith, p.kind-is))

  -- more than one: the first
  pub first_part : (kind < 67 → ⊥) → (m : Resolved.Model) (n : ℕ) → Held (Channel t) (GoodName m n) k → (1 ≤ k) × GoodAt t m n (left_of (get_or t k 0))
  unfolding Channel GoodName
  first_part h m n s = go s.part s.at s.fit
    where
      go : (c : Resolved.Channel) → Channel t c k → GoodName m n c → (1 ≤ k) × GoodAt t m n (left_of (get_or t k 0))
      go (one_item a) p g = absurd (h (omega (arith, is, item-kind t k a p)))
      go (two_items a b) p g = (pair-above p, record { part = a; at = p.holds-first; fit = g.0 })
      go (three_items a b c) p g = (omega (arith, p.above), record { part = a; at = p.holds-first; fit = g.0 })

  pub first_lacks : (kind < 67 → ⊥) → (ls : List ℤ) → IsItem t ls (left_of (get_or t k 0)) None → IsChannel t ls k None
  unfolding Channel eval_channel channel_answer item_answer
  first_lacks h ls u (one_item x) p = absurd (h (omega (arith, is, item-kind t k x p)))
  first_lacks h ls u (two_items x y) p = lacks-first (eval_item ls x) _ (u x p.holds-first)
  first_lacks h ls u (three_items x y z) p = lacks-first (eval_item ls x) _ (u x p.holds-first)

  -- two items
  module _ (h : kind ≡ 67) where
    pub two-part : (m : Resolved.Model) (n : ℕ) → Held (Channel t) (GoodName m n) k → GoodAt t m n (k - 1)
    unfolding Channel GoodName
    two-part m n s = go s.part s.at s.fit
      where
        go : (c : Resolved.Channel) → Channel t c k → GoodName m n c → GoodAt t m n (k - 1)
        go (one_item a) p g = absurd (omega (arith, is, item-kind t k a p))
        go (two_items a b) p g = record { part = b; at = pair-second p; fit = g.1 }
        go (three_items a b c) p g = absurd (omega (arith, p.kind-is))

    pub two_is : (ls : List ℤ) (a b : ItemAnswer) (r : Answer) → IsItem t ls (left_of (get_or t k 0)) a → IsItem t ls (k - 1) b
        → ((o p : Option offers.Item) → a ≡ item_of o → b ≡ item_of p → r ≡ channel_of (given o (λ x. given p (λ y. some (two_items x y))))) → IsChannel t ls k r
    unfolding Channel eval_channel channel_answer item_answer
    two_is ls a b r u w f (one_item x) p = absurd (omega (arith, is, item-kind t k x p))
    two_is ls a b r u w f (two_items x y) p = f (eval_item ls x) (eval_item ls y) (u x p.holds-first) (w y (pair-second p))
    two_is ls a b r u w f (three_items x y z) p = absurd (omega (arith, p.kind-is))

  -- three items
  module _ (g : kind < 67 → ⊥) (h : kind ≡ 67 → ⊥) where
    pub three-parts : (m : Resolved.Model) (n : ℕ) → Held (Channel t) (GoodName m n) k → GoodAt t m n (middle_of (get_or t k 0)) × GoodAt t m n (k - 1)
    unfolding Channel GoodName
    three-parts m n s = go s.part s.at s.fit
      where
        go : (c : Resolved.Channel) → Channel t c k → GoodName m n c → GoodAt t m n (middle_of (get_or t k 0)) × GoodAt t m n (k - 1)
        go (one_item a) p f = absurd (g (omega (arith, is, item-kind t k a p)))
        go (two_items a b) p f = absurd (h (is ∙ p.kind-is))
        go (three_items a b c) p f =
            let e : p.right ≡ k - 1 = omega (arith, p.above) in
            (record { part = b; at = p.holds-second; fit = f.1 }, record { part = c; at = subst (Item t c) e p.holds-third; fit = f.2 })

    pub three-is : (ls : List ℤ) (a b c : ItemAnswer) (r : Answer) → IsItem t ls (left_of (get_or t k 0)) a → IsItem t ls (middle_of (get_or t k 0)) b → IsItem t ls (k - 1) c
        → ((o p q : Option offers.Item) → a ≡ item_of o → b ≡ item_of p → c ≡ item_of q → r ≡ channel_of (given o (λ x. given p (λ y. given q (λ z. some (three_items x y z)))))) → IsChannel t ls k r
    unfolding Channel eval_channel channel_answer item_answer
    three-is ls a b c r u v w f (one_item x) p = absurd (g (omega (arith, is, item-kind t k x p)))
    three-is ls a b c r u v w f (two_items x y) p = absurd (h (is ∙ p.kind-is))
    three-is ls a b c r u v w f (three_items x y z) p =
        let e : p.right ≡ k - 1 = omega (arith, p.above) in
        f (eval_item ls x) (eval_item ls y) (eval_item ls z) (u x p.holds-first) (v y p.holds-second) (w z (subst (Item t z) e p.holds-third))

    pub second_lacks : (ls : List ℤ) → IsItem t ls (middle_of (get_or t k 0)) None → IsChannel t ls k None
    unfolding Channel eval_channel channel_answer item_answer
    second_lacks ls v (one_item x) p = absurd (g (omega (arith, is, item-kind t k x p)))
    second_lacks ls v (two_items x y) p = absurd (h (is ∙ p.kind-is))
    second_lacks ls v (three_items x y z) p = lacks-second (eval_item ls x) (eval_item ls y) _ (v y p.holds-second)
