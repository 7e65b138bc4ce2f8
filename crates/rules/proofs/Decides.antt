-- The listing's tests decide what the rules ask: a pair matches, some lit pair matches. By cases, from the laws of `is_same` and `eqb`.
use mathlib.Core.Path.{◌≡◌, refl, ap, ap₂, subst}
use mathlib.Core.Bool.{Bool, true, false, ◌&&◌, ◌||◌}
use mathlib.Core.List.Memᴰ
use mathlib.Core.List.{List, [], ◌∷◌, Memᴰ as In}
use mathlib.Core.Logic.{◌⊎◌, inl, inr, ⊎_elim}
use Prim.Native.Nat.{ℕ}
use native.Mathlib.Omega.{arith}
use borrow.Author.Tests.{eqb-true, eqb-false}
use lib.IntN.{ℤ}
use lib.Dec.{eqb}
use Rattle.value.specs.Arithmetic.{is_same}
use Rattle.value.specs.Items.{one_item, two_items, three_items}
use Rattle.value.proofs.Kit.{true-not-false, false-not-true, same-eq, eq-same}
use Rattle.rules.specs.Offers.{Item, number, named, Channel, Pair, Set, within, Query, Each, done, more, Matches}
use Rattle.rules.specs.Listing.{same_item, same_channel, all_within, matches, any_match}

-- the test b decides P
pub data Decides (P : Type 0) : Bool → Type 0 where
  holds : P → Decides P true
  fails : (P → ⊥) → Decides P false

pub on : {P : Type 0} {b : Bool} → Decides P b → b ≡ true → P
on (holds p) e = p
on (fails p) e = false-not-true e

pub off : {P : Type 0} {b : Bool} → Decides P b → b ≡ false → P → ⊥
off (holds p) e = true-not-false e
off (fails p) e = p

pub passes : {P : Type 0} {b : Bool} → Decides P b → P → b ≡ true
passes (holds r) p = refl
passes (fails r) p = absurd (r p)

pub refuses : {P : Type 0} {b : Bool} → Decides P b → (P → ⊥) → b ≡ false
refuses (holds r) p = absurd (p r)
refuses (fails r) p = refl

-- ---- the connectives
pub both : {P Q : Type 0} {a b : Bool} → Decides P a → Decides Q b → Decides (P × Q) (a && b)
both (holds p) (holds q) = holds (p, q)
both (holds p) (fails q) = fails (λ h. q h.1)
both (fails p) (holds q) = fails (λ h. p h.0)
both (fails p) (fails q) = fails (λ h. p h.0)

pub either : {P Q : Type 0} {a b : Bool} → Decides P a → Decides Q b → Decides (P ⊎ Q) (a || b)
either (holds p) (holds q) = holds (inl p)
either (holds p) (fails q) = holds (inl p)
either (fails p) (holds q) = holds (inr q)
either (fails p) (fails q) = fails (⊎_elim p q)

pub along : {P Q : Type 0} {a : Bool} → (P → Q) → (Q → P) → Decides P a → Decides Q a
along f g (holds p) = holds (f p)
along f g (fails p) = fails (λ q. p (g q))

itself : (b : Bool) → Decides (b ≡ true) b
itself true = holds refl
itself false = fails (λ e. false-not-true e)

-- ---- numbers and channels
pub equal : (m n : ℕ) → Decides (m ≡ n) (eqb m n)
equal m n = go (eqb m n) refl
  where
    go : (b : Bool) → eqb m n ≡ b → Decides (m ≡ n) b
    go true e = holds (eqb-true m n e)
    go false e = fails (eqb-false m n e)

same : (x y : ℤ) → Decides (x ≡ y) (is_same x y)
same x y = along (same-eq x y) (eq-same x y) (itself (is_same x y))

item : (x y : Item) → Decides (x ≡ y) (same_item x y)
unfolding same_item
item (number x) (number y) = along (λ e. ap number e) (λ e. cc) (same x y)
item (number x) (named n) = fails (λ e. let z : ◌≡◌ {A = ℕ} 0 1 = cc in omega arith)
item (named m) (number y) = fails (λ e. let z : ◌≡◌ {A = ℕ} 0 1 = cc in omega arith)
item (named m) (named n) = along (λ e. ap named e) (λ e. cc) (equal m n)

pub channel : (x y : Channel) → Decides (x ≡ y) (same_channel x y)
unfolding same_channel
channel (one_item a) (one_item d) = along (λ e. ap one_item e) (λ e. cc) (item a d)
channel (two_items a b) (two_items d e) = along (λ h. ap₂ two_items h.0 h.1) (λ h. (cc, cc)) (both (item a d) (item b e))
channel (three_items a b c) (three_items d e f) =
    along (λ h. ap₂ (λ (x : Item) (y : Item × Item). three_items x y.0 y.1) h.0 (ap₂ (λ (x y : Item). (x, y)) h.1.0 h.1.1)) (λ h. (cc, (cc, cc))) (both (item a d) (both (item b e) (item c f)))
channel (one_item a) (two_items d e) = fails (λ h. let z : ◌≡◌ {A = ℕ} 0 1 = cc in omega arith)
channel (one_item a) (three_items d e f) = fails (λ h. let z : ◌≡◌ {A = ℕ} 0 1 = cc in omega arith)
channel (two_items a b) (one_item d) = fails (λ h. let z : ◌≡◌ {A = ℕ} 0 1 = cc in omega arith)
channel (two_items a b) (three_items d e f) = fails (λ h. let z : ◌≡◌ {A = ℕ} 0 1 = cc in omega arith)
channel (three_items a b c) (one_item d) = fails (λ h. let z : ◌≡◌ {A = ℕ} 0 1 = cc in omega arith)
channel (three_items a b c) (two_items d e) = fails (λ h. let z : ◌≡◌ {A = ℕ} 0 1 = cc in omega arith)

-- ---- matching
head_of : {x : Set} {xs : List Set} {v : ℤ} {vs : List ℤ} → Each (x ∷ xs) (v ∷ vs) → within x v ≡ true
head_of (more h hs) = h

rest_of : {x : Set} {xs : List Set} {v : ℤ} {vs : List ℤ} → Each (x ∷ xs) (v ∷ vs) → Each xs vs
rest_of (more h hs) = hs

values : (xs : List Set) (vs : List ℤ) → Decides (Each xs vs) (all_within xs vs)
unfolding all_within
values [] [] = holds done
values [] (v ∷ vs) = fails (λ h. elim h [ ])
values (x ∷ xs) [] = fails (λ h. elim h [ ])
values (x ∷ xs) (v ∷ vs) = along (λ h. more h.0 h.1) (λ h. (head_of h, rest_of h)) (both (itself (within x v)) (values xs vs))

-- a pair matches exactly when the test passes
pub matching : (w : Query) (x : Pair) → Decides (Matches w x) (matches w x)
unfolding matches
matching w x = along (λ h. record { same = h.0; each = h.1 }) (λ m. (m.same, m.each)) (both (channel w.channel x.channel) (values w.sets x.values))

-- some lit pair matches exactly when the test passes
pub any-matching : (w : Query) (L : List Pair) → Decides ((x : Pair) × In x L × Matches w x) (any_match w L)
unfolding any_match
any-matching w [] = fails (λ h. Memᴰ.not-nil h.1)
any-matching w (p ∷ L) =
    along (⊎_elim (λ m. (p, In.head refl, m)) (λ h. (h.0, In.tail h.1, h.2)))
    (λ h. ⊎_elim (λ e. inl (subst (λ (x : Pair). Matches w x) e h.2)) (λ i. inr (h.0, i, h.2)) (Memᴰ.cases_cons h.1))
    (either (matching w p) (any-matching w L))
