-- Matching by the numbers that show sets, values and channels. By cases of what is shown.
use Prim.Native.Nat.{ℕ, ◌≤◌, ◌<◌}
use mathlib.Core.Path.{◌≡◌, refl, sym, ap, subst, ◌∙◌}
use mathlib.Core.Bool.{Bool, true, false, ◌&&◌}
use mathlib.Core.List.{List}
use native.Mathlib.Omega.{arith}
use borrow.Author.Tests.{eqb-true, eqb-false}
use lib.Dec.{eqb}
use lib.IntN.{ℤ}
use Rattle.std.specs.Ordering.{int_eq}
use Rattle.std.proofs.lemmas.Bool.Decides.{Decides-int_eq}
use Rattle.value.proofs.Kit.{true-not-false}
use Rattle.rules.proofs.Decides as decides
use Rattle.rules.proofs.Decides.{on, passes, refuses}
use Rattle.rules.specs.Offers as offers
use Rattle.rules.specs.Listing.{same_channel, all_within}
use Rattle.eval.specs.Shown as shown
use Rattle.eval.specs.Shown.{set_in, ShowsValues, ShowsSet, ShowsSets}
use Rattle.eval.specs.declared.channel.Channel.{Channel}
use Rattle.eval.specs.Channels.{shape_of, first_of, second_of, third_of, ShowsChannel}
use Rattle.eval.proofs.Shapes.{channels-alike}

and-true : (p : Bool) → p ≡ p && true
and-true true = refl
and-true false = refl

and-false : (p : Bool) → false ≡ p && false
and-false true = refl
and-false false = refl

-- ---- values in sets
module _ {t : List ℕ} {ls : List ℤ} {n : ℕ} {a a' b b' : ℤ} where
  -- the first set
  pub first-set : {xs : List offers.Set} → ShowsSets t ls n a a' b b' xs → (x : offers.Set) × ShowsSet t ls (set_in a a') x
  first-set (shown.ShowsSets.one {x} e s f g) = (x, s.shows)
  first-set (shown.ShowsSets.two {x} e s r) = (x, s.shows)

  -- the second
  pub second-set : {xs : List offers.Set} → 2 ≤ n → ShowsSets t ls n a a' b b' xs → (x : offers.Set) × ShowsSet t ls (set_in b b') x
  second-set l (shown.ShowsSets.one e s f g) = absurd (omega arith)
  second-set l (shown.ShowsSets.two {y = x} e s r) = (x, r.shows)

  pub counts-differ : {k : ℕ} {v z u y : ℤ} {xs : List offers.Set} {vs : List ℤ} → ShowsSets t ls n a a' b b' xs → ShowsValues k v z u y vs → (n ≡ k → ⊥) → false ≡ all_within xs vs
  unfolding all_within
  counts-differ (shown.ShowsSets.one e s f g) (shown.ShowsValues.one e' h i j l) d = absurd (d (omega arith))
  counts-differ (shown.ShowsSets.one {x} e s f g) (shown.ShowsValues.two {x = c} e' h i j l) d = and-false (offers.within x c)
  counts-differ (shown.ShowsSets.two {x} e s r) (shown.ShowsValues.one {x = c} e' h i j l) d = and-false (offers.within x c)
  counts-differ (shown.ShowsSets.two e s r) (shown.ShowsValues.two e' h i j l) d = absurd (d (omega arith))

  pub first_out : {k : ℕ} {v z u y : ℤ} {xs : List offers.Set} {vs : List ℤ} → ShowsSets t ls n a a' b b' xs → ShowsValues k v z u y vs → n ≡ k → ((x : offers.Set) → ShowsSet t ls (set_in a a') x → false ≡ offers.within x v) → false ≡ all_within xs vs
  unfolding all_within
  first_out (shown.ShowsSets.one {x} e s f g) (shown.ShowsValues.one e' h i j l) d o = rw (← h) (rw (← o x s.shows))
  first_out (shown.ShowsSets.one e s f g) (shown.ShowsValues.two e' h i j l) d o = absurd (omega arith)
  first_out (shown.ShowsSets.two e s r) (shown.ShowsValues.one e' h i j l) d o = absurd (omega arith)
  first_out (shown.ShowsSets.two {x} e s r) (shown.ShowsValues.two e' h i j l) d o = rw (← h) (rw (← o x s.shows))

  pub only-in : {k : ℕ} {v z u y : ℤ} {xs : List offers.Set} {vs : List ℤ} → ShowsSets t ls n a a' b b' xs → ShowsValues k v z u y vs → n ≡ k → k < 2 → ((x : offers.Set) → ShowsSet t ls (set_in a a') x → true ≡ offers.within x v) → true ≡ all_within xs vs
  unfolding all_within
  only-in (shown.ShowsSets.one {x} e s f g) (shown.ShowsValues.one e' h i j l) d m o = rw (← h) (rw (← o x s.shows))
  only-in (shown.ShowsSets.one e s f g) (shown.ShowsValues.two e' h i j l) d m o = absurd (omega arith)
  only-in (shown.ShowsSets.two e s r) (shown.ShowsValues.one e' h i j l) d m o = absurd (omega arith)
  only-in (shown.ShowsSets.two e s r) (shown.ShowsValues.two e' h i j l) d m o = absurd (omega arith)

  pub second-tells : (p : Bool) {k : ℕ} {v z u y : ℤ} {xs : List offers.Set} {vs : List ℤ} → ShowsSets t ls n a a' b b' xs → ShowsValues k v z u y vs → n ≡ k → 2 ≤ k
      → ((x : offers.Set) → ShowsSet t ls (set_in a a') x → true ≡ offers.within x v) → ((x : offers.Set) → ShowsSet t ls (set_in b b') x → p ≡ offers.within x u) → p ≡ all_within xs vs
  unfolding all_within
  second-tells p (shown.ShowsSets.one e s f g) w d m o q = absurd (omega arith)
  second-tells p (shown.ShowsSets.two {x} {y} e s r) (shown.ShowsValues.one e' h i j l) d m o q = absurd (omega arith)
  second-tells p {u = u} (shown.ShowsSets.two {x} {y = x₂} e s r) (shown.ShowsValues.two e' h i j l) d m o q =
      rw (← h, ← j) (rw (← o x s.shows) (q x₂ r.shows ∙ and-true (offers.within x₂ u)))

-- ---- channels
-- the same channel, as a statement
pub same-is : (x y : offers.Channel) → same_channel x y ≡ true → x ≡ y
same-is x y e = on (decides.channel x y) e

pub is_same_lem : (x : offers.Channel) → same_channel x x ≡ true
is_same_lem x = passes (decides.channel x x) refl

-- a channel is told by its numbers
numbers-alike : {a b : Channel} → a.shape ≡ b.shape → a.first ≡ b.first → a.second ≡ b.second → a.third ≡ b.third → a ≡ b
numbers-alike {a} {b} p q r s =
    ap (λ (n : ℕ). record { shape = n; first = a.first; second = a.second; third = a.third }) p
    ∙ ap (λ (z : ℤ). record { shape = b.shape; first = z; second = a.second; third = a.third }) q
    ∙ ap (λ (z : ℤ). record { shape = b.shape; first = b.first; second = z; third = a.third }) r
    ∙ ap (λ (z : ℤ). record { shape = b.shape; first = b.first; second = b.second; third = z }) s

module _ {a b : Channel} {x y : offers.Channel} (h : ShowsChannel a.shape a.first a.second a.third x) (g : ShowsChannel b.shape b.first b.second b.third y) where
  channels-differ : (a ≡ b → ⊥) → false ≡ same_channel x y
  channels-differ n =
      sym (refuses (decides.channel x y) (λ e. n (numbers-alike (h.shape_is ∙ ap shape_of e ∙ sym g.shape_is) (h.first-is ∙ ap first_of e ∙ sym g.first-is) (h.second_is ∙ ap second_of e ∙ sym g.second_is) (h.third-is ∙ ap third_of e ∙ sym g.third-is))))

  channels-same : a ≡ b → true ≡ same_channel x y
  channels-same e = sym (passes (decides.channel x y) (channels-alike (subst (λ (c : Channel). ShowsChannel c.shape c.first c.second c.third x) e h) g))

  -- their numbers compared tell whether two channels are the same
  pub channels-told : (eqb a.shape b.shape && (int_eq a.first b.first && (int_eq a.second b.second && int_eq a.third b.third))) ≡ same_channel x y
  channels-told = go _ _ _ _ refl refl refl refl
    where
      unlike : {u v : ℤ} → int_eq u v ≡ false → u ≡ v → ⊥
      unlike {u} {v} e d = true-not-false (sym ((Decides-int_eq u v).1 d) ∙ e)

      go : (p q r s : Bool) → eqb a.shape b.shape ≡ p → int_eq a.first b.first ≡ q → int_eq a.second b.second ≡ r → int_eq a.third b.third ≡ s → (p && (q && (r && s))) ≡ same_channel x y
      go true true true true d e f k =
          channels-same (numbers-alike (eqb-true a.shape b.shape d) ((Decides-int_eq a.first b.first).0 e) ((Decides-int_eq a.second b.second).0 f) ((Decides-int_eq a.third b.third).0 k))
      go true true true false d e f k = channels-differ (λ c. unlike k (ap (λ (y : Channel). y.third) c))
      go true true false s d e f k = channels-differ (λ c. unlike f (ap (λ (y : Channel). y.second) c))
      go true false r s d e f k = channels-differ (λ c. unlike e (ap (λ (y : Channel). y.first) c))
      go false q r s d e f k = channels-differ (λ c. eqb-false a.shape b.shape d (ap (λ (y : Channel). y.shape) c))
