-- A kill takes its pair away and no other, the pairs go on ascending, an unlit pair's kill changes nothing, and the number of pairs falls by one exactly when it was lit. By induction on the pairs.
use Prim.Native.Nat.{suc}
use mathlib.Core.Path.{◌≡◌, refl, sym, ap, ◌∙◌}
use mathlib.Core.List.Memᴰ
use mathlib.Core.List.{List, [], ◌∷◌, Memᴰ as In}
use mathlib.Core.Logic.{◌↔◌, ◌⊎◌, ⊎_elim}
use native.Mathlib.Omega.{arith}
use lib.ListN.{length}
use Rattle.rules.specs.Offers.{Pair}
use Rattle.rules.specs.Order.{Ascending}
use Rattle.rules.specs.Rules.{Change, unchanged, launched, killed}
use Rattle.rules.specs.Pairs.{Before, remove, pairs_after}
use Rattle.rules.proofs.Before.{before-trans, before-apart, Compared, under, over, equal, compared}
use Rattle.rules.proofs.Launched.{insert-ascends}

-- what becomes of a list with y at its head
data Removed (x y : Pair) (ys : List Pair) : List Pair → Type 0 where
  passed : Before x y → Removed x y ys (y ∷ ys)
  behind : Before y x → Removed x y ys (y ∷ remove x ys)
  found : x ≡ y → Removed x y ys ys

removed : (x y : Pair) (ys : List Pair) → Removed x y ys (remove x (y ∷ ys))
unfolding remove
removed x y ys = go (compared x y)
  where
    go : Compared x y → Removed x y ys (remove x (y ∷ ys))
    go (under e) = rw e (passed e)
    go (over e f) = rw (e, f) (behind f)
    go (equal e f q) = rw (e, f) (found q)

remove-in : (x : Pair) (L : List Pair) → Ascending Before L → (z : Pair) → In z (remove x L) → In z L × (z ≡ x → ⊥)
unfolding remove Ascending
remove-in x [] a z h = absurd (Memᴰ.not-nil h)
remove-in x (y ∷ ys) a z h = go (removed x y ys) h (remove-in x ys a.1 z)
  where
    go : {L : List Pair} → Removed x y ys L → In z L → (In z (remove x ys) → In z ys × (z ≡ x → ⊥)) → In z (y ∷ ys) × (z ≡ x → ⊥)
    go (passed l) h f = (h, λ e. ⊎_elim (λ d. before-apart x y l (sym e ∙ d)) (λ i. before-apart x z (before-trans x y z l (a.0 z i)) (sym e)) (Memᴰ.cases_cons h))
    go (behind l) h f = ⊎_elim (λ d. (In.head d, λ e. before-apart y x l (sym d ∙ e))) (λ i. let r = f i in (In.tail r.0, r.1)) (Memᴰ.cases_cons h)
    go (found q) h f = (In.tail h, λ e. before-apart y z (a.0 z h) (sym q ∙ sym e))

in_remove : (x : Pair) (L : List Pair) (z : Pair) → In z L → (z ≡ x → ⊥) → In z (remove x L)
unfolding remove
in_remove x [] z h d = h
in_remove x (y ∷ ys) z h d = go (removed x y ys) (λ i. in_remove x ys z i d) (Memᴰ.cases_cons h)
  where
    go : {L : List Pair} → Removed x y ys L → (In z ys → In z (remove x ys)) → (z ≡ y) ⊎ In z ys → In z L
    go (passed l) f c = h
    go (behind l) f c = ⊎_elim (λ e. In.head e) (λ i. In.tail (f i)) c
    go (found q) f c = ⊎_elim (λ e. absurd (d (e ∙ sym q))) (λ i. i) c

-- 000, (4): D(L) \ (c, i)
pub kill-takes : (x : Pair) (L : List Pair) → Ascending Before L → (z : Pair) → In z (remove x L) ↔ (In z L × (z ≡ x → ⊥))
kill-takes x L a z = (remove-in x L a z, λ h. in_remove x L z h.0 h.1)

pub remove-ascends : (x : Pair) (L : List Pair) → Ascending Before L → Ascending Before (remove x L)
unfolding remove Ascending
remove-ascends x [] a = tt
remove-ascends x (y ∷ ys) a = go (removed x y ys) (remove-ascends x ys a.1) (λ z i. (remove-in x ys a.1 z i).0)
  where
    go : {L : List Pair} → Removed x y ys L → Ascending Before (remove x ys) → ((z : Pair) → In z (remove x ys) → In z ys) → Ascending Before L
    go (passed l) f g = a
    go (behind l) f g = (λ z i. a.0 z (g z i), f)
    go (found e) f g = a.1

-- pairs ascend after every step
pub pairs-ascend : (n : Change) (L : List Pair) → Ascending Before L → Ascending Before (pairs_after n L)
unfolding pairs_after
pairs-ascend unchanged L a = a
pairs-ascend (launched x) L a = insert-ascends x L a
pairs-ascend (killed x) L a = remove-ascends x L a

-- a kill of an unlit pair changes nothing
pub kill-unlit : (x : Pair) (L : List Pair) → (In x L → ⊥) → remove x L ≡ L
unfolding remove
kill-unlit x [] h = refl
kill-unlit x (y ∷ ys) h = go (removed x y ys) (kill-unlit x ys (λ i. h (In.tail i)))
  where
    go : {L : List Pair} → Removed x y ys L → remove x ys ≡ ys → L ≡ y ∷ ys
    go (passed l) f = refl
    go (behind l) f = ap (λ t. y ∷ t) f
    go (found e) f = absurd (h (In.head e))

remove-shorter : (x : Pair) (L : List Pair) → Ascending Before L → In x L → suc (length (remove x L)) ≡ length L
unfolding remove Ascending
remove-shorter x [] a h = absurd (Memᴰ.not-nil h)
remove-shorter x (y ∷ ys) a h = go (removed x y ys) (remove-shorter x ys a.1) (Memᴰ.cases_cons h)
  where
    go : {L : List Pair} → Removed x y ys L → (In x ys → suc (length (remove x ys)) ≡ length ys) → (x ≡ y) ⊎ In x ys → suc (length L) ≡ suc (length ys)
    go (passed l) f h = absurd (⊎_elim (before-apart x y l) (λ i. before-apart x x (before-trans x y x l (a.0 x i)) refl) h)
    go (behind l) f h = ⊎_elim (λ e. absurd (before-apart y x l (sym e))) (λ i. ap suc (f i)) h
    go (found e) f h = refl

shorter-lit : (x : Pair) (L : List Pair) → suc (length (remove x L)) ≡ length L → In x L
unfolding remove
shorter-lit x [] h = absurd (omega arith)
shorter-lit x (y ∷ ys) h = go (removed x y ys) (shorter-lit x ys) h
  where
    go : {L : List Pair} → Removed x y ys L → (suc (length (remove x ys)) ≡ length ys → In x ys) → suc (length L) ≡ suc (length ys) → In x (y ∷ ys)
    go (passed l) f h = absurd (omega arith)
    go (behind l) f h = In.tail (f (omega arith))
    go (found e) f h = In.head e

-- the number of pairs falls by one exactly when the pair was lit
pub kill-counts : (x : Pair) (L : List Pair) → Ascending Before L → (suc (length (remove x L)) ≡ length L) ↔ In x L
kill-counts x L a = (shorter-lit x L, remove-shorter x L a)
