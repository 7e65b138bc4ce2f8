-- A launch adds its pair and no other, the pairs go on ascending, a lit pair is not added again, and the number of pairs rises by one exactly when it was not lit. By induction on the pairs.
use Prim.Native.Nat.{suc}
use mathlib.Core.Path.{◌≡◌, refl, sym, ap, ◌∙◌}
use mathlib.Core.List.Memᴰ
use mathlib.Core.List.{List, [], ◌∷◌, Memᴰ as In}
use mathlib.Core.Logic.{◌↔◌, ◌⊎◌, inl, inr, ⊎_elim}
use native.Mathlib.Omega.{arith}
use lib.ListN.{length}
use Rattle.rules.specs.Offers.{Pair}
use Rattle.rules.specs.Order.{Ascending}
use Rattle.rules.specs.Pairs.{Before, insert}
use Rattle.rules.proofs.Before.{before-trans, before-apart, Compared, under, over, equal, compared}

-- what becomes of a list with y at its head
data Inserted (x y : Pair) (ys : List Pair) : List Pair → Type 0 where
  ahead : Before x y → Inserted x y ys (x ∷ y ∷ ys)
  behind : Before y x → Inserted x y ys (y ∷ insert x ys)
  already : x ≡ y → Inserted x y ys (y ∷ ys)

inserted : (x y : Pair) (ys : List Pair) → Inserted x y ys (insert x (y ∷ ys))
unfolding insert
inserted x y ys = go (compared x y)
  where
    go : Compared x y → Inserted x y ys (insert x (y ∷ ys))
    go (under e) = rw e (ahead e)
    go (over e f) = rw (e, f) (behind f)
    go (equal e f q) = rw (e, f) (already q)

insert-in : (x : Pair) (L : List Pair) (z : Pair) → In z (insert x L) → (z ≡ x) ⊎ In z L
unfolding insert
insert-in x [] z h = Memᴰ.cases_cons h
insert-in x (y ∷ ys) z h = go (inserted x y ys) h (insert-in x ys z)
  where
    go : {L : List Pair} → Inserted x y ys L → In z L → (In z (insert x ys) → (z ≡ x) ⊎ In z ys) → (z ≡ x) ⊎ In z (y ∷ ys)
    go (ahead l) h f = Memᴰ.cases_cons h
    go (behind l) h f = ⊎_elim (λ e. inr (In.head e)) (λ i. ⊎_elim (λ e. inl e) (λ j. inr (In.tail j)) (f i)) (Memᴰ.cases_cons h)
    go (already e) h f = inr h

in_insert : (x : Pair) (L : List Pair) (z : Pair) → (z ≡ x) ⊎ In z L → In z (insert x L)
unfolding insert
in_insert x [] z h = ⊎_elim (λ e. In.head e) (λ i. absurd (Memᴰ.not-nil i)) h
in_insert x (y ∷ ys) z h = go (inserted x y ys) h (in_insert x ys z)
  where
    go : {L : List Pair} → Inserted x y ys L → (z ≡ x) ⊎ In z (y ∷ ys) → ((z ≡ x) ⊎ In z ys → In z (insert x ys)) → In z L
    go (ahead l) h f = ⊎_elim (λ e. In.head e) (λ i. In.tail i) h
    go (behind l) h f = ⊎_elim (λ e. In.tail (f (inl e))) (λ i. ⊎_elim (λ e. In.head e) (λ j. In.tail (f (inr j))) (Memᴰ.cases_cons i)) h
    go (already q) h f = ⊎_elim (λ e. In.head (e ∙ q)) (λ i. i) h

-- 000, (3): D(L) ∪ (c, i)
pub launch-adds : (x : Pair) (L : List Pair) (z : Pair) → In z (insert x L) ↔ ((z ≡ x) ⊎ In z L)
launch-adds x L z = (insert-in x L z, in_insert x L z)

pub insert-ascends : (x : Pair) (L : List Pair) → Ascending Before L → Ascending Before (insert x L)
unfolding insert Ascending
insert-ascends x [] a = (λ y i. absurd (Memᴰ.not-nil i), tt)
insert-ascends x (y ∷ ys) a = go (inserted x y ys) (insert-ascends x ys a.1)
  where
    go : {L : List Pair} → Inserted x y ys L → Ascending Before (insert x ys) → Ascending Before L
    go (ahead l) f = (λ z i. ⊎_elim (λ e. rw e l) (λ j. before-trans x y z l (a.0 z j)) (Memᴰ.cases_cons i), a)
    go (behind l) f = (λ z i. ⊎_elim (λ e. rw e l) (λ j. a.0 z j) (insert-in x ys z i), f)
    go (already e) f = a

-- a launch of a lit pair changes nothing
pub launch-lit : (x : Pair) (L : List Pair) → Ascending Before L → In x L → insert x L ≡ L
unfolding insert Ascending
launch-lit x [] a h = absurd (Memᴰ.not-nil h)
launch-lit x (y ∷ ys) a h = go (inserted x y ys) (launch-lit x ys a.1) (Memᴰ.cases_cons h)
  where
    go : {L : List Pair} → Inserted x y ys L → (In x ys → insert x ys ≡ ys) → (x ≡ y) ⊎ In x ys → L ≡ y ∷ ys
    go (ahead l) f h = absurd (⊎_elim (before-apart x y l) (λ i. before-apart x x (before-trans x y x l (a.0 x i)) refl) h)
    go (behind l) f h = ⊎_elim (λ e. absurd (before-apart y x l (sym e))) (λ i. ap (λ t. y ∷ t) (f i)) h
    go (already e) f h = refl

insert-longer : (x : Pair) (L : List Pair) → (In x L → ⊥) → length (insert x L) ≡ suc (length L)
unfolding insert
insert-longer x [] h = refl
insert-longer x (y ∷ ys) h = go (inserted x y ys) (insert-longer x ys (λ i. h (In.tail i)))
  where
    go : {L : List Pair} → Inserted x y ys L → length (insert x ys) ≡ suc (length ys) → length L ≡ suc (suc (length ys))
    go (ahead l) f = refl
    go (behind l) f = ap suc f
    go (already e) f = absurd (h (In.head e))

-- the number of pairs rises by one exactly when the pair was not lit
pub launch-counts : (x : Pair) (L : List Pair) → Ascending Before L → (length (insert x L) ≡ suc (length L)) ↔ (In x L → ⊥)
launch-counts x L a = (λ e h. let l : length (insert x L) ≡ length L = ap length (launch-lit x L a h) in omega arith, insert-longer x L)
