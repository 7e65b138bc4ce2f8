-- Where a row stands among rows that ascend: as many rows as stand before it are the first ones. By induction on the rows.
use mathlib.Core.Path.{◌≡◌, refl, sym, ap, ◌∙◌}
use mathlib.Core.Bool.{Bool, true, false, cond, not, ◌&&◌}
use mathlib.Core.List.{List, [], ◌∷◌}
use Prim.Native.Nat.{ℕ, zero, suc, ◌+◌, ◌*◌, ◌≤◌, ◌<◌}
use native.Mathlib.Nat.{suc-mul, zero-mul}
use native.Mathlib.Omega.{arith}
use lib.IntN.{ℤ}
use lib.ListN.{length, get_or, take, drop}
use lib.Seq.{drop-drop}
use Rattle.std.specs.List.{AllWithin, AllAdjacentBelow, IsAllAdjacentAnswer}
use Rattle.std.specs.List.Sorted.{IsPartitionedBy}
use Rattle.value.proofs.Kit.{false-not-true}
use Rattle.rules.specs.Order.{less}
use Rattle.rules.proofs.Less.{less-trans}
use Rattle.state.specs.Test.{rows, leads, ascends, place_of, is_lit}
use Rattle.state.proofs.Tests.{both}

-- row i of the rows of a list
pub row_at : (w n i : ℕ) (s : List ℤ) → i < n → get_or (rows w n s) i [] ≡ take w (drop (i * w) s)
unfolding rows
row_at w zero i s l = absurd (omega arith)
row_at w (suc n) zero s l = ap (λ (m : ℕ). take w (drop m s)) (sym (zero-mul w))
row_at w (suc n) (suc i) s l =
    let e : w + i * w ≡ suc i * w = omega (arith, suc-mul i w) in
    row_at w n i (drop w s) (omega arith) ∙ ap (take w) (drop-drop (i * w) w s ∙ ap (λ (m : ℕ). drop m s) e)

-- the first stands before every later one
first-before : (r : List ℤ) (rs : List (List ℤ)) (i : ℕ) → ascends (r ∷ rs) ≡ true → i < length rs → less r (get_or rs i []) ≡ true
unfolding ascends leads
first-before r [] i a l = absurd (omega arith)
first-before r (q ∷ rs) zero a l = (both (less r q) _ a).0
first-before r (q ∷ rs) (suc i) a l =
    let b = both (less r q) _ a in
    less-trans r q (get_or rs i []) b.0 (first-before q rs i b.1 (omega arith))

pub place-more : (row : List ℤ) (rs : List (List ℤ)) (i : ℕ) → ascends rs ≡ true → i < length rs → less (get_or rs i []) row ≡ true → i < place_of row rs
unfolding place_of ascends
place-more row [] i a l e = absurd (omega arith)
place-more row (r ∷ rs) zero a l e = rw e (omega arith)
place-more row (r ∷ rs) (suc i) a l e =
    let f : less r row ≡ true = less-trans r (get_or rs i []) row (first-before r rs i a (omega arith)) e in
    let b = both (leads r rs) _ a in
    let h = place-more row rs i b.1 (omega arith) e in
    rw f (omega arith)

pub place-less : (row : List ℤ) (rs : List (List ℤ)) (i : ℕ) → i < length rs → less (get_or rs i []) row ≡ false → place_of row rs ≤ i
unfolding place_of
place-less row [] i l e = absurd (omega arith)
place-less row (r ∷ rs) zero l e = rw e (omega arith)
place-less row (r ∷ rs) (suc i) l e = go (less r row) (place-less row rs i (omega arith) e)
  where
    go : (t : Bool) → place_of row rs ≤ i → cond t (suc (place_of row rs)) 0 ≤ suc i
    go true h = omega arith
    go false h = omega arith

pub place-bound : (row : List ℤ) (rs : List (List ℤ)) → place_of row rs ≤ length rs
unfolding place_of
place-bound row [] = omega arith
place-bound row (r ∷ rs) = go (less r row) (place-bound row rs)
  where
    go : (t : Bool) → place_of row rs ≤ length rs → cond t (suc (place_of row rs)) 0 ≤ suc (length rs)
    go true h = omega arith
    go false h = omega arith

-- ---- whether it is one of them
pub lit-past : (row : List ℤ) (rs : List (List ℤ)) → length rs ≤ place_of row rs → is_lit row rs ≡ false
unfolding place_of is_lit
lit-past row [] l = refl
lit-past row (r ∷ rs) l = go (less r row) (lit-past row rs) l
  where
    go : (t : Bool) → (length rs ≤ place_of row rs → is_lit row rs ≡ false) → suc (length rs) ≤ cond t (suc (place_of row rs)) 0 → cond t (is_lit row rs) (not (less row r)) ≡ false
    go true f h = f (omega arith)
    go false f h = absurd (omega arith)

pub lit-here : (row : List ℤ) (rs : List (List ℤ)) → place_of row rs < length rs → is_lit row rs ≡ not (less row (get_or rs (place_of row rs) []))
unfolding place_of is_lit
lit-here row [] l = absurd (omega arith)
lit-here row (r ∷ rs) l = go (less r row) (lit-here row rs) l
  where
    go : (t : Bool) → (place_of row rs < length rs → is_lit row rs ≡ not (less row (get_or rs (place_of row rs) []))) → cond t (suc (place_of row rs)) 0 < suc (length rs) → cond t (is_lit row rs) (not (less row r)) ≡ not (less row (get_or (r ∷ rs) (cond t (suc (place_of row rs)) 0) []))
    go true f h = f (omega arith)
    go false f h = refl

get_or-any : (rs : List (List ℤ)) (i : ℕ) (a b : List ℤ) → i < length rs → get_or rs i a ≡ get_or rs i b
get_or-any [] i a b l = absurd (omega arith)
get_or-any (r ∷ rs) zero a b l = refl
get_or-any (r ∷ rs) (suc i) a b l = get_or-any rs i a b (omega arith)

-- the pair at the place found
pub lit_stands : (row : List ℤ) (rs : List (List ℤ)) (place : ℕ) (d : List ℤ) → place ≡ place_of row rs → place < length rs → is_lit row rs ≡ not (less row (get_or rs place d))
lit_stands row rs place d p l =
    lit-here row rs (omega arith) ∙ ap (λ (r : List ℤ). not (less row r)) (ap (λ (i : ℕ). get_or rs i []) (sym p) ∙ get_or-any rs place [] d l)

pub lit-place : (row : List ℤ) (rs : List (List ℤ)) → is_lit row rs ≡ true → place_of row rs < length rs
unfolding place_of is_lit
lit-place row [] e = false-not-true e
lit-place row (r ∷ rs) e = go (less r row) (lit-place row rs) e
  where
    go : (t : Bool) → (is_lit row rs ≡ true → place_of row rs < length rs) → cond t (is_lit row rs) (not (less row r)) ≡ true → cond t (suc (place_of row rs)) 0 < suc (length rs)
    go true f e = let h = f e in omega arith
    go false f e = omega arith

-- ---- as the library's search and test say it

-- those that stand before a row come first
pub parted : (row : List ℤ) (rs : List (List ℤ)) → ascends rs ≡ true → IsPartitionedBy (λ (r : List ℤ). less r row) rs
parted row rs a i j d le l e = go (less (get_or rs i d) row) refl
  where
    go : (t : Bool) → less (get_or rs i d) row ≡ t → t ≡ true
    go true f = refl
    go false f =
        let u : less (get_or rs j []) row ≡ true = ap (λ (r : List ℤ). less r row) (get_or-any rs j [] d l) ∙ e in
        let v : less (get_or rs i []) row ≡ false = ap (λ (r : List ℤ). less r row) (get_or-any rs i [] d (omega arith)) ∙ f in
        absurd (omega (arith, place-more row rs j a l u, place-less row rs i (omega arith) v))

pub point-place : (row : List ℤ) (rs : List (List ℤ)) (i : ℕ) → i ≤ length rs → AllWithin (λ (r : List ℤ). less r row ≡ true) rs 0 i → AllWithin (λ (r : List ℤ). less r row ≡ false) rs i (length rs) → i ≡ place_of row rs
unfolding place_of
point-place row [] i l f g = omega arith
point-place row (r ∷ rs) zero l f g = rw (g 0 [] (omega arith) (omega arith)) refl
point-place row (r ∷ rs) (suc i) l f g =
    rw (f 0 [] (omega arith) (omega arith))
    (ap suc (point-place row rs i (omega arith) (λ k d a b. f (suc k) d (omega arith) (omega arith)) (λ k d a b. g (suc k) d (omega arith) (omega arith))))

all-ascend : (rs : List (List ℤ)) → AllAdjacentBelow (λ (x y : List ℤ). true ≡ less x y) rs (length rs) → true ≡ ascends rs
unfolding ascends leads
all-ascend [] h = refl
all-ascend (r ∷ []) h = refl
all-ascend (r ∷ q ∷ rs) h = rw (sym (h 0 [] (omega arith))) (all-ascend (q ∷ rs) (λ k d l. let a : suc k + 1 ≡ suc (k + 1) = omega arith in rw a at (h (suc k) d (omega arith))))

one-falls : (rs : List (List ℤ)) (k : ℕ) → k + 1 < length rs → ((d : List ℤ) → false ≡ less (get_or rs k d) (get_or rs (k + 1) d)) → false ≡ ascends rs
unfolding ascends leads
one-falls [] k l f = absurd (omega arith)
one-falls (r ∷ []) k l f = absurd (omega arith)
one-falls (r ∷ q ∷ rs) zero l f = rw (sym (f [])) refl
one-falls (r ∷ q ∷ rs) (suc k) l f = go (less r q) (one-falls (q ∷ rs) k (omega arith) (λ d. let a : suc k + 1 ≡ suc (k + 1) = omega arith in rw a at (f d)))
  where
    go : (t : Bool) → false ≡ ascends (q ∷ rs) → false ≡ (t && ascends (q ∷ rs))
    go true e = e
    go false e = refl

pub sorted-ascends : (rs : List (List ℤ)) (r : Bool) → IsAllAdjacentAnswer (λ (x y : List ℤ) (b : Bool). b ≡ less x y) rs r → r ≡ ascends rs
sorted-ascends rs true h = all-ascend rs h
sorted-ascends rs false h = one-falls rs h.0 h.1 h.2
