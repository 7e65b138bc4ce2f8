-- Rows of one width and what they are the numbers of: the rows of joined numbers, and back; and the tests of padding. By induction on the rows.
use mathlib.Core.Path.{◌≡◌, refl, sym, ap, ap₂, ◌∙◌}
use mathlib.Core.Bool.{Bool, true}
use mathlib.Core.List.{List, [], ◌∷◌, ◌++◌, map, append_assoc}
use Prim.Native.Nat.{ℕ, zero, suc, ◌+◌, ◌-◌, ◌*◌, ◌≤◌}
use native.Mathlib.Nat.{suc-mul, zero-mul}
use native.Mathlib.Omega.{arith}
use lib.IntN.{ℤ, pos}
use lib.ListN.{length, take, drop, replicate, length-append, length-take, length-drop, length-replicate, take-append-drop}
use lib.Seq.{take_at, drop_at, take-add, length-take-le}
use Rattle.value.specs.Range.{InRange}
use Rattle.value.proofs.Kit.{same-eq}
use Rattle.model.specs.Good.{Every}
use Rattle.machine.specs.State.{padded, flatten}
use Rattle.state.specs.Test.{every, rows, is_value, is_zero, is_padded}
use Rattle.state.proofs.Tests.{both}

-- ---- a test of every member, and what it says
pub every-says : {A : Type 0} (t : A → Bool) (P : A → Type 0) → ((x : A) → t x ≡ true → P x) → (xs : List A) → every t xs ≡ true → Every P xs
unfolding every Every
every-says t P h [] e = tt
every-says t P h (x ∷ xs) e = let b = both (t x) (every t xs) e in (h x b.0, every-says t P h xs b.1)

pub says-every : {A : Type 0} (t : A → Bool) (P : A → Type 0) → ((x : A) → P x → t x ≡ true) → (xs : List A) → Every P xs → every t xs ≡ true
unfolding every Every
says-every t P h [] e = refl
says-every t P h (x ∷ xs) e = rw (h x e.0, says-every t P h xs e.1)

pub values-say : (l : List ℤ) → every is_value l ≡ true → Every InRange l
unfolding is_value
values-say l e = every-says is_value InRange (λ z f. let b = both _ _ f in record { low = b.0; high = b.1 }) l e

pub say-values : (l : List ℤ) → Every InRange l → every is_value l ≡ true
unfolding is_value
say-values l e = says-every is_value InRange (λ z r. rw (r.low, r.high)) l e

-- ---- zeros
pub zeros : (l : List ℤ) → every is_zero l ≡ true → l ≡ replicate (length l) (pos 0)
unfolding every is_zero
zeros [] e = refl
zeros (z ∷ l) e = let b = both _ _ e in ap₂ (λ (y : ℤ) (ys : List ℤ). y ∷ ys) (same-eq z (pos 0) b.0) (zeros l b.1)

pub zero-every : (n : ℕ) → every is_zero (replicate n (pos 0)) ≡ true
unfolding every is_zero
zero-every zero = refl
zero-every (suc n) = zero-every n

-- ---- padding
pub padded-length : (n : ℕ) (l : List ℤ) → length l ≤ n → length (padded n l) ≡ n
unfolding padded
padded-length n l h = simp (length-append, length-replicate) (omega arith)

pub padded-back : (n k : ℕ) (l : List ℤ) → length l ≡ n → k ≤ n → every is_zero (drop k l) ≡ true → padded n (take k l) ≡ l
unfolding padded
padded-back n k l e h z =
    let a : n - length (take k l) ≡ length (drop k l) = simp (length-take, length-drop) (omega arith) in
    ap (λ (m : ℕ). take k l ++ replicate m (pos 0)) a ∙ ap (λ (r : List ℤ). take k l ++ r) (sym (zeros (drop k l) z)) ∙ take-append-drop k l

pub padded-front : (n : ℕ) (l : List ℤ) → take (length l) (padded n l) ≡ l
unfolding padded
padded-front n l = take_at l _ (length l) refl

pub padded-end : (n k : ℕ) (l : List ℤ) → length l ≡ k → every is_zero (drop k (padded n l)) ≡ true
unfolding padded
padded-end n k l e = ap (every is_zero) (drop_at l (replicate (n - length l) (pos 0)) k e) ∙ zero-every (n - length l)

pub padded-more : (n : ℕ) (z : ℤ) (l : List ℤ) → padded (suc n) (z ∷ l) ≡ z ∷ padded n l
unfolding padded
padded-more n z l = let e : suc n - suc (length l) ≡ n - length l = omega arith in ap (λ (m : ℕ). z ∷ (l ++ replicate m (pos 0))) e

pub padded-after : (m n : ℕ) (u v : List ℤ) → m ≡ length u + n → padded m (u ++ v) ≡ u ++ padded n v
unfolding padded
padded-after m n u v e =
    let k : m - length (u ++ v) ≡ n - length v = simp length-append (omega arith) in
    ap (λ (j : ℕ). (u ++ v) ++ replicate j (pos 0)) k ∙ append_assoc u v (replicate (n - length v) (pos 0))

pub padded-passes : (n : ℕ) (l : List ℤ) → Every InRange l → is_padded (length l) (padded n l) ≡ true
unfolding is_padded
padded-passes n l r = rw (padded-front n l, say-values l r, padded-end n (length l) l refl)

-- ---- rows
module _ {A : Type 0} (f : A → List ℤ) (w : ℕ) (P : A → Type 0) (wide : (x : A) → P x → length (f x) ≡ w) where
  -- the rows of joined numbers
  pub rows-flatten : (xs : List A) (z : List ℤ) → Every P xs → rows w (length xs) (flatten f xs ++ z) ≡ map f xs
  unfolding rows flatten Every
  rows-flatten [] z h = refl
  rows-flatten (x ∷ xs) z h =
      let a : (f x ++ flatten f xs) ++ z ≡ f x ++ (flatten f xs ++ z) = append_assoc (f x) (flatten f xs) z in
      ap (λ (l : List ℤ). take w l ∷ rows w (length xs) (drop w l)) a
      ∙ ap₂ (λ (r : List ℤ) (rs : List ℤ). r ∷ rows w (length xs) rs) (take_at (f x) _ w (wide x h.0)) (drop_at (f x) _ w (wide x h.0))
      ∙ ap (λ (rs : List (List ℤ)). f x ∷ rs) (rows-flatten xs z h.1)

  pub flatten-length : (xs : List A) → Every P xs → length (flatten f xs) ≡ length xs * w
  unfolding flatten Every
  flatten-length [] h = sym (zero-mul w)
  flatten-length (x ∷ xs) h = omega (arith, length-append (f x) (flatten f xs), wide x h.0, flatten-length xs h.1, suc-mul (length xs) w)

pub map_back : {A B : Type 0} (f : A → B) (g : B → A) (P : A → Type 0) → ((x : A) → P x → g (f x) ≡ x) → (xs : List A) → Every P xs → map g (map f xs) ≡ xs
unfolding Every
map_back f g P h [] e = refl
map_back f g P h (x ∷ xs) e = ap₂ (λ y ys. y ∷ ys) (h x e.0) (map_back f g P h xs e.1)

-- rows that are as wide as they should be, and pass a test
pub record Row (t : List ℤ → Bool) (w : ℕ) (r : List ℤ) : Type 0 where
  pub wide : length r ≡ w
  pub passes : t r ≡ true

pub rows-wide : (t : List ℤ → Bool) (w n : ℕ) (l : List ℤ) → n * w ≤ length l → every t (rows w n l) ≡ true → Every (Row t w) (rows w n l)
unfolding rows every Every
rows-wide t w zero l h e = tt
rows-wide t w (suc n) l h e =
    let b = both _ _ e in
    let m : w + n * w ≤ length l = omega (arith, suc-mul n w) in
    (record { wide = length-take-le w l (omega arith); passes = b.0 }, rows-wide t w n (drop w l) (simp length-drop (omega arith)) b.1)

-- the rows joined are the numbers
pub join-rows : {A : Type 0} (f : A → List ℤ) (w n : ℕ) (l : List ℤ) (xs : List A) → map f xs ≡ rows w n l → flatten f xs ≡ take (n * w) l
unfolding rows flatten
join-rows f w zero l [] e = rw (zero-mul w)
join-rows f w zero l (x ∷ xs) e = let z : ◌≡◌ {A = ℕ} 1 0 = ap one e in absurd (omega arith)
  where
    one : {B : Type 0} → List B → ℕ
    one [] = 0
    one (y ∷ ys) = 1
join-rows f w (suc n) l [] e = let z : ◌≡◌ {A = ℕ} 0 1 = ap one e in absurd (omega arith)
  where
    one : {B : Type 0} → List B → ℕ
    one [] = 0
    one (y ∷ ys) = 1
join-rows f w (suc n) l (x ∷ xs) e =
    let a : f x ≡ take w l = cc in
    let b : map f xs ≡ rows w n (drop w l) = cc in
    let m : w + n * w ≡ suc n * w = omega (arith, suc-mul n w) in
    ap₂ (λ (r rs : List ℤ). r ++ rs) a (join-rows f w n (drop w l) xs b) ∙ sym (take-add w (n * w) l) ∙ ap (λ (k : ℕ). take k l) m

pub rows-length : (w n : ℕ) (l : List ℤ) → length (rows w n l) ≡ n
unfolding rows
rows-length w zero l = refl
rows-length w (suc n) l = ap suc (rows-length w n (drop w l))
