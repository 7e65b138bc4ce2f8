-- Rows of a table: the first two where either was written, and the first where those behind it were. From the laws of lists.
use mathlib.Core.Path.{◌≡◌, refl}
use mathlib.Core.List.{List, [], ◌∷◌}
use Prim.Native.Nat.{◌-◌, ◌≤◌}
use native.Mathlib.Omega.{arith}
use lib.ListN.{length, get_or, set, drop}
use borrow.Rule.Slice.PartMut.{put_mid}

module _ {A : Type 0} where
  pub first_stays : (rows : List (List A)) (a b : List A) → get_or (set (set rows 1 a) 1 b) 0 [] ≡ get_or rows 0 []
  first_stays [] a b = refl
  first_stays (x ∷ []) a b = refl
  first_stays (x ∷ y ∷ rows) a b = refl

  pub second_is : (rows : List (List A)) (a : List A) → 2 ≤ length rows → get_or (set rows 1 a) 1 [] ≡ a
  second_is [] a l = absurd (omega arith)
  second_is (x ∷ []) a l = absurd (omega arith)
  second_is (x ∷ y ∷ rows) a l = refl

  pub last_is : (rows : List (List A)) (a b : List A) → 2 ≤ length rows → get_or (set (set rows 1 a) 1 b) 1 [] ≡ b
  last_is [] a b l = absurd (omega arith)
  last_is (x ∷ []) a b l = absurd (omega arith)
  last_is (x ∷ y ∷ rows) a b l = refl

  pub first_is : (rows : List (List A)) (a : List A) → 1 ≤ length rows → get_or (set rows 0 a) 0 [] ≡ a
  first_is [] a l = absurd (omega arith)
  first_is (x ∷ rows) a l = refl

  -- the rows behind the first, and the first where those were written
  pub next_row : (rows : List (List A)) → get_or (drop 1 rows) 0 [] ≡ get_or rows 1 []
  next_row [] = refl
  next_row (x ∷ rows) = refl

  pub before_tail : (rows ys : List (List A)) → 1 ≤ length rows → get_or (put_mid 1 (length rows - 1) rows ys) 0 [] ≡ get_or rows 0 []
  before_tail [] ys l = absurd (omega arith)
  before_tail (x ∷ rows) ys l = refl
