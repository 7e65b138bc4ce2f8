-- The first n numbers of a list, replaced by as many: what stands there and what stands after them. By whether the list has n numbers.
use mathlib.Core.Path.{◌≡◌, refl, sym, ap, ◌∙◌}
use mathlib.Core.List.{List, [], ◌++◌, append-nil}
use mathlib.Core.Bool.{Bool, true, false}
use Prim.Native.Nat.{ℕ, ◌≤◌, ◌<◌}
use native.Mathlib.Omega.{arith}
use borrow.Author.Tests.{leb-true, leb-false}
use lib.Dec.{leb}
use lib.ListN.{length, take, drop, length-take, drop_of_length-le}
use lib.Seq.{take_all, take_at, drop_at}

module _ {A : Type 0} where
  pub drop_all : (n : ℕ) (l : List A) → length l ≤ n → drop n l ≡ []
  drop_all n l h = drop_of_length-le l h

  module _ (n : ℕ) (s l : List A) (same : length s ≡ length (take n l)) where
    whole : length l < n → s ++ drop n l ≡ s
    whole h = ap (λ (r : List A). s ++ r) (drop_all n l (omega arith)) ∙ append-nil s

    pub front-take : take n (s ++ drop n l) ≡ s
    front-take = by (leb n (length l)) refl
      where
        by : (t : Bool) → leb n (length l) ≡ t → take n (s ++ drop n l) ≡ s
        by true e = take_at s (drop n l) n (omega (arith, length-take n l, leb-true n (length l) e))
        by false e =
            let h : length l < n = leb-false n (length l) e in
            ap (take n) (whole h) ∙ take_all n s (omega (arith, length-take n l))

    pub front-drop : drop n (s ++ drop n l) ≡ drop n l
    front-drop = by (leb n (length l)) refl
      where
        by : (t : Bool) → leb n (length l) ≡ t → drop n (s ++ drop n l) ≡ drop n l
        by true e = drop_at s (drop n l) n (omega (arith, length-take n l, leb-true n (length l) e))
        by false e =
            let h : length l < n = leb-false n (length l) e in
            ap (drop n) (whole h) ∙ drop_all n s (omega (arith, length-take n l)) ∙ sym (drop_all n l (omega arith))
