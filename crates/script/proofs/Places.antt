-- The part of a list from row i on, lent and put back: by whether the list reaches that far.
use mathlib.Core.Path.{◌≡◌, refl, sym, ap, ap₂, subst, ◌∙◌}
use mathlib.Core.Bool.{Bool, true, false}
use mathlib.Core.List.{List, [], ◌∷◌, ◌++◌, append-nil}
use Prim.Native.Nat.{ℕ, ◌-◌, ◌*◌, ◌≤◌, ◌<◌, min}
use native.Mathlib.Omega.{arith}
use borrow.Author.Tests.{leb-true, leb-false}
use lib.Dec.{leb}
use lib.ListN.{length, take, drop, length-append, length-take, length-drop}
use lib.Seq.{take_all, take_at, drop_at}
use Rattle.script.specs.Rows.{row_width, answer_width, output_width, first_call}
use Rattle.script.specs.Run.{Lent, lent_of, room_of, RowRan, lent_at, put_at, lent_from, RowRanAt}
use Rattle.script.proofs.Front.{drop_all}

none_left : {A : Type 0} (l : List A) → length l ≡ 0 → l ≡ []
none_left [] e = refl
none_left (a ∷ l) e = absurd (omega arith)

module _ {A : Type 0} (i w p : ℕ) (l : List A) (e : p ≡ min (i * w) (length l)) where
  -- row i begins at p, or past the end
  tail-is : drop p l ≡ drop (i * w) l
  tail-is = by (leb (i * w) (length l)) refl
    where
      by : (t : Bool) → leb (i * w) (length l) ≡ t → drop p l ≡ drop (i * w) l
      by true h = let q : p ≡ i * w = omega (arith, leb-true (i * w) (length l) h) in ap (λ (n : ℕ). drop n l) q
      by false h =
          let g : length l < i * w = leb-false (i * w) (length l) h in
          drop_all p l (omega arith) ∙ sym (drop_all (i * w) l (omega arith))

  pub part-is : take (length l - p) (drop p l) ≡ drop (i * w) l
  part-is = take_all (length l - p) (drop p l) (omega (arith, length-drop p l)) ∙ tail-is

  -- what is put back there
  module _ (z : List A) (k : length (take p l ++ z) ≡ length l) where
    abbrev put : List A
    put = take p l ++ z

    past : length l < i * w → z ≡ []
    past h = none_left z (omega (arith, length-append (take p l) z, length-take p l))

    pub put-after : drop (i * w) put ≡ z
    put-after = by (leb (i * w) (length l)) refl
      where
        by : (t : Bool) → leb (i * w) (length l) ≡ t → drop (i * w) put ≡ z
        by true h = let g : i * w ≤ length l = leb-true (i * w) (length l) h in drop_at (take p l) z (i * w) (omega (arith, length-take p l))
        by false h = let g : length l < i * w = leb-false (i * w) (length l) h in drop_all (i * w) put (omega arith) ∙ sym (past g)

    pub put-before : take (i * w) put ≡ take (i * w) l
    put-before = by (leb (i * w) (length l)) refl
      where
        by : (t : Bool) → leb (i * w) (length l) ≡ t → take (i * w) put ≡ take (i * w) l
        by true h =
            let g : i * w ≤ length l = leb-true (i * w) (length l) h in
            let q : p ≡ i * w = omega arith in
            take_at (take p l) z (i * w) (omega (arith, length-take p l)) ∙ ap (λ (n : ℕ). take n l) q
        by false h =
            let g : length l < i * w = leb-false (i * w) (length l) h in
            ap (λ (r : List A). take (i * w) (take p l ++ r)) (past g) ∙ ap (take (i * w)) (append-nil (take p l) ∙ take_all p l (omega arith))

-- ---- a row run from its place

module _ (i p q a : ℕ) (script texts numbers words : List ℕ) (x : Lent)
    (ep : p ≡ min (i * row_width) (length script)) (eq : q ≡ min (i * output_width) (length x.outputs)) (ea : a ≡ min (i * answer_width) (length x.answers)) where
  -- the row's numbers, and what it is lent, from there on
  abbrev Row-ran : Bool → Lent → Type 0
  Row-ran r v = RowRan (first_call (take (length script - p) (drop p script)) texts numbers words (room_of (lent_at q a x))) (lent_at q a x) r v

  lent-is : lent_at q a x ≡ lent_from i x
  unfolding lent_from
  lent-is = ap₂ (λ (l n : List ℕ). lent_of x.engine l n) (tail-is i output_width q x.outputs eq) (tail-is i answer_width a x.answers ea)

  ran-from : (r : Bool) (v : Lent) → Row-ran r v → RowRan (first_call (drop (i * row_width) script) texts numbers words (room_of (lent_from i x))) (lent_from i x) r v
  ran-from r v h = rw (← lent-is, ← part-is i row_width p script ep) h

  -- a row that is no call
  pub not-ran : Row-ran false (lent_at q a x) → RowRanAt i script texts numbers words x false x
  not-ran h = record {
    ran = subst (λ (v : Lent). RowRan (first_call (drop (i * row_width) script) texts numbers words (room_of (lent_from i x))) (lent_from i x) false v) lent-is (ran-from false (lent_at q a x) h);
    outputs-before = refl;
    answers-before = refl;
  }

  -- a row that leaves v
  module _ (y v : Lent) (e : y ≡ put_at q a x v) (kl : length y.outputs ≡ length x.outputs) (kn : length y.answers ≡ length x.answers) where
    outputs-long : length (take q x.outputs ++ v.outputs) ≡ length x.outputs
    outputs-long = ap (λ (z : Lent). length z.outputs) (sym e) ∙ kl

    answers-long : length (take a x.answers ++ v.answers) ≡ length x.answers
    answers-long = ap (λ (z : Lent). length z.answers) (sym e) ∙ kn

    left-is : lent_from i (put_at q a x v) ≡ v
    unfolding lent_from
    left-is = ap₂ (λ (l n : List ℕ). lent_of v.engine l n) (put-after i output_width q x.outputs eq v.outputs outputs-long) (put-after i answer_width a x.answers ea v.answers answers-long)

    pub ran-at : Row-ran true v → RowRanAt i script texts numbers words x true y
    ran-at h = subst (λ (z : Lent). RowRanAt i script texts numbers words x true z) (sym e) (record {
      ran = rw left-is (ran-from true v h);
      outputs-before = put-before i output_width q x.outputs eq v.outputs outputs-long;
      answers-before = put-before i answer_width a x.answers ea v.answers answers-long;
    })
