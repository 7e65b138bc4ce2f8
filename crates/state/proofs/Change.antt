-- The shifts by which a table's tail is rewritten, as equations of lists.
use mathlib.Core.Path.{◌≡◌, sym, ap, ap₂, ◌∙◌}
use mathlib.Core.List.{List, [], ◌∷◌, ◌++◌, append_assoc, append-nil}
use Prim.Native.Nat.{ℕ, ◌+◌, ◌-◌, ◌*◌, ◌≤◌, ◌<◌}
use native.Mathlib.Numerals.{add-one}
use native.Mathlib.Omega.{arith}
use lib.IntN.{ℤ, pos, nat_abs}
use mir.Syntax.{w64}
use mir.Val.{to_z}
use lib.ListN.{length, set, take, drop, replicate, length-append, length-take, length-drop, length-set, length-replicate, replicate-append-replicate, drop_of_length-le}
use borrow.Rule.Slice.PartMut.{put_mid, mid_of}
use lib.Seq.{take_all, take_at, drop_at, take-add, take-append-le, drop-append-le, drop-append-add, take-append-add, drop-drop, length-take-le, take-suc-set, drop-set-lt, append_snoc}
use Rattle.machine.specs.State.{state_length, pair_width, process_width}
use Rattle.state.specs.Change.{rewritten, pair_added, pair_taken, process_replaced, process_added, pairs_from}
use Rattle.state.specs.Test.{at}
use Rattle.value.proofs.Kit.{back}

-- ---- a shift, then the fresh numbers
module _ (l new : List ℤ) (cut count : ℕ) (n : length new ≡ count) (c : cut ≤ length l) (k : count ≤ length l) where
  cut_off : count ≤ cut → take (length l) (new ++ (drop cut l ++ replicate cut (pos 0))) ≡ new ++ (drop cut l ++ replicate (cut - count) (pos 0))
  cut_off h =
      let m : cut - count + count ≡ cut = omega arith in
      let z : replicate cut (pos 0) ≡ replicate (cut - count) (pos 0) ++ replicate count (pos 0) = sym (replicate-append-replicate (cut - count) count (pos 0) ∙ ap (λ (j : ℕ). replicate j (pos 0)) m) in
      let e : new ++ (drop cut l ++ replicate cut (pos 0)) ≡ (new ++ (drop cut l ++ replicate (cut - count) (pos 0))) ++ replicate count (pos 0) =
      ap (λ (r : List ℤ). new ++ (drop cut l ++ r)) z ∙ simp append_assoc in
      ap (take (length l)) e ∙ take_at (new ++ (drop cut l ++ replicate (cut - count) (pos 0))) (replicate count (pos 0)) (length l) (simp (length-append, length-drop, length-replicate) (omega arith))

  -- as many come in as go out: nothing moves
  pub rewritten-same : count ≡ cut → new ++ drop count l ≡ rewritten cut new l
  unfolding rewritten
  rewritten-same h =
      let z : cut - count ≡ 0 = omega arith in
      ap (λ (j : ℕ). new ++ drop j l) h ∙ ap (λ (r : List ℤ). new ++ r) (sym (append-nil (drop cut l))) ∙ ap (λ (j : ℕ). new ++ (drop cut l ++ replicate j (pos 0))) (sym z) ∙ sym (cut_off (omega arith))

  pub rewritten-left : count < cut → new ++ drop count (drop (cut - count) l ++ replicate (cut - count) (pos 0)) ≡ rewritten cut new l
  unfolding rewritten
  rewritten-left h =
      let m : cut - count + count ≡ cut = omega arith in
      let d : drop count (drop (cut - count) l ++ replicate (cut - count) (pos 0)) ≡ drop cut l ++ replicate (cut - count) (pos 0) =
      drop-append-le count (drop (cut - count) l) (replicate (cut - count) (pos 0)) (simp length-drop (omega arith)) ∙ ap (λ (r : List ℤ). r ++ replicate (cut - count) (pos 0)) (drop-drop count (cut - count) l ∙ ap (λ (j : ℕ). drop j l) m) in
      ap (λ (r : List ℤ). new ++ r) d ∙ sym (cut_off (omega arith))

  pub rewritten-right : cut ≤ count → new ++ drop count (take (count - cut) l ++ take (length l - (count - cut)) l) ≡ rewritten cut new l
  unfolding rewritten
  rewritten-right h =
      let d : ℕ = count - cut in
      let m : ℕ = length l - count in
      let a : length (take d l) + cut ≡ count = simp length-take (omega arith) in
      let b : length l - d ≡ cut + m = omega arith in
      let o : length l ≡ length new + m = omega arith in
      let t : take (length l - d) l ≡ take cut l ++ take m (drop cut l) = ap (λ (j : ℕ). take j l) b ∙ take-add cut m l in
      let e : drop count (take d l ++ take (length l - d) l) ≡ take m (drop cut l) =
      ap (λ (j : ℕ). drop j (take d l ++ take (length l - d) l)) (sym a)
      ∙ drop-append-add (take d l) (take (length l - d) l) cut
      ∙ ap (drop cut) t
      ∙ drop_at (take cut l) (take m (drop cut l)) cut (length-take-le cut l c) in
      ap (λ (r : List ℤ). new ++ r) e
      ∙ sym (ap (λ (j : ℕ). take j (new ++ (drop cut l ++ replicate cut (pos 0)))) o
      ∙ take-append-add new (drop cut l ++ replicate cut (pos 0)) m
      ∙ ap (λ (r : List ℤ). new ++ r) (take-append-le m (drop cut l) (replicate cut (pos 0)) (simp length-drop (omega arith))))

-- ---- a part lent and rewritten, said of the whole
module _ {A : Type 0} (f : List A → List A) (a : ℕ) (s ys : List A) where
  pub tail-changed : ys ≡ f (mid_of a (length s - a) s) → put_mid a (length s - a) s ys ≡ take a s ++ f (drop a s)
  tail-changed e =
      ap (λ (l : List A). take a s ++ (ys ++ l)) (drop_of_length-le (drop a s) {i = length s - a} (simp length-drop (omega arith)))
      ∙ ap (λ (l : List A). take a s ++ l) (append-nil ys ∙ e ∙ ap f (take_all (length s - a) (drop a s) (simp length-drop (omega arith))))

  pub part-changed : (e : ℕ) → a ≤ e → ys ≡ f (mid_of a (e - a) s) → put_mid a (e - a) s ys ≡ take a s ++ (f (take (e - a) (drop a s)) ++ drop e s)
  part-changed e l h =
      let m : a + (e - a) ≡ e = omega arith in
      ap (λ (r : List A). take a s ++ (r ++ drop (e - a) (drop a s))) h
      ∙ ap (λ (r : List A). take a s ++ (f (take (e - a) (drop a s)) ++ r)) (drop-drop (e - a) a s ∙ ap (λ (j : ℕ). drop j s) m)

-- the same tail where only numbers go out
pub rewritten-none : (cut : ℕ) (l : List ℤ) → cut ≤ length l → drop cut l ++ replicate cut (pos 0) ≡ rewritten cut [] l
unfolding rewritten
rewritten-none cut l h = sym (take_all (length l) (drop cut l ++ replicate cut (pos 0)) (simp (length-append, length-drop, length-replicate) (omega arith)))

-- ---- the whole buffer after each change
pub added : (s row ys : List ℤ) (place n : ℕ) → n ≡ nat_abs (at s 1)
    → let a = pairs_from + place * pair_width in ys ≡ rewritten 0 row (mid_of a (length s - a) s)
    → let a = pairs_from + place * pair_width in set (put_mid a (length s - a) s ys) 1 (pos (n + 1)) ≡ pair_added place row s
unfolding pair_added
added s row ys place n q e =
    let a : ℕ = pairs_from + place * pair_width in
    ap₂ (λ (l : List ℤ) (z : ℤ). set l 1 z)
    (tail-changed (rewritten 0 row) a s ys e)
    (ap (λ (m : ℕ). pos (m + 1)) q)

pub taken : (s ys : List ℤ) (place n : ℕ) → length s ≡ state_length → place < 256 → n ≡ nat_abs (at s 1)
    → let a = pairs_from + place * pair_width in ys ≡ drop pair_width (mid_of a (length s - a) s) ++ replicate pair_width (pos 0)
    → let a = pairs_from + place * pair_width in set (put_mid a (length s - a) s ys) 1 (pos (n - 1)) ≡ pair_taken place s
unfolding pair_taken
taken s ys place n w p q e =
    let a : ℕ = pairs_from + place * pair_width in
    ap₂ (λ (l : List ℤ) (z : ℤ). set l 1 z)
    (tail-changed (rewritten pair_width []) a s ys (e ∙ rewritten-none pair_width (mid_of a (length s - a) s) (simp (length-take, length-drop) (omega arith))))
    (ap (λ (m : ℕ). pos (m - 1)) q)

pub replaced : (s new ys : List ℤ) (place n k : ℕ) → place < 256 → n ≡ nat_abs (at s 0)
    → let a = 2 + place * process_width in ys ≡ rewritten process_width new (mid_of a (pairs_from - a) s)
    → let a = 2 + place * process_width in set (put_mid a (pairs_from - a) s ys) 0 (pos (n - 1 + k)) ≡ process_replaced place k new s
unfolding process_replaced
replaced s new ys place n k p q e =
    ap₂ (λ (l : List ℤ) (z : ℤ). set l 0 z)
    (part-changed (rewritten process_width new) (2 + place * process_width) s ys pairs_from (omega arith) e)
    (ap (λ (m : ℕ). pos (m - 1 + k)) q)

-- a process written after the others
pub pushed : (s fresh ys : List ℤ) (sum n k : ℕ) → length s ≡ state_length → n ≡ nat_abs (at s 0) → n < 256 → sum < 9223372036854775808 → ys ≡ fresh → k ≡ length fresh
    → let u = set s (2 + n * process_width) (to_z w64 sum) in set (put_mid (2 + n * process_width + 1) k u ys) 0 (pos (n + 1)) ≡ process_added sum fresh s
unfolding process_added
pushed s fresh ys sum n k w q h g e c =
    let a : ℕ = 2 + n * process_width in
    let m : ℕ = length fresh in
    let u : List ℤ = set s a (to_z w64 sum) in
    let v : to_z w64 sum ≡ pos sum = back (pos sum) g in
    let t : take (a + 1) u ≡ take a s ++ (to_z w64 sum ∷ []) = ap (λ (j : ℕ). take j u) (add-one a) ∙ take-suc-set s a (to_z w64 sum) (omega arith) in
    let d : drop (a + 1) u ≡ drop (a + 1) s = drop-set-lt (a + 1) s a (to_z w64 sum) (omega arith) in
    let r : take (a + 1) u ++ (fresh ++ drop m (drop (a + 1) u)) ≡ take a s ++ (pos sum ∷ (fresh ++ drop (a + 1 + m) s)) =
    ap₂ (λ (l x : List ℤ). l ++ (fresh ++ drop m x)) t d
    ∙ ap (λ (x : List ℤ). (take a s ++ (to_z w64 sum ∷ [])) ++ (fresh ++ x)) (drop-drop m (a + 1) s)
    ∙ append_snoc (take a s) (to_z w64 sum) (fresh ++ drop (a + 1 + m) s)
    ∙ ap (λ (z : ℤ). take a s ++ (z ∷ (fresh ++ drop (a + 1 + m) s))) v in
    ap (λ (l : List ℤ). set l 0 (pos (n + 1))) (ap₂ (λ (l : List ℤ) (j : ℕ). take (a + 1) u ++ (l ++ drop j (drop (a + 1) u))) e c ∙ r)
    ∙ ap (λ (i : ℕ). set (take (2 + i * process_width) s ++ (pos sum ∷ (fresh ++ drop (2 + i * process_width + 1 + m) s))) 0 (pos (i + 1))) q

-- a buffer with room for it keeps its length
pub added-length : (sum : ℕ) (ls zs : List ℤ) → 2 + nat_abs (at zs 0) * process_width + 1 + length ls ≤ length zs → length (process_added sum ls zs) ≡ length zs
unfolding process_added
added-length sum ls zs h = simp (length-set, length-append, length-take, length-drop) (omega arith)
