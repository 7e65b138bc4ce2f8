-- The run's numbers read one after the other as entries; and a run with an entry beyond every listing is none.
use mathlib.Core.Path.{◌≡◌, refl, sym, ap, ◌∙◌}
use mathlib.Core.Bool.{Bool, true, false, ◌&&◌}
use mathlib.Core.List.{List, [], ◌∷◌, ◌++◌, map, append_assoc, append-nil}
use Prim.Native.Nat.{ℕ, suc, ◌+◌, ◌-◌, ◌<◌}
use native.Mathlib.Numerals.{add-one}
use native.Mathlib.Omega.{arith}
use borrow.Author.Tests.{ltb-true}
use lib.Dec.{T}
use lib.IntN.{ℤ, pos, negsuc, nat_abs}
use lib.Signed.{non_neg}
use lib.ListN.{length, get_or, set, take, drop, replicate, length-map, length-take, length-drop, drop_of_length-le, get_or-map}
use lib.Seq.{take-suc, take_all, length-take-le, set_at, drop-cons}
use Rattle.std.proofs.lemmas.List.{get_or-take, get_or-drop}
use mir.Syntax.{w16}
use mir.Val.{Fits}
use Rattle.value.proofs.Kit.{false-not-true}
use Rattle.std.specs.Prelude.{Some, None}
use Rattle.machine.specs.Machine.{entry_limit, depth_limit, search_length}
use Rattle.state.specs.Test.{every, at, is_below}
use Rattle.underway.specs.Buffer.{run_part, entries_in}

-- so many are read, and zeros stand after them
abbrev pub read : List ℤ → ℕ → List ℕ
read l i = take i (map nat_abs (run_part l)) ++ replicate (depth_limit - i) 0

-- all numbers have an entry where those left have
abbrev pub Left : List ℤ → ℕ → Type 0
Left l i = every (is_below entry_limit) (run_part l) ≡ every (is_below entry_limit) (drop i (run_part l))

module _ (l : List ℤ) (wide : length l ≡ search_length) where
  part-long : length (run_part l) ≡ depth_limit
  part-long = length-take depth_limit (drop 5 l) ∙ let k = length-drop 5 l in omega (arith, k, wide)

  numbers-long : length (map nat_abs (run_part l)) ≡ depth_limit
  numbers-long = length-map (run_part l) nat_abs ∙ part-long

  number-at : (i : ℕ) → i < depth_limit → get_or (run_part l) i (pos 0) ≡ at l (5 + i)
  number-at i k = get_or-take depth_limit (drop 5 l) i (pos 0) k ∙ get_or-drop 5 l i (pos 0)

  pub read-more : (i : ℕ) → i < depth_limit → set (read l i) i (nat_abs (at l (5 + i))) ≡ read l (i + 1)
  read-more i k =
      let run : List ℕ = map nat_abs (run_part l) in
      let e : nat_abs (at l (5 + i)) ≡ get_or run i 0 = sym (get_or-map nat_abs (run_part l) i (pos 0) ∙ ap nat_abs (number-at i k)) in
      let z : depth_limit - i ≡ suc (depth_limit - (i + 1)) = omega arith in
      let g = numbers-long in
      ap (λ (n : ℕ). set (read l i) i n) e
      ∙ ap (λ (n : ℕ). set (take i run ++ replicate n 0) i (get_or run i 0)) z
      ∙ set_at (take i run) 0 (replicate (depth_limit - (i + 1)) 0) (get_or run i 0) i (length-take-le i run (omega (arith, k, g)))
      ∙ sym (append_assoc (take i run) (get_or run i 0 ∷ []) (replicate (depth_limit - (i + 1)) 0))
      ∙ ap (λ (xs : List ℕ). xs ++ replicate (depth_limit - (i + 1)) 0) (sym (ap (λ (n : ℕ). take n run) (add-one i) ∙ take-suc run i 0 (omega (arith, k, g))))

  read_all : (i : ℕ) → i ≡ depth_limit → read l i ≡ map nat_abs (run_part l)
  read_all i e = rw e (append-nil (take depth_limit (map nat_abs (run_part l))) ∙ take_all depth_limit (map nat_abs (run_part l)) (let g = numbers-long in omega (arith, g)))

  left-cons : (i : ℕ) → i < depth_limit → drop i (run_part l) ≡ at l (5 + i) ∷ drop (i + 1) (run_part l)
  left-cons i k =
      let g = part-long in
      drop-cons (run_part l) i (pos 0) (omega (arith, k, g)) ∙ ap (λ (z : ℤ). z ∷ drop (suc i) (run_part l)) (number-at i k) ∙ ap (λ (n : ℕ). at l (5 + i) ∷ drop n (run_part l)) (sym (add-one i))

  tested : (i : ℕ) (b : Bool) → i < depth_limit → is_below entry_limit (at l (5 + i)) ≡ b → every (is_below entry_limit) (drop i (run_part l)) ≡ b && every (is_below entry_limit) (drop (i + 1) (run_part l))
  unfolding every
  tested i b k e = ap (every (is_below entry_limit)) (left-cons i k) ∙ ap (λ (c : Bool). c && every (is_below entry_limit) (drop (i + 1) (run_part l))) e

  pub left-more : (i : ℕ) → i < depth_limit → is_below entry_limit (at l (5 + i)) ≡ true → Left l i → Left l (i + 1)
  left-more i k e f = f ∙ tested i true k e

  pub far-out : (i : ℕ) → i < depth_limit → is_below entry_limit (at l (5 + i)) ≡ false → Left l i → None ≡ entries_in l
  unfolding entries_in
  far-out i k e f = let a = f ∙ tested i false k e in rw a refl

  none-left : (i : ℕ) → i ≡ depth_limit → every (is_below entry_limit) (drop i (run_part l)) ≡ true
  unfolding every
  none-left i e = ap (every (is_below entry_limit)) (drop_of_length-le (run_part l) {i = i} (let g = part-long in omega (arith, g, e)))

  pub read-whole : (i : ℕ) → i ≡ depth_limit → Left l i → Some (read l i) ≡ entries_in l
  unfolding entries_in
  read-whole i e f = let a = f ∙ none-left i e in rw a (ap Some (read_all i e))

-- such a number may be cast
pub entry-fits : (z : ℤ) → is_below entry_limit z ≡ true → T (non_neg z) × Fits w16 (nat_abs z)
unfolding is_below
entry-fits (pos n) e = let l = ltb-true n entry_limit e in (tt, omega (arith, l))
entry-fits (negsuc n) e = false-not-true e
