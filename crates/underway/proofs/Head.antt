-- Each answer of the test is a case of its definition, by what stands before the start.
use mathlib.Core.Path.{◌≡◌, refl, sym, ap, ◌∙◌}
use mathlib.Core.Bool.{Bool, true, false, not, ◌&&◌, ◌||◌}
use mathlib.Core.List.{List}
use Prim.Native.Nat.{ℕ, suc, ◌+◌, ◌≤◌}
use native.Mathlib.Numerals.{add-one}
use native.Mathlib.Omega.{arith}
use borrow.Author.Tests.{le-leb}
use lib.IntN.{ℤ, pos, negsuc, nat_abs}
use lib.ListN.{length, take, drop, length-take, length-drop}
use lib.Signed.{le_z}
use Rattle.machine.specs.Machine.{count_limit, search_length}
use Rattle.state.specs.Test.{every, at, is_zero, is_below}
use Rattle.state.proofs.Tests.{below-bound}
use Rattle.underway.specs.Buffer.{is_natural, is_entries, is_head, run_part}

-- an entry is 0 or more
pub natural_so : (z : ℤ) → le_z (pos 0) z ≡ is_natural z
unfolding is_natural
natural_so (pos n) = le-leb 0 n (omega arith)
natural_so (negsuc n) = refl

-- entries, and zeros after them
pub entries-fail : (n : ℕ) (l : List ℤ) → every is_natural (take n l) ≡ false → is_entries n l ≡ false
unfolding is_entries
entries-fail n l e = rw e refl

pub entries-rest : (n : ℕ) (l : List ℤ) → every is_natural (take n l) ≡ true → is_entries n l ≡ every is_zero (drop n l)
unfolding is_entries
entries-rest n l e = rw e refl

-- none where nothing was walked
pub some_may : (count length : ℤ) → is_zero count ≡ false → (not (is_zero count) || is_zero length) ≡ true
some_may count length e = rw e refl

pub none_may : (count length : ℤ) → is_zero count ≡ true → (not (is_zero count) || is_zero length) ≡ is_zero length
none_may count length e = rw e refl

-- the numbers before the start, one after the other
module _ (w : ℕ) (l : List ℤ) where
  abbrev pub Depth : Type 0
  Depth = is_below 9 (at l 0) ≡ true

  abbrev pub Wait : Type 0
  Wait = is_below (w + 1) (at l 1) ≡ true

  abbrev pub Count : Type 0
  Count = is_below (suc count_limit) (at l 2) ≡ true

  abbrev pub Met : Type 0
  Met = is_below 2 (at l 3) ≡ true

  abbrev pub Few : Type 0
  Few = is_below (nat_abs (at l 0) + 1) (at l 4) ≡ true

  waits : {b : Bool} → is_below (w + 1) (at l 1) ≡ b → is_below (suc w) (at l 1) ≡ b
  waits e = ap (λ (n : ℕ). is_below n (at l 1)) (sym (add-one w)) ∙ e

  few : {b : Bool} → is_below (nat_abs (at l 0) + 1) (at l 4) ≡ b → is_below (suc (nat_abs (at l 0))) (at l 4) ≡ b
  few e = ap (λ (n : ℕ). is_below n (at l 4)) (sym (add-one (nat_abs (at l 0)))) ∙ e

  pub no_depth : is_below 9 (at l 0) ≡ false → is_head w l ≡ false
  unfolding is_head
  no_depth e = rw e refl

  pub no_wait : Depth → is_below (w + 1) (at l 1) ≡ false → is_head w l ≡ false
  unfolding is_head
  no_wait a e = rw (a, waits e) refl

  pub no_count : Depth → Wait → is_below (suc count_limit) (at l 2) ≡ false → is_head w l ≡ false
  unfolding is_head
  no_count a b e = rw (a, waits b, e) refl

  pub no_flag : Depth → Wait → Count → is_below 2 (at l 3) ≡ false → is_head w l ≡ false
  unfolding is_head
  no_flag a b c e = rw (a, waits b, c, e) refl

  pub too_long : Depth → Wait → Count → Met → is_below (nat_abs (at l 0) + 1) (at l 4) ≡ false → is_head w l ≡ false
  unfolding is_head
  too_long a b c d e = rw (a, waits b, c, d, few e) refl

  pub head-rest : Depth → Wait → Count → Met → Few → is_head w l ≡ (not (is_zero (at l 2)) || is_zero (at l 4)) && is_entries (nat_abs (at l 4)) (run_part l)
  unfolding is_head
  head-rest a b c d e = rw (a, waits b, c, d, few e) refl

  -- as many entries as the run has are there
  pub run-there : Depth → Few → length l ≡ search_length → nat_abs (at l 4) ≤ length (run_part l)
  run-there a e f =
      let d = below-bound 9 (at l 0) a in
      let n = below-bound (nat_abs (at l 0) + 1) (at l 4) e in
      simp (length-take, length-drop) (omega (arith, d, n, f))

-- the last of its tests
pub head-may : (l : List ℤ) → (not (is_zero (at l 2)) || is_zero (at l 4)) ≡ true → (not (is_zero (at l 2)) || is_zero (at l 4)) && is_entries (nat_abs (at l 4)) (run_part l) ≡ is_entries (nat_abs (at l 4)) (run_part l)
head-may l e = rw e refl

pub head-not : (l : List ℤ) → (not (is_zero (at l 2)) || is_zero (at l 4)) ≡ false → (not (is_zero (at l 2)) || is_zero (at l 4)) && is_entries (nat_abs (at l 4)) (run_part l) ≡ false
head-not l e = rw e refl
