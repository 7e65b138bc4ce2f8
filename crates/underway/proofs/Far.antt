-- A run with an entry beyond every listing is no run from any state: such an entry is in no listing. From what a listing is.
use mathlib.Core.Path.{◌≡◌, refl, sym, ap, ◌∙◌}
use mathlib.Core.Bool.{Bool, true, false, cond, ◌&&◌}
use mathlib.Core.List.{List, [], ◌∷◌, map}
use mathlib.Core.Option.{Option, none, some, Option-elim}
use Prim.Native.Nat.{ℕ, zero, suc, ◌≤◌}
use native.Mathlib.Omega.{arith}
use borrow.Author.Tests.{ltb-false}
use lib.Dec.{ltb}
use lib.IntN.{ℤ, pos, negsuc, nat_abs}
use lib.ListN.{take, drop, length-map, get_or-map, get_or-eq_default}
use Rattle.std.specs.Prelude.{Some, None}
use Rattle.value.proofs.Kit.{true-not-false, false-not-true, same-eq}
use Rattle.model.specs.Resolved
use Rattle.runs.specs.Tree as tree
use Rattle.runs.specs.Walk.{led, follows}
use Rattle.machine.specs.State.{State}
use Rattle.machine.specs.Machine.{entry_limit, Listed, listing, way_of, moves_of, moves_to, moves_by}
use Rattle.machine.specs.Questions.{Lists, no12, no13, no14, yes14}
use Rattle.machine.proofs.Listing.{asked}
use Rattle.state.specs.Test.{every, at, is_zero, is_below}
use Rattle.state.proofs.Tests.{both}
use Rattle.underway.specs.Buffer.{is_natural, is_entries, run_part, run_in, start_in, wait_in, entries_in, is_walked}

-- ---- no listing is that long

module _ (m : Resolved.Model) where
  idle-of : (x : List ℕ) (s : State) (e : ℕ) → entry_limit ≤ e → tree.way_in (moves_to m x s) e ≡ tree.idle
  unfolding moves_to moves_of tree.way_in
  idle-of x s e f = by ((asked m s (listing m s)).0 refl)
    where
      by : {l : Listed} → Lists m s l → tree.way_in (moves_of m x s l) e ≡ tree.idle
      by (no12 h) = refl
      by (no13 h k o) = refl
      by (no14 h k o t) = refl
      by (yes14 {es = es} h k o t) = get_or-eq_default (map (way_of m x s es) es) tree.idle {n = e} (let q = length-map es (way_of m x s es) in omega (arith, o, f, q))

  idle_by : (w : Option ℕ) (s : State) (e : ℕ) → entry_limit ≤ e → tree.way_in (moves_by m w s) e ≡ tree.idle
  unfolding moves_by tree.way_in tree.unsought tree.way_unsought
  idle_by none s e f = by (moves_to m [] s) (idle-of [] s e f)
    where
      by : (l : tree.Listed State) → tree.way_in l e ≡ tree.idle → tree.way_in (tree.unsought l) e ≡ tree.idle
      by tree.unlisted q = refl
      by (tree.lists ws) q = get_or-map tree.way_unsought ws e tree.idle ∙ ap tree.way_unsought q
  idle_by (some n) s e f = idle-of _ s e f

-- ---- a run with such an entry

led-none : {S : Type 0} (f : Bool → S → Option Bool) (w : tree.Way S) → ((k : Bool) (t : S) → f k t ≡ none) → led f w ≡ none
unfolding led
led-none f tree.idle h = refl
led-none f tree.refused h = refl
led-none f (tree.leads k t) h = h k t

module _ (m : Resolved.Model) (w : Option ℕ) where
  no-run : (p : List ℤ) (h : Bool) (s : State) → every is_natural p ≡ true → every (is_below entry_limit) p ≡ false → follows (moves_by m w) h s (map nat_abs p) ≡ none
  unfolding every follows
  no-run [] h s e f = true-not-false f
  no-run (negsuc n ∷ p) h s e f = unfold is_natural in false-not-true e
  no-run (pos n ∷ p) h s e f = by (ltb n entry_limit) refl (unfold is_below in f) (λ k t. no-run p k t (unfold is_natural in e))
    where
      by : (b : Bool) → ltb n entry_limit ≡ b → (b && every (is_below entry_limit) p) ≡ false
          → ((k : Bool) (t : State) → every (is_below entry_limit) p ≡ false → follows (moves_by m w) k t (map nat_abs p) ≡ none)
          → led (λ k t. follows (moves_by m w) k t (map nat_abs p)) (tree.way_in (moves_by m w s) n) ≡ none
      by true q g h = led-none _ (tree.way_in (moves_by m w s) n) (λ k t. h k t g)
      by false q g h = unfold led in rw (idle_by m w s n (ltb-false n entry_limit q)) refl

-- ---- where it stands in the buffer

split : (t : ℤ → Bool) (n : ℕ) (p : List ℤ) → every t p ≡ every t (take n p) && every t (drop n p)
unfolding every
split t zero p = refl
split t (suc n) [] = refl
split t (suc n) (z ∷ p) = by (t z) (split t n p)
  where
    by : (b : Bool) → every t p ≡ every t (take n p) && every t (drop n p) → (b && every t p) ≡ (b && every t (take n p)) && every t (drop n p)
    by true e = e
    by false e = refl

zeros-near : (p : List ℤ) → every is_zero p ≡ true → every (is_below entry_limit) p ≡ true
unfolding every is_below is_zero
zeros-near [] e = refl
zeros-near (z ∷ p) e = let b = both (is_zero z) (every is_zero p) e in rw (same-eq z (pos 0) b.0) (zeros-near p b.1)

first-far : (a b : Bool) → (a && b) ≡ false → b ≡ true → a ≡ false
first-far true b e f = sym f ∙ e
first-far false b e f = refl

none-far : (l : List ℤ) → None ≡ entries_in l → every (is_below entry_limit) (run_part l) ≡ false
unfolding entries_in
none-far l e = by (every (is_below entry_limit) (run_part l)) e
  where
    by : (b : Bool) → None ≡ cond b (Some (map nat_abs (run_part l))) None → b ≡ false
    by true q = let z : ◌≡◌ {A = ℕ} 0 1 = cc in absurd (omega arith)
    by false q = refl

-- 02, note 10, question 11: no entry of such a number can be taken
pub far-walked : (m : Resolved.Model) (l : List ℤ) → is_entries (nat_abs (at l 4)) (run_part l) ≡ true → None ≡ entries_in l → is_walked m l ≡ false
unfolding is_entries is_walked run_in Option-elim
far-walked m l e q =
    let n = nat_abs (at l 4) in
    let b = both (every is_natural (take n (run_part l))) (every is_zero (drop n (run_part l))) e in
    let f = first-far _ _ (sym (split (is_below entry_limit) n (run_part l)) ∙ none-far l q) (zeros-near (drop n (run_part l)) b.1) in
    rw (no-run m (wait_in l) (take n (run_part l)) false (start_in m l) b.0 f) refl
