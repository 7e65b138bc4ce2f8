-- What taking the entries of a table in turn tells: whether they are a run (02, note 10, 11). From what taking an entry comes to.
use mathlib.Core.Path.{◌≡◌, refl, sym, ap, ◌∙◌}
use mathlib.Core.List.{List, [], ◌∷◌, map}
use mathlib.Core.Bool.{Bool, true, false, ◌&&◌}
use mathlib.Core.Option.{Option-elim}
use Prim.Native.Nat.{ℕ, zero, suc, ◌+◌, ◌-◌, ◌≤◌}
use native.Mathlib.Omega.{arith}
use lib.IntN.{ℤ}
use lib.ListN.{length, get_or, take, drop, length-map, length-drop}
use borrow.Rule.Slice.PartMut.{mid_of}
use Rattle.std.specs.Prelude.{None, Some, Ok, Err}
use Rattle.model.specs.Resolved
use Rattle.rules.specs.Listing.{Entry}
use Rattle.runs.specs.Tree.{Way, idle, refused, Listed, way_in}
use Rattle.runs.specs.Walk.{led, follows}
use Rattle.search.proofs.Part.{tail-mid}
use Rattle.step.specs.declared.Refusal.{Refusal}
use Rattle.machine.specs.State.{State}
use Rattle.machine.specs.Machine.{listing, entries_are, way_of}
use Rattle.listing.specs.Buffer as buffer
use Rattle.listing.specs.Buffer.{Outcome}
use Rattle.listing.specs.declared.Refusal as listing_refusal
use Rattle.walk.specs.Held.{Room, Move, way_found, Takes}
use Rattle.pieces.specs.Walked.{is_run, moves_as}
use Rattle.pieces.proofs.Resuming.{as-idle, as-refused, as-unlisted, as-lists, moves-are, refused-unlisted, leads-to, way-so, first_of}

-- ---- room for what is left

pub room-behind : (more : ℕ) (zs : List (List ℤ)) (l : List (List ℕ)) (run : List ℕ) (zs' : List (List ℤ)) → length zs' ≡ length zs → Room (more + 1) zs l run
    → Room more (mid_of 1 (length zs' - 1) zs') (mid_of 1 (length l - 1) l) (mid_of 1 (length run - 1) run)
room-behind more zs l run zs' a h =
    let p = h.states in
    let q = h.listings in
    let r = h.entries in
    rw (tail-mid 1 zs', tail-mid 1 l, tail-mid 1 run) (record { states = simp length-drop (omega arith); listings = simp length-drop (omega arith); entries = simp length-drop (omega arith) })

pub room-again : (n : ℕ) {zs : List (List ℤ)} {l l' : List (List ℕ)} {run : List ℕ} → 1 ≤ n → length l' ≡ length l → Room n zs l run → Room (n - 1 + 1) zs l' run
room-again n o a h = let p = h.states in let q = h.listings in let r = h.entries in record { states = omega arith; listings = omega arith; entries = omega arith }

-- ---- what is told

module _ (m : Resolved.Model) (x : List ℕ) (s : State) (named k : Bool) where
  no_way : (e : ℕ) (r : List ℕ) → idle ≡ way_in (moves_as m named x s) e → false ≡ is_run (moves_as m named x) k s (e ∷ r)
  unfolding is_run follows led Option-elim
  no_way e r w = rw (← w) refl

  pub replay-none : (n : ℕ) (run : List ℕ) → n ≡ 0 → true ≡ is_run (moves_as m named x) k s (take n run)
  unfolding is_run follows Option-elim
  replay-none n run e = rw e refl

  module _ (n : ℕ) (run : List ℕ) (some : 1 ≤ n) (long : n ≤ length run) where
    run-is : take n run ≡ get_or run 0 0 ∷ take (n - 1) (drop 1 run)
    run-is = let a : n ≡ n - 1 + 1 = omega (arith, some) in ap (λ (j : ℕ). take j run) a ∙ first_of (n - 1) run (omega (arith, some, long))

    pub replay-unlisted : (b : List ℕ) (r : Outcome) (f : listing_refusal.Refusal) → buffer.Lists (listing m s) r b → r ≡ Err f → false ≡ is_run (moves_as m named x) k s (take n run)
    unfolding way_in
    replay-unlisted b r f h q =
        rw run-is (no_way (get_or run 0 0) (take (n - 1) (drop 1 run)) (sym (ap (λ (u : Listed State). way_in u (get_or run 0 0)) (as-unlisted m x s named (refused-unlisted m x s b r f h q)))))

    past : (vs : List (Way State)) (e : ℕ) → length vs ≤ e → idle ≡ get_or vs e idle
    past [] e l = refl
    past (v ∷ vs) zero l = absurd (omega (arith, l))
    past (v ∷ vs) (suc e) l = past vs e (omega (arith, l))

    pub replay-past : (es : List Entry) (e : ℕ) → listing m s ≡ entries_are es → e ≡ get_or run 0 0 → length es ≤ e → false ≡ is_run (moves_as m named x) k s (take n run)
    unfolding way_in
    replay-past es e l i j =
        let v = as-lists m x s named (map (way_of m x s es) es) (moves-are m x s es l) in
        let a = v.2 in
        let b = length-map es (way_of m x s es) in
        let o : length v.0 ≤ e = omega (arith, a, b, j) in
        rw (run-is, ← i) (no_way e (take (n - 1) (drop 1 run)) (past v.0 e o ∙ sym (ap (λ (u : Listed State). way_in u e) v.1)))

    pub replay-taken : (e : ℕ) (b : Bool) → e ≡ get_or run 0 0 → b ≡ is_run (moves_as m named x) k s (e ∷ take (n - 1) (drop 1 run)) → b ≡ is_run (moves_as m named x) k s (take n run)
    replay-taken e b i f = rw (run-is, ← i) f

module _ {m : Resolved.Model} {x : List ℕ} {s : State} {e : ℕ} {zs zs' : List (List ℤ)} {r : Move} (t : Takes m x s e zs zs' r) (named k : Bool) where
  pub follow-leads : (h b : Bool) (more : ℕ) (run : List ℕ) → r ≡ Ok (Some h) → b ≡ is_run (moves_as m named x) (named && h) t.after (take more (mid_of 1 (length run - 1) run))
      → b ≡ is_run (moves_as m named x) k s (e ∷ take more (drop 1 run))
  unfolding is_run follows led
  follow-leads h b more run q f = rw (← leads-to t named h q) (rw (tail-mid 1 run) at f)

  pub follow-idle : (l : List ℕ) → r ≡ Ok None → false ≡ is_run (moves_as m named x) k s (e ∷ l)
  unfolding way_found
  follow-idle l q = no_way m x s named k e l (as-idle m x s named e (way-so t named q))

  pub follow-refused : {g : Refusal} (l : List ℕ) → r ≡ Err g → false ≡ is_run (moves_as m named x) k s (e ∷ l)
  unfolding way_found is_run follows led Option-elim
  follow-refused l q = let w : refused ≡ way_in (moves_as m named x s) e = as-refused m x s named e (way-so t named q) in rw (← w) refl
