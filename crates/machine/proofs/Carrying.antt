-- A search that is begun is over the model, and stays so when it is carried on (02, note 10). By the laws of walking in pieces.
use mathlib.Core.Path.{◌≡◌, refl, sym, ap, ◌∙◌}
use mathlib.Core.List.{List, [], ◌∷◌}
use mathlib.Core.Bool.{Bool, true, false, cond, ◌&&◌}
use mathlib.Core.Option.{Option, none, some}
use Prim.Native.Nat.{ℕ, zero, suc, ◌+◌, ◌≤◌, ◌<◌}
use native.Mathlib.Omega.{arith}
use borrow.Author.Tests.{leb-true, lt-ltb}
use lib.Dec.{leb}
use lib.ListN.{length, get_elem?}
use Rattle.model.specs.Resolved
use Rattle.waitnames.specs.Names.{wait_names, wait_number}
use Rattle.waitnames.proofs.Names.{name-is}
use Rattle.waitnames.proofs.Numbered.{known_so}
use Rattle.runs.specs.Tree as tree
use Rattle.runs.specs.Marks.{Going, going, gone, carry_on, is_mark}
use Rattle.runs.proofs.Marks.{marked, marks, Short, Keeps, keeps, keeps-none, carry-keeps, CountsTo, counts, counts-within, carry-counts}
use Rattle.machine.specs.State.{State, GoodState}
use Rattle.machine.specs.Machine.{as_lent, no, depth_limit, turn, is_depth, Search, moves_by, count_limit, progress_as, ended_as, carried_as, begins, carries_by, is_wait_number, GoodSearch, GoodSearching}

-- ---- the wait's number

got-below : {A : Type 0} (xs : List A) (n : ℕ) {x : A} → get_elem? xs n ≡ some x → n < length xs
got-below [] n e = let z : ◌≡◌ {A = ℕ} 0 1 = cc in absurd (omega arith)
got-below (y ∷ ys) zero e = omega arith
got-below (y ∷ ys) (suc n) e = let l = got-below ys n e in omega arith

pub number-good : (m : Resolved.Model) (x : List ℕ) → is_wait_number m (wait_number m x) ≡ true
unfolding is_wait_number
number-good m x = by (wait_number m x) refl
  where
    by : (o : Option ℕ) → wait_number m x ≡ o → is_wait_number m o ≡ true
    by none e = refl
    by (some n) e =
        let k = known_so m x n e in
        let g : get_elem? (wait_names m) n ≡ some (m.words k.0) = ap (get_elem? (wait_names m)) (sym k.3) ∙ name-is m k.0 k.1 in
        lt-ltb n (length (wait_names m)) (got-below (wait_names m) n g)

-- ---- what is begun and carried on

pub begins-good : (x : List ℕ) (d : ℕ) (m : Resolved.Model) (s : State) (o : Option Search) → GoodState m s → GoodSearching m o → GoodSearching m (begins x d m s o).machine
unfolding begins GoodSearching is_mark
begins-good x d m s o g h = by _ (is_depth d) (λ e. record { start = g; wait = number-good m x; depth = e; count = omega arith; stands = refl })
  where
    by : (y : Option Search) (b : Bool) → (b ≡ true → GoodSearching m y) → GoodSearching m (cond b (turn y (no 0 0 0 as_lent)) (turn o (no 26 0 0 as_lent))).machine
    by y true f = f refl
    by y false f = h

carried-good : (m : Resolved.Model) (x : Search) (y : Going) → GoodSearch m x → Keeps (moves_by m x.wait) x.start x.depth y → CountsTo count_limit y
    → GoodSearching m (carried_as x y).machine
unfolding carried_as GoodSearching
carried-good m x (going c p) g (keeps f) (counts l) = record { start = g.start; wait = g.wait; depth = g.depth; count = l; stands = marks (moves_by m x.wait) x.start x.depth c p.last f }
carried-good m x (gone c a) g f l = search (g, tt)

pub carries-good : (n : ℕ) (m : Resolved.Model) (o : Option Search) → GoodSearching m o → GoodSearching m (carries_by n m o).machine
unfolding carries_by GoodSearching
carries-good n m none g = tt
carries-good n m (some x) g = by (leb (x.count + n) count_limit) refl
  where
    y : Going
    y = carry_on (moves_by m x.wait) x.start x.depth n (going x.count x.mark)

    by : (b : Bool) → leb (x.count + n) count_limit ≡ b → GoodSearching m (cond b (carried_as x y) (turn (some x) (no 28 0 0 as_lent))).machine
    by true e =
        carried-good m x y g
        (carry-keeps (moves_by m x.wait) x.start x.depth n (going x.count x.mark) (keeps (marked (moves_by m x.wait) x.start x.depth x.count x.mark.last g.stands)))
        (counts-within (leb-true (x.count + n) count_limit e) (carry-counts (moves_by m x.wait) x.start x.depth n x.count x.mark))
    by false e = g

-- ---- which numbers are not answered

pub begins-not : (x : List ℕ) (d : ℕ) (m : Resolved.Model) (s : State) (o : Option Search) → (begins x d m s o).answer.number ≡ 18 → ⊥
unfolding begins no
begins-not x d m s o = by _ (is_depth d)
  where
    by : (y : Option Search) (b : Bool) → (cond b (turn y (no 0 0 0 as_lent)) (turn o (no 26 0 0 as_lent))).answer.number ≡ 18 → ⊥
    by y true e = omega arith
    by y false e = omega arith

carried-not : (x : Search) (y : Going) → (carried_as x y).answer.number ≡ 18 → ⊥
unfolding carried_as ended_as progress_as
carried-not x (going c p) e = omega arith
carried-not x (gone c (tree.found r)) e = omega arith
carried-not x (gone c tree.nothing) e = omega arith
carried-not x (gone c tree.unsure) e = omega arith

pub carries-not : (n : ℕ) (m : Resolved.Model) (o : Option Search) → (carries_by n m o).answer.number ≡ 18 → ⊥
unfolding carries_by no
carries-not n m none = λ e. omega arith
carries-not n m (some x) = by (leb (x.count + n) count_limit)
  where
    y : Going
    y = carry_on (moves_by m x.wait) x.start x.depth n (going x.count x.mark)

    by : (b : Bool) → (cond b (carried_as x y) (turn (some x) (no 28 0 0 as_lent))).answer.number ≡ 18 → ⊥
    by true e = carried-not x y e
    by false e = omega arith

-- ---- how long a run is answered

and_right : (a b : Bool) → a && b ≡ true → b ≡ true
and_right true b e = e
and_right false b e = let z : ◌≡◌ {A = ℕ} 0 1 = cc in absurd (omega arith)

pub begins-few : (x : List ℕ) (d : ℕ) (m : Resolved.Model) (s : State) (o : Option Search) → length (begins x d m s o).answer.run ≤ depth_limit
unfolding begins no
begins-few x d m s o = by _ (is_depth d)
  where
    by : (y : Option Search) (b : Bool) → length (cond b (turn y (no 0 0 0 as_lent)) (turn o (no 26 0 0 as_lent))).answer.run ≤ depth_limit
    by y true = omega arith
    by y false = omega arith

carried-few : (m : Resolved.Model) (x : Search) (y : Going) → x.depth ≤ depth_limit → Keeps (moves_by m x.wait) x.start x.depth y → length (carried_as x y).answer.run ≤ depth_limit
unfolding carried_as ended_as progress_as Short
carried-few m x (going c p) l f = omega arith
carried-few m x (gone c (tree.found r)) l (keeps-none f) = omega (arith, l, f)
carried-few m x (gone c tree.nothing) l f = omega arith
carried-few m x (gone c tree.unsure) l f = omega arith

-- 02, note 10: no more entries than the deepest search has
pub carries-few : (n : ℕ) (m : Resolved.Model) (o : Option Search) → GoodSearching m o → length (carries_by n m o).answer.run ≤ depth_limit
unfolding carries_by GoodSearching no
carries-few n m none g = omega arith
carries-few n m (some x) g = by (leb (x.count + n) count_limit)
  where
    y : Going
    y = carry_on (moves_by m x.wait) x.start x.depth n (going x.count x.mark)

    depth-few : (d : ℕ) → is_depth d ≡ true → d ≤ depth_limit
    depth-few d e = leb-true d depth_limit (and_right (leb 1 d) (leb d depth_limit) (unfold is_depth in e))

    by : (b : Bool) → length (cond b (carried_as x y) (turn (some x) (no 28 0 0 as_lent))).answer.run ≤ depth_limit
    by true =
        carried-few m x y (depth-few x.depth g.depth)
        (carry-keeps (moves_by m x.wait) x.start x.depth n (going x.count x.mark) (keeps (marked (moves_by m x.wait) x.start x.depth x.count x.mark.last g.stands)))
    by false = omega arith
