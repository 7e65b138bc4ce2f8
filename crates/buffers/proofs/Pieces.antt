-- What beginning a search and carrying it on answer, by their numbers: 26 and 28 leave it, 0 and 27 are of a search that is walked (02, note 10).
use mathlib.Core.Path.{◌≡◌, refl}
use mathlib.Core.List.{List}
use mathlib.Core.Bool.{Bool, true, false, cond}
use mathlib.Core.Logic.{◌⊎◌, inl, inr}
use mathlib.Core.Option.{Option, none, some}
use Prim.Native.Nat.{ℕ, ◌+◌}
use lib.Dec.{leb}
use Rattle.model.specs.Resolved
use Rattle.waitnames.specs.Names.{wait_number}
use Rattle.runs.specs.Tree as tree
use Rattle.runs.specs.Marks.{Going, going, gone, carry_on}
use Rattle.machine.specs.State.{State}
use Rattle.machine.specs.Machine.{as_lent, no, Turn, turn, is_depth, Search, search_from, moves_by, count_limit, progress_as, ended_as, carried_as, begins, carries_by}

pub data Walked (o : Option Search) (t : Turn (Option Search)) : Type 0 where
  goes : (t.answer.number ≡ 0) ⊎ (t.answer.number ≡ 27) → t.answer.listing ≡ as_lent → Walked o t
  stays : (t.answer.number ≡ 26) ⊎ (t.answer.number ≡ 28) → t.answer.listing ≡ as_lent → t.machine ≡ o → Walked o t

pub begins-walked : (x : List ℕ) (d : ℕ) (m : Resolved.Model) (s : State) (o : Option Search) → Walked o (begins x d m s o)
unfolding begins no
begins-walked x d m s o = by (is_depth d)
  where
    by : (b : Bool) → Walked o (cond b (turn (some (search_from s (wait_number m x) d)) (no 0 0 0 as_lent)) (turn o (no 26 0 0 as_lent)))
    by true = goes (inl refl) refl
    by false = stays (inl refl) refl refl

carried-walked : (x : Search) (o : Option Search) (y : Going) → Walked o (carried_as x y)
unfolding carried_as ended_as progress_as
carried-walked x o (going c p) = goes (inl refl) refl
carried-walked x o (gone c (tree.found r)) = goes (inl refl) refl
carried-walked x o (gone c tree.nothing) = goes (inl refl) refl
carried-walked x o (gone c tree.unsure) = goes (inr refl) refl

pub carries-walked : (n : ℕ) (m : Resolved.Model) (o : Option Search) → Walked o (carries_by n m o)
unfolding carries_by no
carries-walked n m none = stays (inr refl) refl refl
carries-walked n m (some x) = by (leb (x.count + n) count_limit)
  where
    y : Going
    y = carry_on (moves_by m x.wait) x.start x.depth n (going x.count x.mark)

    by : (b : Bool) → Walked (some x) (cond b (carried_as x y) (turn (some x) (no 28 0 0 as_lent)))
    by true = carried-walked x (some x) y
    by false = stays (inr refl) refl refl
