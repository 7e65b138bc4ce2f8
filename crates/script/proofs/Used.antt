-- Only a run of timed steps says what it used, and only a search that is carried on whether it has ended, and they say nothing of a place, a branch, a chosen entry or a search's run (docs/DECISIONS.md, R.5, R.7): from what every answer carries.
use mathlib.Core.Path.{◌≡◌, refl}
use mathlib.Core.List.{List, [], ◌∷◌}
use mathlib.Core.Bool.{Bool, true, false, cond}
use mathlib.Core.Option.{Option, none, some}
use Prim.Native.Nat.{ℕ, ◌+◌}
use lib.Dec.{leb}
use lib.ListN.{length, get_or}
use Rattle.value.proofs.Kit.{false-not-true, true-not-false}
use Rattle.machine.specs.Machine.{as_lent, Answer, no, listed_as, reported_as, found_as, ran_as, Request, list', step', report', search', timed', run', save', return', forget', begin', carry', progress_as, Ask, open', open_steady', on'}
use Rattle.machine.specs.Machine.{turn, Search, moves_by, count_limit, carried_as, ended_as, carries_by, Machine, closed, holding, acts, on_search, on_machine, Part, model, uses, has_lengths}
use Rattle.machine.specs.Results as results
use Rattle.machine.specs.Results.{Lists, Chooses, Names, Carries, under1, under2-10, under11, under12, under13, under14, under15-19, under23-25, under20, return21, forget21, save22, under2-29, under26, under27, begin26, under-way, ended27, under28}
use Rattle.buffers.specs.Parts.{Engine}
use Rattle.buffers.specs.Held.{held_in}
use Rattle.buffers.specs.Effect.{machine_over, untouched, leaves, requested, answered, effect}
use Rattle.buffers.proofs.Runs.{carried}
use Rattle.model.specs.Resolved
use Rattle.runs.specs.Tree as tree
use Rattle.runs.specs.Marks.{Going, going, gone, carry_on}
use Rattle.script.specs.Run.{used_of}

unfoldable pub is_used : Ask → Bool
is_used (open' text) = false
is_used (open_steady' text) = false
is_used (on' list') = false
is_used (on' (step' d)) = false
is_used (on' report') = false
is_used (on' (search' x d)) = false
is_used (on' (timed' ds d)) = false
is_used (on' (run' ws vs n l)) = true
is_used (on' (save' n)) = false
is_used (on' (return' n)) = false
is_used (on' (forget' n)) = false
is_used (on' (begin' x d)) = false
is_used (on' (carry' n)) = true

-- ---- nothing used

none-used : {k : Ask} {a : Answer} → Carries k a → is_used k ≡ false → a.used ≡ []
unfolding no listed_as reported_as found_as is_used
none-used under1 e = refl
none-used results.opens e = refl
none-used (under2-10 n p l m) e = refl
none-used results.opens_steady e = refl
none-used (under2-29 n p h) e = refl
none-used under11 e = refl
none-used (under12 i j h) e = refl
none-used (under13 h) e = refl
none-used (under14 h) e = refl
none-used (results.lists es) e = refl
none-used (under15-19 n es h l m) e = refl
none-used (results.steps c es h) e = refl
none-used (under23-25 n es l m) e = refl
none-used (results.runs r k) e = true-not-false e
none-used (results.reports ns es) e = refl
none-used (results.stores h) e = refl
none-used (under20 h) e = refl
none-used return21 e = refl
none-used forget21 e = refl
none-used save22 e = refl
none-used (results.searches r l) e = refl
none-used under26 e = refl
none-used under27 e = refl
none-used results.begins e = refl
none-used begin26 e = refl
none-used (under-way c l) e = true-not-false e
none-used (results.ended c r l) e = true-not-false e
none-used (ended27 c l) e = true-not-false e
none-used under28 e = refl

-- by a call that is no run
pub without-used : (k : Ask) (x : Engine) (l : List ℕ) → is_used k ≡ false → (effect k x l).answer.used ≡ []
without-used k x l e = none-used (carried k x l) e

-- ---- a run says no more

pub record Bare (a : Answer) : Type 0 where
  pub place : a.place ≡ 0
  pub branch : a.branch ≡ 0
  pub chosen : a.chosen ≡ 0

no-lists : (r : Request) → is_used (on' r) ≡ true → Lists r → ⊥
unfolding is_used Lists
no-lists list' e h = false-not-true e
no-lists (step' d) e h = false-not-true e
no-lists report' e h = false-not-true e
no-lists (search' x d) e h = h
no-lists (timed' ds d) e h = false-not-true e
no-lists (run' ws vs n l) e h = h
no-lists (save' n) e h = h
no-lists (return' n) e h = h
no-lists (forget' n) e h = h
no-lists (begin' x d) e h = h
no-lists (carry' n) e h = h

no-choice : (r : Request) → is_used (on' r) ≡ true → Chooses r → ⊥
unfolding is_used Chooses
no-choice list' e h = h
no-choice (step' d) e h = false-not-true e
no-choice report' e h = h
no-choice (search' x d) e h = h
no-choice (timed' ds d) e h = false-not-true e
no-choice (run' ws vs n l) e h = h
no-choice (save' n) e h = h
no-choice (return' n) e h = h
no-choice (forget' n) e h = h
no-choice (begin' x d) e h = h
no-choice (carry' n) e h = h

bare : {k : Ask} {a : Answer} → Carries k a → is_used k ≡ true → Bare a
unfolding no ran_as found_as progress_as is_used listed_as reported_as
bare under1 e = record { place = refl; branch = refl; chosen = refl }
bare results.opens e = record { place = refl; branch = refl; chosen = refl }
bare (under2-10 n p l m) e = absurd (false-not-true e)
bare results.opens_steady e = record { place = refl; branch = refl; chosen = refl }
bare (under2-29 n p h) e = absurd (false-not-true e)
bare under11 e = record { place = refl; branch = refl; chosen = refl }
bare (under12 {r = r} i j h) e = absurd (no-lists r e h)
bare (under13 h) e = record { place = refl; branch = refl; chosen = refl }
bare (under14 h) e = record { place = refl; branch = refl; chosen = refl }
bare (results.lists es) e = record { place = refl; branch = refl; chosen = refl }
bare (under15-19 {r = r} n es h l m) e = absurd (no-choice r e h)
bare (results.steps {r = r} c es h) e = absurd (no-choice r e h)
bare (under23-25 n es l m) e = absurd (false-not-true e)
bare (results.runs r k) e = record { place = refl; branch = refl; chosen = refl }
bare (results.reports ns es) e = record { place = refl; branch = refl; chosen = refl }
bare (results.stores h) e = record { place = refl; branch = refl; chosen = refl }
bare (under20 h) e = record { place = refl; branch = refl; chosen = refl }
bare return21 e = record { place = refl; branch = refl; chosen = refl }
bare forget21 e = record { place = refl; branch = refl; chosen = refl }
bare save22 e = record { place = refl; branch = refl; chosen = refl }
bare (results.searches r l) e = record { place = refl; branch = refl; chosen = refl }
bare under26 e = record { place = refl; branch = refl; chosen = refl }
bare under27 e = record { place = refl; branch = refl; chosen = refl }
bare results.begins e = absurd (false-not-true e)
bare begin26 e = absurd (false-not-true e)
bare (under-way c l) e = record { place = refl; branch = refl; chosen = refl }
bare (results.ended c r l) e = record { place = refl; branch = refl; chosen = refl }
bare (ended27 c l) e = record { place = refl; branch = refl; chosen = refl }
bare under28 e = record { place = refl; branch = refl; chosen = refl }

pub run-bare : (ws vs : List ℕ) (n m : ℕ) (x : Engine) (l : List ℕ) → Bare (effect (on' (run' ws vs n m)) x l).answer
run-bare ws vs n m x l = bare (carried (on' (run' ws vs n m)) x l) (unfold is_used in refl)

-- ---- carrying a search on says no more than its count, its run and whether it has ended

pub record Progressed (a : Answer) : Type 0 where
  pub place : a.place ≡ 0
  pub branch : a.branch ≡ 0
  pub total : a.total ≡ 0
  pub chosen : a.chosen ≡ 0
  pub used : used_of a.used ≡ get_or a.used 0 0 ∷ 0 ∷ 0 ∷ []

carried_says : (y : Search) (g : Going) → Progressed (carried_as y g).answer
unfolding carried_as ended_as progress_as used_of
carried_says y (going c p) = record { place = refl; branch = refl; total = refl; chosen = refl; used = refl }
carried_says y (gone c (tree.found r)) = record { place = refl; branch = refl; total = refl; chosen = refl; used = refl }
carried_says y (gone c tree.nothing) = record { place = refl; branch = refl; total = refl; chosen = refl; used = refl }
carried_says y (gone c tree.unsure) = record { place = refl; branch = refl; total = refl; chosen = refl; used = refl }

carry-says : (n : ℕ) (m : Resolved.Model) (o : Option Search) → Progressed (carries_by n m o).answer
unfolding carries_by no used_of
carry-says n m none = record { place = refl; branch = refl; total = refl; chosen = refl; used = refl }
carry-says n m (some y) = by (leb (y.count + n) count_limit)
  where
    g : Going
    g = carry_on (moves_by m y.wait) y.start y.depth n (going y.count y.mark)

    by : (b : Bool) → Progressed (cond b (carried_as y g) (turn (some y) (no 28 0 0 as_lent))).answer
    by true = carried_says y g
    by false = record { place = refl; branch = refl; total = refl; chosen = refl; used = refl }

machine-says : (n : ℕ) (y : Machine) → Progressed (on_machine (carry' n) y).answer
unfolding on_machine acts on_search no used_of
machine-says n closed = record { place = refl; branch = refl; total = refl; chosen = refl; used = refl }
machine-says n (holding h) = carry-says n h.model h.search

pub carry-progressed : (n : ℕ) (x : Engine) (l : List ℕ) → Progressed (effect (on' (carry' n)) x l).answer
unfolding effect answered requested untouched leaves no used_of
carry-progressed n x l = by (has_lengths (on' (carry' n)) (λ (p : Part). length (x p)) (length l))
  where
    by : (b : Bool) → Progressed (cond b (leaves (uses (carry' n)) x l (on_machine (carry' n) (machine_over (uses (carry' n)) x (held_in (x model))))) (untouched x l)).answer
    by true = machine-says n (machine_over (uses (carry' n)) x (held_in (x model)))
    by false = record { place = refl; branch = refl; total = refl; chosen = refl; used = refl }
