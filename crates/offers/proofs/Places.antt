-- What a state's numbers and a model's tables say of the process at a place, and its offers after those of the places before it. From the laws of states and tables.
use Prim.Native.Nat.{ℕ, zero, suc, ◌+◌, ◌*◌, ◌≤◌, ◌<◌}
use mathlib.Core.Path.{◌≡◌, refl, sym, ap, ◌∙◌}
use mathlib.Core.List.{List, [], ◌∷◌}
use mathlib.Core.Option.{Option, none, some, Option-elim}
use native.Mathlib.Omega.{arith}
use lib.IntN.{ℤ}
use lib.ListN.{length, get_or, get_elem?, take, drop, length-append}
use lib.Seq.{take_all}
use Rattle.value.specs.Range.{InRange}
use Rattle.model.specs.Resolved
use Rattle.model.specs.Limits.{branch_limit, local_limit}
use Rattle.model.proofs.Members.{got-below, got-some}
use Rattle.tables.specs.Settled as Settled
use Rattle.model.specs.Good.{Every, GoodSum}
use Rattle.machine.specs.Offer.{Process, branches_of, missing}
use Rattle.machine.specs.State.{State, GoodProcess}
use Rattle.machine.proofs.Branches.{none-not-some, get_nth}
use Rattle.machine.proofs.Everys.{every-nth}
use Rattle.state.specs.Read.{Passed, process_count, sum_at, locals_at}
use Rattle.state.specs.Fits.{scopes_of}
use Rattle.model.specs.Scope.{locals_in}
use Rattle.model.proofs.Scope.{locals-in}
use Rattle.state.proofs.Over.{good-fits, few-scopes}
use Rattle.state.proofs.Read.{good-passed, count-numbers, sum-numbers, locals-numbers}
use Rattle.std.specs.Prelude.{Err, Ok}
use Rattle.offers.specs.declared.row.Row.{Row}
use Rattle.offers.specs.declared.Stop.{Stop}
use Rattle.offers.specs.declared.Stop.TheVariants.{Missing, Full}
use Rattle.offers.specs.Walk.{slots_from, slots_of}
use Rattle.offers.specs.Table.{locals_of, Holds}
use Rattle.offers.specs.Collect as Collect
use Rattle.offers.specs.Collect.{Branched, Collects, FewBranches, World, Answers}
use Rattle.offers.proofs.Walk.{from-few, of-next, missing-here, missing-later}

module _ {t roots scopes : List ℕ} {zs : List ℤ} {m : Resolved.Model} {s : State} (w : World t roots scopes zs m s) where
  pub passed : Passed zs
  passed = rw w.numbers (good-passed m s w.good w.state)

  pub places-are : process_count zs ≡ length s.processes
  places-are = ap process_count w.numbers ∙ (count-numbers (scopes_of m) (few-scopes m w.good) m.channels s (good-fits m s w.good w.state)).0

  pub some-place : (i : ℕ) → i < process_count zs → (p : Process) × (get_elem? s.processes i ≡ some p)
  some-place i l = got-some s.processes i (omega (arith, places-are))

  -- ---- the process at a place
  module _ (i : ℕ) (p : Process) (at : get_elem? s.processes i ≡ some p) where
    good : GoodProcess m p
    good = every-nth (GoodProcess m) w.state.processes (get_nth s.processes i at)

    sum : Resolved.Sum
    sum = good.sum.sum

    exists : get_elem? m.sums p.sum ≡ some sum
    unfolding sum
    exists = good.sum.exists

    sum-good : GoodSum m sum
    sum-good = every-nth (GoodSum m) w.good.sums (get_nth m.sums p.sum exists)

    pub sum_is : sum_at zs i ≡ p.sum
    sum_is = ap (λ y. sum_at y i) w.numbers ∙ sum-numbers (scopes_of m) (few-scopes m w.good) m.channels s (good-fits m s w.good w.state) i p at

    pub sum_fits : (p.sum < length roots) × (p.sum < length scopes)
    sum_fits =
        let l = got-below m.sums p.sum exists in
        (omega (arith, w.represents.sums-are, w.represents.roots-fit), omega (arith, w.represents.sums-are, w.represents.scopes-fit))

    pub scope-is : locals_in (get_or scopes p.sum 0) ≡ length p.locals
    unfolding sum
    scope-is = ap locals_in (w.represents.scope p.sum sum exists) ∙ locals-in sum sum-good.few ∙ good.sum.scope

    pub few-locals : length p.locals ≤ local_limit
    few-locals = omega (arith, sum-good.few, good.sum.scope, sum-scope)
      where
        sum-scope : sum.locals ≡ good.sum.sum.locals
        sum-scope = unfold sum in refl

    pub locals_are : locals_at zs i (length p.locals) ≡ p.locals
    locals_are = ap (λ y. locals_at y i (length p.locals)) w.numbers ∙ locals-numbers (scopes_of m) (few-scopes m w.good) m.channels s (good-fits m s w.good w.state) i p at

    pub values-good : Every InRange p.locals
    values-good = good.values

    branches-are : branches_of m p ≡ sum.branches
    unfolding branches_of Option-elim
    branches-are = rw exists

    pub branches_at : Settled.Branches t (branches_of m p) (get_or roots p.sum 0)
    branches_at = rw branches-are (w.represents.branches p.sum sum exists)

    pub branched : Branched t (length p.locals) 0 (get_or roots p.sum 0)
    unfolding sum FewBranches
    branched =
        record {
          model = m;
          branches = sum.branches;
          at = w.represents.branches p.sum sum exists;
          fit = rw (sym good.sum.scope) sum-good.branches;
          few = omega (arith, every-nth (λ (s : Resolved.Sum). length s.branches ≤ branch_limit) w.few (get_nth m.sums p.sum exists));
        }

    pub few-branches : length (branches_of m p) ≤ 16
    unfolding FewBranches
    few-branches = rw branches-are (every-nth (λ (s : Resolved.Sum). length s.branches ≤ branch_limit) w.few (get_nth m.sums p.sum exists))

    pub locals-of : locals_of s.processes i ≡ p.locals
    unfolding locals_of Option-elim
    locals-of = rw at

-- ---- the places before i are collected into n rows
pub record Progress (t : List ℕ) (rs : List Row) (m : Resolved.Model) (ps : List Process) (i n : ℕ) : Type 0 where
  pub missing-is : missing m 0 ps ≡ missing m i (drop i ps)
  pub holds : Holds t (locals_of ps) rs (slots_of m 0 (take i ps))
  pub rows : length (slots_of m 0 (take i ps)) ≡ n

pub progress-none : (t : List ℕ) (rs : List Row) (m : Resolved.Model) (ps : List Process) → Progress t rs m ps 0 0
unfolding slots_of
progress-none t rs m ps = record { missing-is = refl; holds = record { shown = λ k x e. none-not-some none _ refl e }; rows = refl }

module _ {t roots scopes : List ℕ} {zs : List ℤ} {m : Resolved.Model} {s : State} (w : World t roots scopes zs m s) (i n : ℕ) (p : Process) (at : get_elem? s.processes i ≡ some p)
    (rs : List Row) (n' : ℕ) (rs' : List Row) where
  pub next-rows : Collects t p.locals i 0 n rs n' rs' (branches_of m p) (Ok tt) → n' ≤ n + 16
  next-rows (Collect.Collects.all e g) = omega (arith, g.rows, from-few p.locals i 0 (branches_of m p), few-branches w i p at)

  pub progress-more : Collects t p.locals i 0 n rs n' rs' (branches_of m p) (Ok tt) → Progress t rs m s.processes i n → Progress t rs' m s.processes (i + 1) n'
  progress-more (Collect.Collects.all e g) q =
      let nth = get_nth s.processes i at in
      let o = of-next m nth in
      record {
        missing-is = q.missing-is ∙ missing-later m nth e;
        holds = rw o (g.holds (locals_of s.processes) (slots_of m 0 (take i s.processes)) (locals-of w i p at) q.rows q.holds);
        rows = ap length o ∙ length-append (slots_of m 0 (take i s.processes)) (slots_from p.locals i 0 (branches_of m p)) ∙ (let z : length (slots_of m 0 (take i s.processes)) + length (slots_from p.locals i 0 (branches_of m p)) ≡ n' = omega (arith, g.rows, q.rows) in z);
      }

  pub progress-stops : (e : Stop) → Collects t p.locals i 0 n rs n' rs' (branches_of m p) (Err e) → Progress t rs m s.processes i n → Answers t rs' m s.processes (Err e)
  progress-stops (Missing i' j) (Collect.Collects.lacks e) q = Collect.Answers.lacks (q.missing-is ∙ missing-here m (get_nth s.processes i at) j e)
  progress-stops Full (Collect.Collects.full l) q = Collect.Answers.full l

drop_all : {A : Type 0} (i : ℕ) (xs : List A) → length xs ≤ i → drop i xs ≡ []
drop_all zero [] l = refl
drop_all (suc i) [] l = refl
drop_all zero (x ∷ xs) l = absurd (omega arith)
drop_all (suc i) (x ∷ xs) l = drop_all i xs (omega arith)

pub progress-all : (t : List ℕ) (rs : List Row) (m : Resolved.Model) (ps : List Process) (i n : ℕ) → length ps ≤ i → n ≤ length rs → Progress t rs m ps i n → Answers t rs m ps (Ok n)
progress-all t rs m ps i n l r q =
    rw (← q.rows) (rw (take_all i ps l) (Collect.Answers.all (q.missing-is ∙ ended i ps l) (rw (take_all i ps l) at q.holds) (rw (take_all i ps l) at (let z : length (slots_of m 0 (take i ps)) ≤ length rs = omega (arith, q.rows) in z))))
  where
    ended : (i : ℕ) (qs : List Process) → length qs ≤ i → missing m i (drop i qs) ≡ none
    ended i qs l = ap (missing m i) (drop_all i qs l) ∙ (unfold missing in refl)

-- at most 16 slots a place
of-few : (m : Resolved.Model) (ps : List Process) → FewBranches m → (i : ℕ) → length (slots_of m i ps) ≤ length ps * 16
unfolding slots_of
of-few m [] few i = omega arith
of-few m (p ∷ ps) few i =
    let e = length-append (slots_from p.locals i 0 (branches_of m p)) (slots_of m (suc i) ps) in
    omega (arith, e, from-few p.locals i 0 (branches_of m p), sum-few (get_elem? m.sums p.sum) refl, of-few m ps few (suc i))
  where
    sum-few : (o : Option Resolved.Sum) → get_elem? m.sums p.sum ≡ o → length (branches_of m p) ≤ 16
    sum-few none e = unfold branches_of Option-elim in rw e (omega arith)
    sum-few (some r) e = unfold branches_of Option-elim FewBranches in rw e (every-nth (λ (s : Resolved.Sum). length s.branches ≤ branch_limit) few (get_nth m.sums p.sum e))

pub slots-few : {t roots scopes : List ℕ} {zs : List ℤ} {m : Resolved.Model} {s : State} → World t roots scopes zs m s → length (slots_of m 0 s.processes) ≤ 4096
slots-few {m = m} {s} w = omega (arith, of-few m s.processes w.few 0, w.state.few-processes)
