-- Where the tables and the state's numbers have the branch that acts: from what the tables represent and from the laws of a state's numbers.
use mathlib.Core.Path.{◌≡◌, refl, sym, ap, subst, ◌∙◌}
use mathlib.Core.List.{List, [], ◌∷◌, ◌++◌}
use mathlib.Core.Option.{Option, Option-elim}
use Prim.Native.Nat.{ℕ, zero, suc, ◌+◌, ◌≤◌, ◌<◌}
use borrow.Author.Tests.{lt-ltb}
use mathlib.Core.Bool.{true}
use native.Mathlib.Omega.{arith}
use lib.IntN.{ℤ, pos, negsuc, nat_abs}
use lib.ListN.{length, get_or, take}
use Rattle.value.specs.Range.{InRange}
use Rattle.model.specs.Resolved
use Rattle.model.specs.Good.{Every, GoodSum, GoodBranch}
use Rattle.rules.specs.Offers as offers
use Rattle.rules.specs.Rules.{Nth}
use Rattle.rules.proofs.Inside.{nth_inside}
use Rattle.tables.specs.Settled as Settled
use Rattle.machine.specs.Offer.{Process, branches_of}
use Rattle.machine.specs.State.{State, GoodProcess, GoodPair, state_length, channel_width, pair_width, pair_numbers}
use Rattle.machine.proofs.Branches.{nth-get, get_nth, nth-below}
use Rattle.machine.proofs.Everys.{every-nth}
use Rattle.machine.proofs.Continues.{at-good}
use Rattle.model.specs.Scope.{locals_in}
use Rattle.model.proofs.Scope.{locals-in}
use Rattle.state.specs.Fits.{scopes_of, Fits, FitsPair, FewLocals}
use Rattle.state.specs.Read.{Passed, process_count, pair_count, sum_at, locals_at, pair_row}
use Rattle.state.specs.Test.{is_below}
use Rattle.rules.specs.Step.{values_at}
use Rattle.state.proofs.Entries.{pair-wide}
use Rattle.state.proofs.Over.{good-fits, few-scopes}
use Rattle.state.proofs.Read.{good-passed, count-numbers, sum-numbers, locals-numbers, row-numbers}
use Rattle.eval.specs.Held.{Held}
use Rattle.machine.specs.Evaluate.{eval_branch}
use Rattle.eval.specs.declared.offer.Offer.{Offer}
use Rattle.eval.specs.Next.{ShowsNext, Scoped}
use Rattle.std.specs.Prelude.{Option as RustOption}
use Rattle.std.specs.Option.{option_flatten}
use Rattle.rules.specs.Step.{on_action, bound_by}
use Rattle.eval.specs.Shown.{ShowsGuard, ShowsOffer}
use Rattle.eval.specs.declared.Values.{Values}
use Rattle.step.specs.declared.Entered.{Entered}
use Rattle.step.specs.Enter.{Stands, Lent, Acts, Chain, Enters, values_of, locals_of}
use Rattle.step.proofs.Chain.{RootOf}
use Rattle.step.proofs.Offers.{row-values, guard-shown}

-- ---- a state's numbers
module _ {zs : List ℤ} {m : Resolved.Model} {s : State} (h : Stands zs m s) where
  pub fits : Fits (scopes_of m) m.channels s
  fits = good-fits m s h.good h.state

  pub few : FewLocals (scopes_of m)
  few = few-scopes m h.good

  pub passed : Passed zs
  passed = subst Passed (sym h.numbers) (good-passed m s h.good h.state)

  pub long : length zs ≡ state_length
  long = passed.long

  pub processes-are : process_count zs ≡ length s.processes
  processes-are = ap process_count h.numbers ∙ (count-numbers (scopes_of m) few m.channels s fits).0

  pub pairs-are : pair_count zs ≡ length s.pairs
  pairs-are = ap pair_count h.numbers ∙ (count-numbers (scopes_of m) few m.channels s fits).1

-- 02, note 6: what is known of the model's sums
pub scoped_of : {t roots scopes : List ℕ} {root variables : ℕ} {zs : List ℤ} {m : Resolved.Model} {s : State} → Lent t roots scopes root variables zs m s → Scoped scopes m
scoped_of h = record { fit = omega (arith, h.represents.sums-are, h.represents.scopes-fit); are = h.represents.scope }

-- ---- the branch that acts
module _ {t roots scopes : List ℕ} {zs : List ℤ} {i j : ℕ} {m : Resolved.Model} {s : State} {p : Process} {b : Resolved.Branch} {g : offers.Guard} (h : Acts t roots scopes zs i j m s p b g) where
  stands : Stands zs m s
  stands = h.lent.stands

  pub inside : i < process_count zs
  inside = omega (arith, nth_inside h.at.place, processes-are stands)

  pub process : GoodProcess m p
  process = every-nth (GoodProcess m) stands.state.processes h.at.place

  pub sum_is : sum_at zs i ≡ p.sum
  sum_is = ap (λ (l : List ℤ). sum_at l i) stands.numbers ∙ sum-numbers (scopes_of m) (few stands) m.channels s (fits stands) i p (nth-get h.at.place)

  pub locals_are : locals_at zs i (length p.locals) ≡ p.locals
  locals_are = ap (λ (l : List ℤ). locals_at l i (length p.locals)) stands.numbers ∙ locals-numbers (scopes_of m) (few stands) m.channels s (fits stands) i p (nth-get h.at.place)

  sum-good : GoodSum m process.sum.sum
  sum-good = every-nth (GoodSum m) stands.good.sums (get_nth m.sums p.sum process.sum.exists)

  pub few-own : length p.locals ≤ 8
  few-own = omega (arith, sum-good.few, process.sum.scope)

  below : p.sum < length m.sums
  below = nth_inside (get_nth m.sums p.sum process.sum.exists)

  pub in-roots : p.sum < length roots
  in-roots = omega (arith, below, h.lent.represents.sums-are, h.lent.represents.roots-fit)

  pub in-scopes : p.sum < length scopes
  in-scopes = omega (arith, below, h.lent.represents.sums-are, h.lent.represents.scopes-fit)

  pub own_is : locals_in (get_or scopes p.sum 0) ≡ length p.locals
  own_is = ap locals_in (h.lent.represents.scope p.sum process.sum.sum process.sum.exists) ∙ locals-in process.sum.sum sum-good.few ∙ process.sum.scope

  branches_at : Settled.Branches t process.sum.sum.branches (get_or roots p.sum 0)
  branches_at = h.lent.represents.branches p.sum process.sum.sum process.sum.exists

  branch-nth : Nth process.sum.sum.branches j b
  unfolding branches_of Option-elim
  branch-nth = rw process.sum.exists at h.at.branch

  pub chain : Chain t (get_or roots p.sum 0) j
  chain = record { branches = process.sum.sum.branches; branch = b; at = branches_at; nth = branch-nth }

  pub root_is : (r : ℕ) → RootOf t (get_or roots p.sum 0) j r → Settled.Branch t b r
  root_is r f = f process.sum.sum.branches b branches_at branch-nth

  pub branch-good : GoodBranch m (length p.locals) b
  branch-good = at-good m stands.good process h.at

  pub held : (r : ℕ) → Settled.Branch t b r → Held (Settled.Branch t) (GoodBranch m (length p.locals)) r
  held r a = record { part = b; at = a; fit = branch-good }

-- ---- the values of a lit pair
below-three : (z : ℤ) → z ≡ pos (nat_abs z) → nat_abs z ≤ 2 → is_below 3 z ≡ true
unfolding is_below
below-three (pos k) e l = lt-ltb k 3 (omega arith)
below-three (negsuc k) e l = let f : ◌≡◌ {A = ℕ} 0 1 = cc in absurd (omega arith)

none-at : (L : List offers.Pair) (q : ℕ) → length L ≤ q → values_at L q ≡ []
unfolding values_at Option-elim
none-at [] q l = refl
none-at (x ∷ L) zero l = absurd (omega arith)
none-at (x ∷ L) (suc q) l = none-at L q (omega arith)

-- what a row of a lit pair has
pub record RowOf (L : List offers.Pair) (q : ℕ) (row : List ℤ) : Type 0 where
  pub wide : length row ≡ pair_width
  pub values : take (nat_abs (get_or row channel_width (pos 0))) (get_or row (channel_width + 1) (pos 0) ∷ get_or row (channel_width + 2) (pos 0) ∷ []) ≡ values_at L q
  pub two : nat_abs (get_or row channel_width (pos 0)) ≤ 2
  pub below : is_below 3 (get_or row channel_width (pos 0)) ≡ true

module _ {zs : List ℤ} {m : Resolved.Model} {s : State} (h : Stands zs m s) (q : ℕ) where
  pub beyond : pair_count zs ≤ q → values_at s.pairs q ≡ []
  beyond l = none-at s.pairs q (omega (arith, l, pairs-are h))

  pub row_of : q < pair_count zs → (row : List ℤ) → row ≡ pair_row zs q → RowOf s.pairs q row
  unfolding values_at Option-elim
  row_of l row e =
      let w = nth-below s.pairs q (omega (arith, l, pairs-are h)) in
      let x : offers.Pair = w.0 in
      let g : GoodPair m x = every-nth (GoodPair m) h.state.pairs w.1 in
      let f : FitsPair m.channels x = every-nth (FitsPair m.channels) (fits h).pairs w.1 in
      let r : row ≡ pair_numbers x = e ∙ (ap (λ (l : List ℤ). pair_row l q) h.numbers ∙ row-numbers (scopes_of m) (few h) m.channels s (fits h) q x (nth-get w.1)) in
      let v = row-values x g.number in
      record {
        wide = ap length r ∙ pair-wide m.channels x f;
        values = rw (r, nth-get w.1) v.0;
        two = rw r v.1;
        below = rw r (below-three (get_or (pair_numbers x) channel_width (pos 0)) v.2 v.1);
      }

-- ---- what is entered
module _ {t roots scopes : List ℕ} {zs : List ℤ} {i j : ℕ} {m : Resolved.Model} {s : State} {p : Process} {b : Resolved.Branch} {g : offers.Guard} (h : Acts t roots scopes zs i j m s p b g) where
  pub own-are : (n : ℕ) → n ≡ length p.locals → (l : List ℤ) → l ≡ locals_at zs i n → l ≡ p.locals
  own-are n e l f = f ∙ (ap (locals_at zs i) e ∙ locals_are h)

  pub offer-asks : (l : List ℤ) → l ≡ p.locals → (r : ℕ) → Settled.Branch t b r → (n : Resolved.Model) × Held (Settled.Branch t) (GoodBranch n (length l)) r
  offer-asks l e r a = rw e (m, held h r a)

  pub own-values : (l : List ℤ) → l ≡ p.locals → Every InRange l
  own-values l e = rw e (process h).values

  pub guard-here : (own : List ℤ) (o : RustOption (RustOption Offer)) → own ≡ p.locals → ShowsOffer t own (eval_branch own b) o → ShowsGuard t p.locals g (option_flatten o)
  guard-here own o e q =
      guard-shown (subst (λ (x : Option offers.Guard). ShowsOffer t p.locals x o) h.evaluates (subst (λ (x : List ℤ). ShowsOffer t x (eval_branch x b) o) e q))

  pub entered : (us bound : RustOption Values) (own ls : List ℤ) (r : Entered)
      → own ≡ p.locals → ls ≡ own ++ values_of bound → values_of bound ≡ on_action [] (bound_by (values_of us)) g
      → ShowsGuard t p.locals g r.offer → ShowsNext t b.next r.next → Enters t p b g (values_of us) ls r
  unfolding locals_of
  entered us bound own ls r e f v o n =
      record { locals = f ∙ (ap (λ (x : List ℤ). x ++ values_of bound) e ∙ ap (λ (x : List ℤ). p.locals ++ x) v); next = n; offer = o }
