-- `offers::collect_place` meets its contract: the process's sum, scope and locals lead to its branches. From the laws of places.
use Rattle.machine.specs.Offer.{branches_of}
use Rattle.model.specs.Scope.{locals_in}
use Rattle.state.specs.Read.{locals_at}
use Rattle.state.proofs.Read.{few-processes}
use Rattle.offers.proofs.Places.{passed, some-place, sum_is, sum_fits, scope-is, few-locals, locals_are, values-good, branches_at, branched}
use mathlib.Core.Path.{◌≡◌, ap, ◌∙◌}
use Prim.Native.Nat.{ℕ, ◌<◌}
use native.Mathlib.Omega.{arith}
use borrow.Author.Rules.{rules}
use lib.ListN.{length, get_or}
use Rattle.offers.proofs.collect_place.Goals as goal

pub sum_at-sum-requires : goal.sum_at-sum-requires
sum_at-sum-requires c =
    let w = c.requires.0.2 in let i = c.args.place in let q = some-place w i c.requires.1 in let p = q.0 in let at = q.1 in
    (passed w, c.requires.1)

pub offset_bounds-tables-sum : goal.offset_bounds-tables-sum
offset_bounds-tables-sum c =
    let w = c.requires.0.2 in let i = c.args.place in let q = some-place w i c.requires.1 in let p = q.0 in let at = q.1 in
    let S = c.sum_at-sum.ensures ∙ sum_is w i p at in
    let l : c.sum_at-sum.result < length c.args.tables.scopes.now = omega (arith, S, (sum_fits w i p at).1) in let k : c.sum_at-sum.result < length c.args.tables.roots.now = omega (arith, S, (sum_fits w i p at).0) in
    search rules

pub bounds-tables-sum : goal.bounds-tables-sum
bounds-tables-sum c =
    let w = c.requires.0.2 in let i = c.args.place in let q = some-place w i c.requires.1 in let p = q.0 in let at = q.1 in
    let S = c.sum_at-sum.ensures ∙ sum_is w i p at in
    let l : c.sum_at-sum.result < length c.args.tables.scopes.now = omega (arith, S, (sum_fits w i p at).1) in let k : c.sum_at-sum.result < length c.args.tables.roots.now = omega (arith, S, (sum_fits w i p at).0) in
    search rules

pub locals_at-locals-requires : goal.locals_at-locals-requires
locals_at-locals-requires c =
    let w = c.requires.0.2 in let i = c.args.place in let q = some-place w i c.requires.1 in let p = q.0 in let at = q.1 in
    let S = c.sum_at-sum.ensures ∙ sum_is w i p at in
    let l : c.sum_at-sum.result < length c.args.tables.scopes.now = omega (arith, S, (sum_fits w i p at).1) in let k : c.sum_at-sum.result < length c.args.tables.roots.now = omega (arith, S, (sum_fits w i p at).0) in
    let C : c.locals_in-count.result ≡ length p.locals = c.locals_in-count.ensures ∙ ap (λ (n : ℕ). locals_in (get_or c.args.tables.scopes.now n 0)) S ∙ scope-is w i p at in
    ((passed w).long, omega (arith, few-processes c.args.state.now (passed w), c.requires.1), omega (arith, C, few-locals w i p at))

pub offset_bounds-tables-sum-2 : goal.offset_bounds-tables-sum-2
offset_bounds-tables-sum-2 c =
    let w = c.requires.0.2 in let i = c.args.place in let q = some-place w i c.requires.1 in let p = q.0 in let at = q.1 in
    let S = c.sum_at-sum.ensures ∙ sum_is w i p at in
    let l : c.sum_at-sum.result < length c.args.tables.scopes.now = omega (arith, S, (sum_fits w i p at).1) in let k : c.sum_at-sum.result < length c.args.tables.roots.now = omega (arith, S, (sum_fits w i p at).0) in
    search rules

pub bounds-tables-sum-2 : goal.bounds-tables-sum-2
bounds-tables-sum-2 c =
    let w = c.requires.0.2 in let i = c.args.place in let q = some-place w i c.requires.1 in let p = q.0 in let at = q.1 in
    let S = c.sum_at-sum.ensures ∙ sum_is w i p at in
    let l : c.sum_at-sum.result < length c.args.tables.scopes.now = omega (arith, S, (sum_fits w i p at).1) in let k : c.sum_at-sum.result < length c.args.tables.roots.now = omega (arith, S, (sum_fits w i p at).0) in
    search rules

pub collect_branches-requires : goal.collect_branches-requires
collect_branches-requires c =
    let w = c.requires.0.2 in let i = c.args.place in let q = some-place w i c.requires.1 in let p = q.0 in let at = q.1 in
    let S = c.sum_at-sum.ensures ∙ sum_is w i p at in
    let l : c.sum_at-sum.result < length c.args.tables.scopes.now = omega (arith, S, (sum_fits w i p at).1) in let k : c.sum_at-sum.result < length c.args.tables.roots.now = omega (arith, S, (sum_fits w i p at).0) in
    let C : c.locals_in-count.result ≡ length p.locals = c.locals_in-count.ensures ∙ ap (λ (n : ℕ). locals_in (get_or c.args.tables.scopes.now n 0)) S ∙ scope-is w i p at in
    let LL = c.locals_at-locals.ensures ∙ ap (locals_at c.args.state.now i) C ∙ locals_are w i p at in let R : get_or c.args.tables.roots.now c.sum_at-sum.result 0 ≡ get_or c.args.tables.roots.now p.sum 0 = ap (λ (n : ℕ). get_or c.args.tables.roots.now n 0) S in
    (rw (LL, R) (branched w i p at), omega (arith, few-processes c.args.state.now (passed w), c.requires.1), omega (arith, c.requires.2))

pub returns-clause-collects : goal.returns-clause-collects
returns-clause-collects c =
    λ m s p w at.
    let i = c.args.place in let S = c.sum_at-sum.ensures ∙ sum_is w i p at in
    let C : c.locals_in-count.result ≡ length p.locals = c.locals_in-count.ensures ∙ ap (λ (n : ℕ). locals_in (get_or c.args.tables.scopes.now n 0)) S ∙ scope-is w i p at in
    let LL = c.locals_at-locals.ensures ∙ ap (locals_at c.args.state.now i) C ∙ locals_are w i p at in let R : get_or c.args.tables.roots.now c.sum_at-sum.result 0 ≡ get_or c.args.tables.roots.now p.sum 0 = ap (λ (n : ℕ). get_or c.args.tables.roots.now n 0) S in
    rw LL at (c.collect_branches.ensures.collects (branches_of m p) (rw R (branches_at w i p at)))

pub invariant_of-context : goal.invariant_of-context
invariant_of-context c =
    let w = c.requires.0.2 in let i = c.args.place in let q = some-place w i c.requires.1 in let p = q.0 in let at = q.1 in
    let S = c.sum_at-sum.ensures ∙ sum_is w i p at in
    let C : c.locals_in-count.result ≡ length p.locals = c.locals_in-count.ensures ∙ ap (λ (n : ℕ). locals_in (get_or c.args.tables.scopes.now n 0)) S ∙ scope-is w i p at in
    let LL = c.locals_at-locals.ensures ∙ ap (locals_at c.args.state.now i) C ∙ locals_are w i p at in
    record { in_range = rw LL (values-good w i p at) }
