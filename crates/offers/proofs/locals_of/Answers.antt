-- `offers::locals_of` meets its contract: the process's sum leads to its scope. From the laws of places.
use Rattle.model.specs.Scope.{locals_in}
use Rattle.state.specs.Read.{locals_at}
use Rattle.state.proofs.Read.{few-processes}
use Rattle.offers.proofs.Places.{passed, some-place, sum_is, sum_fits, scope-is, few-locals, locals_are, locals-of}
use mathlib.Core.Path.{◌≡◌, ap, sym, ◌∙◌}
use Prim.Native.Nat.{ℕ, ◌<◌}
use native.Mathlib.Omega.{arith}
use borrow.Author.Rules.{rules}
use lib.ListN.{length, get_or}
use Rattle.offers.proofs.locals_of.Goals as goal

pub sum_at-sum-requires : goal.sum_at-sum-requires
sum_at-sum-requires c =
    let w = c.requires.0.4 in let i = c.args.place in let q = some-place w i c.requires.1 in let p = q.0 in let at = q.1 in
    (passed w, c.requires.1)

pub offset_bounds-scopes-sum : goal.offset_bounds-scopes-sum
offset_bounds-scopes-sum c =
    let w = c.requires.0.4 in let i = c.args.place in let q = some-place w i c.requires.1 in let p = q.0 in let at = q.1 in
    let S = c.sum_at-sum.ensures ∙ sum_is w i p at in
    let l : c.sum_at-sum.result < length c.args.scopes.now = omega (arith, S, (sum_fits w i p at).1) in
    search rules

pub bounds-scopes-sum : goal.bounds-scopes-sum
bounds-scopes-sum c =
    let w = c.requires.0.4 in let i = c.args.place in let q = some-place w i c.requires.1 in let p = q.0 in let at = q.1 in
    let S = c.sum_at-sum.ensures ∙ sum_is w i p at in
    let l : c.sum_at-sum.result < length c.args.scopes.now = omega (arith, S, (sum_fits w i p at).1) in
    search rules

pub locals_at-requires : goal.locals_at-requires
locals_at-requires c =
    let w = c.requires.0.4 in let i = c.args.place in let q = some-place w i c.requires.1 in let p = q.0 in let at = q.1 in
    let S = c.sum_at-sum.ensures ∙ sum_is w i p at in
    let C : c.locals_in-count.result ≡ length p.locals = c.locals_in-count.ensures ∙ ap (λ (n : ℕ). locals_in (get_or c.args.scopes.now n 0)) S ∙ scope-is w i p at in
    ((passed w).long, omega (arith, few-processes c.args.state.now (passed w), c.requires.1), omega (arith, C, few-locals w i p at))

pub returns : goal.returns
returns c =
    λ t roots m s w.
    let i = c.args.place in let q = some-place w i c.requires.1 in let p = q.0 in let at = q.1 in
    let S = c.sum_at-sum.ensures ∙ sum_is w i p at in
    let C : c.locals_in-count.result ≡ length p.locals = c.locals_in-count.ensures ∙ ap (λ (n : ℕ). locals_in (get_or c.args.scopes.now n 0)) S ∙ scope-is w i p at in
    c.locals_at.ensures ∙ ap (locals_at c.args.state.now i) C ∙ locals_are w i p at ∙ sym (locals-of w i p at)
