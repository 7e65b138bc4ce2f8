-- The sum number leads to the root of its branches and to its scope.
use mathlib.Core.Path.{◌∙◌}
use native.Mathlib.Omega.{arith}
use Rattle.step.proofs.Tables.{passed, inside, sum_is, in-roots, in-scopes, own_is, few-own, chain, root_is}
use Rattle.step.proofs.find_branch.Goals as goal

pub sum_at-sum-requires : goal.sum_at-sum-requires
sum_at-sum-requires c =
    (passed c.requires.acts.lent.stands, inside c.requires.acts)

pub offset_bounds-tables-sum : goal.offset_bounds-tables-sum
offset_bounds-tables-sum c =
    omega (arith, c.sum_at-sum.ensures, sum_is c.requires.acts, in-roots c.requires.acts, c.well_formed)

pub bounds-tables-sum : goal.bounds-tables-sum
bounds-tables-sum c =
    omega (arith, c.sum_at-sum.ensures, sum_is c.requires.acts, in-roots c.requires.acts)

pub offset_bounds-tables-sum-2 : goal.offset_bounds-tables-sum-2
offset_bounds-tables-sum-2 c =
    omega (arith, c.sum_at-sum.ensures, sum_is c.requires.acts, in-scopes c.requires.acts, c.well_formed)

pub bounds-tables-sum-2 : goal.bounds-tables-sum-2
bounds-tables-sum-2 c =
    omega (arith, c.sum_at-sum.ensures, sum_is c.requires.acts, in-scopes c.requires.acts)

pub branch_root-root-requires : goal.branch_root-root-requires
branch_root-root-requires c =
    rw (c.from-first.ensures, c.sum_at-sum.ensures ∙ sum_is c.requires.acts) (chain c.requires.acts)

pub returns : goal.returns
returns c =
    let a = c.requires.acts in
    let q = c.sum_at-sum.ensures ∙ sum_is a in
    (λ m s p b g h. let e = c.sum_at-sum.ensures ∙ sum_is h in (c.locals_in-own.ensures ∙ rw e (own_is h), root_is h c.branch_root-root.result (rw (c.from-first.ensures, e) at c.branch_root-root.ensures)), rw (c.locals_in-own.ensures, q, own_is a) (few-own a))
