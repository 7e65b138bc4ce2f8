use Rattle.token.proofs.Columns.{length-lows}
use Rattle.settle.proofs.Finds.{in_tables, variables-reach, not_named, named-inside, named-number}
use mathlib.Core.Path.{ap}
use Prim.Native.Nat.{ℕ}
use native.Mathlib.Omega.{arith}
use lib.ListN.{get_or}
use Rattle.settle.proofs.number_named.Goals as goal

pub variable_named-requires-clause-k_in_bounds : goal.variable_named-requires-clause-k_in_bounds
variable_named-requires-clause-k_in_bounds c =
    omega (arith, (in_tables c.requires.0 c.args.k c.requires.1).0, length-lows c.args.parsed.contents.now)

pub variable_named-requires-clause-reach : goal.variable_named-requires-clause-reach
variable_named-requires-clause-reach c =
    variables-reach c.requires.0

pub returns-in_err-j : goal.returns-in_err-j
returns-in_err-j c =
    λ h e. rw c.from_residual.ensures (not_named h c.args.k e c.variable_named.ensures c.in_err-j.was)

pub overflow_sub-root : goal.overflow_sub-root
overflow_sub-root c =
    omega (arith, (named-inside c.requires.0 c.args.k c.requires.1 c.variable_named.ensures c.in_ok-j.was).0)

pub bounds-parsed-root : goal.bounds-parsed-root
bounds-parsed-root c =
    (named-inside c.requires.0 c.args.k c.requires.1 c.variable_named.ensures c.in_ok-j.was).1

pub offset_bounds-parsed-left_of : goal.offset_bounds-parsed-left_of
offset_bounds-parsed-left_of c =
    omega (arith, c.left_of.ensures, (named-inside c.requires.0 c.args.k c.requires.1 c.variable_named.ensures c.in_ok-j.was).2)

pub bounds-parsed-left_of : goal.bounds-parsed-left_of
bounds-parsed-left_of c =
    rw c.left_of.ensures (named-inside c.requires.0 c.args.k c.requires.1 c.variable_named.ensures c.in_ok-j.was).2

pub returns : goal.returns
returns c =
    λ h e. named-number h c.args.k e c.variable_named.ensures c.in_ok-j.was _ (ap (λ (i : ℕ). get_or c.args.parsed.nodes.now i 0) c.left_of.ensures)
