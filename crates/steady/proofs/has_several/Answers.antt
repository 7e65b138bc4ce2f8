-- `steady::has_several` meets its contract: by the node of the definition, and the root of the sums before it.
use native.Mathlib.Omega.{arith}
use Rattle.steady.proofs.Faults.{none-several, sums-inside, named-several}
use Rattle.steady.proofs.has_several.Goals as goal

pub returns-in_default : goal.returns-in_default
returns-in_default c =
    λ h e. none-several h c.args.k (c.definition_node.ensures h e) c.in_default.is

pub overflow_sub-d : goal.overflow_sub-d
overflow_sub-d c =
    omega (arith, (sums-inside c.requires.0 c.args.k (c.definition_node.ensures c.requires.0 c.requires.1) c.in-Some.is).0)

pub offset_bounds-parsed-d : goal.offset_bounds-parsed-d
offset_bounds-parsed-d c =
    omega (arith, (sums-inside c.requires.0 c.args.k (c.definition_node.ensures c.requires.0 c.requires.1) c.in-Some.is).1)

pub bounds-parsed-d : goal.bounds-parsed-d
bounds-parsed-d c =
    (sums-inside c.requires.0 c.args.k (c.definition_node.ensures c.requires.0 c.requires.1) c.in-Some.is).1

pub returns : goal.returns
returns c =
    λ h e. named-several h c.args.k (c.definition_node.ensures h e) c.in-Some.is c.kind_of.result c.kind_of.ensures
