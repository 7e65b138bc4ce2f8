-- `names::is_callable` meets its contract: by the node of the definition.
use native.Mathlib.Omega.{arith}
use Rattle.names.proofs.Uses.{not-callable, node-inside, node-takes}
use Rattle.names.proofs.is_callable.Goals as goal

pub returns-in_default : goal.returns-in_default
returns-in_default c =
    λ h e. not-callable h c.args.k (c.definition_node.ensures h e) c.args.n c.in_default.is

pub offset_bounds-parsed-d : goal.offset_bounds-parsed-d
offset_bounds-parsed-d c =
    omega (arith, node-inside c.requires.0 c.args.k (c.definition_node.ensures c.requires.0 c.requires.1) c.in-Some.is)

pub bounds-parsed-d : goal.bounds-parsed-d
bounds-parsed-d c =
    node-inside c.requires.0 c.args.k (c.definition_node.ensures c.requires.0 c.requires.1) c.in-Some.is

pub returns : goal.returns
returns c =
    λ h e. node-takes h c.args.k (c.definition_node.ensures h e) c.in-Some.is c.args.n c.third_of.result c.third_of.ensures
