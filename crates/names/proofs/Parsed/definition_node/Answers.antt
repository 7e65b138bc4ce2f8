-- `names::Parsed::definition_node` meets its contract: by what the look-up among definitions finds.
use native.Mathlib.Omega.{arith}
use Rattle.token.proofs.Columns.{length-lows}
use Rattle.names.proofs.Settled.{name-inside, reach-definitions}
use Rattle.names.proofs.Uses.{variables-below, not-defined, defined-inside, defined-node}
use Rattle.names.proofs.Parsed.definition_node.Goals as goal

pub definition_named-requires-clause-below : goal.definition_named-requires-clause-below
definition_named-requires-clause-below c =
    variables-below c.requires.0 c.args.k c.requires.1

pub definition_named-requires-clause-reach : goal.definition_named-requires-clause-reach
definition_named-requires-clause-reach c =
    reach-definitions c.requires.0 c.args.self.lists.definitions (omega arith)

pub definition_named-requires-clause-k_in_bounds : goal.definition_named-requires-clause-k_in_bounds
definition_named-requires-clause-k_in_bounds c =
    omega (arith, length-lows c.args.self.contents.now, (name-inside c.requires.0 c.args.k c.requires.1).0)

pub returns-in_err-j : goal.returns-in_err-j
returns-in_err-j c =
    λ h e. rw c.from_residual.ensures (not-defined h c.args.k e c.definition_named.ensures c.in_err-j.was)

pub first_definition-first-requires : goal.first_definition-first-requires
first_definition-first-requires c =
    variables-below c.requires.0 c.args.k c.requires.1

pub overflow_sub-first : goal.overflow_sub-first
overflow_sub-first c =
    omega (arith, (defined-inside c.requires.0 c.args.k c.requires.1 c.definition_named.ensures c.in_ok-j.was).0)

pub offset_bounds-self-first : goal.offset_bounds-self-first
offset_bounds-self-first c =
    omega (arith, (defined-inside c.requires.0 c.args.k c.requires.1 c.definition_named.ensures c.in_ok-j.was).1)

pub bounds-self-first : goal.bounds-self-first
bounds-self-first c =
    rw c.first_definition-first.ensures (defined-inside c.requires.0 c.args.k c.requires.1 c.definition_named.ensures c.in_ok-j.was).1

pub returns : goal.returns
returns c =
    λ h e. rw (c.left_of.ensures, c.first_definition-first.ensures) (defined-node h c.args.k e c.definition_named.ensures c.in_ok-j.was)
