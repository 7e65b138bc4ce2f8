use Rattle.token.proofs.Columns.{length-lows}
use Rattle.settle.proofs.Finds.{in_tables, variables-below, definitions-reach, number-or}
use mathlib.Core.Path.{◌∙◌}
use native.Mathlib.Omega.{arith}
use Rattle.settle.proofs.definition_named.Goals as goal

pub definition_named-requires-clause-k_in_bounds : goal.definition_named-requires-clause-k_in_bounds
definition_named-requires-clause-k_in_bounds c =
    omega (arith, (in_tables c.requires.0 c.args.k c.requires.1).0, length-lows c.args.parsed.contents.now)

pub definition_named-requires-clause-below : goal.definition_named-requires-clause-below
definition_named-requires-clause-below c =
    omega (arith, variables-below c.requires.0)

pub definition_named-requires-clause-reach : goal.definition_named-requires-clause-reach
definition_named-requires-clause-reach c =
    definitions-reach c.requires.0

pub returns : goal.returns
returns c =
    λ h e. c.unwrap_or.ensures ∙ number-or h c.args.k e c.definition_named.ensures
