-- `names::scale_fault` meets its contract: by what the look-ups find, first among locals, then among variables.
use mathlib.Core.Path.{refl, ◌∙◌}
use mathlib.Core.Bool.{true}
use native.Mathlib.Omega.{arith}
use Rattle.names.specs.Faults.{asks_names}
use Rattle.token.proofs.Columns.{length-lows}
use Rattle.names.proofs.Settled.{name-inside, in_scope, reach-variables}
use Rattle.names.proofs.Uses.{scaled}
use Rattle.names.proofs.scale_fault.Goals as goal
use Rattle.names.proofs.scale_fault.Goals.{then-is_some, else-is_some}

pub local_named-requires : goal.local_named-requires
unfolding asks_names
local_named-requires c =
    in_scope c.requires.0 refl c.args.k c.requires.1

pub variable_named-requires : goal.variable_named-requires
variable_named-requires c =
    record { reach = reach-variables c.requires.0.world c.args.parsed.now.lists.variables (omega arith); k_in_bounds = omega (arith, length-lows c.args.parsed.now.contents.now, (name-inside c.requires.0.world c.args.k c.requires.1).0) }

pub returns : goal.returns
returns c =
    λ h e. c.then_some.ensures ∙ elim c.if-is_some.branch [
      | then-is_some w ↦ scaled h c.args.k e true c.local_named.ensures refl refl _ (rw (w.given-is, ← c.is_some.ensures, w.if-is_some.true))
      | else-is_some w ↦ scaled h c.args.k e true c.local_named.ensures w.variable_named.ensures refl _ (rw (w.given-is, w.is_some-given.ensures, ← c.is_some.ensures, w.if-is_some.false))
    ]
