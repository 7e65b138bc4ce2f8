-- `names::taken_fault` meets its contract: by what the look-ups find, first among variables, then among locals.
use mathlib.Core.Path.{refl, ◌∙◌}
use native.Mathlib.Omega.{arith}
use Rattle.names.specs.Faults.{asks_names}
use Rattle.token.proofs.Columns.{length-lows}
use Rattle.names.proofs.Settled.{name-inside, in_scope, reach-variables}
use Rattle.names.proofs.Repeats.{taken}
use Rattle.names.proofs.taken_fault.Goals as goal
use Rattle.names.proofs.taken_fault.Goals.{then-is_some, else-is_some}

pub variable_named-requires : goal.variable_named-requires
variable_named-requires c =
    record { reach = reach-variables c.requires.0.world c.args.parsed.now.lists.variables (omega arith); k_in_bounds = omega (arith, length-lows c.args.parsed.now.contents.now, (name-inside c.requires.0.world c.args.k c.requires.1).0) }

pub local_named-requires : goal.local_named-requires
unfolding asks_names
local_named-requires c =
    in_scope c.requires.0 refl c.args.k c.requires.1

pub returns : goal.returns
returns c =
    λ h e. c.then_some.ensures ∙ elim c.if-is_some.branch [
      | then-is_some w ↦ taken h c.args.k e c.variable_named.ensures refl _ (rw (w.taken-is, ← c.is_some.ensures, w.if-is_some.true))
      | else-is_some w ↦ taken h c.args.k e c.variable_named.ensures w.local_named.ensures _ (rw (w.taken-is, w.is_some-taken.ensures, ← c.is_some.ensures, w.if-is_some.false))
    ]
