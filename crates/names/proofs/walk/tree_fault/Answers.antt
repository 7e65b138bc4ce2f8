-- `walk::tree_fault` meets its contract: lists of names, variables' numbers and lines.
use native.Mathlib.Omega.{arith}
use Rattle.names.proofs.Titles.{lines, lines-hold, lines-room, tree-judged}
use Rattle.names.proofs.Settled.{vs-few, reach-variables, reach-definitions}
use Rattle.names.proofs.walk.tree_fault.Goals as goal

pub variables-requires : goal.variables-requires
variables-requires c =
    reach-variables c.requires.0.world c.args.parsed.now.lists.variables (omega arith)

pub definitions-requires : goal.definitions-requires
definitions-requires c =
    (omega (arith, vs-few c.requires.0.world, c.requires.0.world.gathered.variables-are), reach-definitions c.requires.0.world c.args.parsed.now.lists.definitions (omega arith))

pub first_definition-requires : goal.first_definition-requires
first_definition-requires c =
    omega (arith, vs-few c.requires.0.world, c.requires.0.world.gathered.variables-are)

pub numbers_fault-numbers-requires : goal.numbers_fault-numbers-requires
numbers_fault-numbers-requires c =
    c.requires.0.world

pub lines_fault-lines-requires : goal.lines_fault-lines-requires
lines_fault-lines-requires c =
    rw c.first_definition.ensures ((c.requires.0, lines c.requires.0, lines-hold c.requires.0, lines-room c.requires.0 c.requires.1), omega arith)

pub returns : goal.returns
returns c =
    let v = c.variables.ensures in
    let d = c.definitions.ensures in
    λ h room. tree-judged h c.fault-names.result c.fault-titles.result c.numbers_fault-numbers.result c.lines_fault-lines.result c.earlier.result c.earlier-2.result c.earlier-3.result (rw (v.0, v.1, v.2, v.3) at c.fault-names.ensures) (rw (d.0, d.1, d.2, d.3) at c.fault-titles.ensures) (c.numbers_fault-numbers.ensures h.world) ((rw c.first_definition.ensures at c.lines_fault-lines.ensures) h (lines h) (lines-hold h) (lines-room h room)) c.earlier.ensures c.earlier-2.ensures c.earlier-3.ensures
