-- `names::lists_of` meets its contract: from what the table holds of a model's variables and definitions.
use native.Mathlib.Omega.{arith}
use Rattle.names.proofs.Chains.{root-inside, variables-end, definitions-end, gathered}
use Rattle.names.proofs.lists_of.Goals as goal

pub run_of-variables-requires : goal.run_of-variables-requires
run_of-variables-requires c =
    (root-inside c.args.nodes.now c.requires.0 c.requires.1 c.args.root c.requires.2, variables-end c.args.nodes.now c.requires.0 c.requires.1 c.args.root c.requires.2)

pub overflow_sub-root : goal.overflow_sub-root
overflow_sub-root c =
    omega (arith, c.run_of-variables.ensures, variables-end c.args.nodes.now c.requires.0 c.requires.1 c.args.root c.requires.2)

pub run_of-more-requires : goal.run_of-more-requires
run_of-more-requires c =
    definitions-end c.args.nodes.now c.requires.0 c.requires.1 c.args.root c.requires.2 c.run_of-variables.result c.run_of-variables.ensures

pub overflow_add-result : goal.overflow_add-result
overflow_add-result c =
    let d = definitions-end c.args.nodes.now c.requires.0 c.requires.1 c.args.root c.requires.2 c.run_of-variables.result c.run_of-variables.ensures in omega (arith, c.run_of-more.ensures)

pub returns : goal.returns
returns c =
    λ m lo h. gathered c.args.nodes.now m lo c.args.root h c.run_of-variables.result c.run_of-variables.ensures c.run_of-more.result c.run_of-more.ensures
