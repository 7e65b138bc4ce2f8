-- `names::run_of` meets its contract: the nodes of the kind from `first` down are counted.
use mathlib.Core.Path.{◌∙◌}
use lib.ListN.{take}
use Rattle.std.specs.Prelude.{reverse}
use Prim.Native.Nat.{ℕ, ◌+◌}
use lib.Dec.{eqb}
use Rattle.std.proofs.Common.{rules, tests}
use Rattle.std.proofs.lemmas.Iterator.Consumers.{count_from_yields_List, YieldsList-at}
use Rattle.std.proofs.lemmas.Iterator.Search.{YieldsList-from_take_while}
use Rattle.std.proofs.lemmas.Iterator.Adapters.{YieldsList-from_rev_slice}
use Rattle.std.proofs.lemmas.List.Folds.{length-prefix_len}
use Rattle.tree.specs.Node.{kind_of}
use Rattle.names.proofs.Chains.{run_back}
use Rattle.names.proofs.run_of.Goals as goal

pub returns : goal.returns
returns c =
    let taken = take (c.args.first + 1) c.args.nodes.now in
    count_from_yields_List c.take_while.result _ c.count.ensures.ran (YieldsList-from_take_while _ (λ (x : ℕ). eqb (kind_of x) c.args.kind) (YieldsList-at c.take_while.ensures.source (YieldsList-from_rev_slice taken (rw c.rev.ensures.source c.iter.ensures.rest))) c.take_while.ensures.closure c.take_while.ensures.done (λ x b q k. search (rules, tests)))
    ∙ length-prefix_len (λ (x : ℕ). eqb (kind_of x) c.args.kind) (reverse taken)
    ∙ run_back c.args.nodes.now c.args.kind c.args.first c.requires.0
