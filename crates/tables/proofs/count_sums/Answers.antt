-- `tables::count_sums` meets its contract: the sums that stand beside another are counted from the root down, and the last is one more.
use mathlib.Core.Path.{◌∙◌}
use Prim.Native.Nat.{ℕ, ◌+◌}
use native.Mathlib.Omega.{arith}
use lib.Dec.{eqb}
use lib.ListN.{take, length-take}
use Rattle.std.specs.Prelude.{reverse}
use Rattle.std.proofs.Common.{rules, tests}
use Rattle.std.proofs.lemmas.Iterator.Consumers.{count_from_yields_List, YieldsList-at}
use Rattle.std.proofs.lemmas.Iterator.Search.{YieldsList-from_take_while}
use Rattle.std.proofs.lemmas.Iterator.Adapters.{YieldsList-from_rev_slice}
use Rattle.std.proofs.lemmas.List.Folds.{length-prefix_len}
use Rattle.tree.specs.Node as node
use Rattle.tree.specs.Node.{kind_of}
use Rattle.tables.proofs.Sums.{sums-inside, sums-counted}
use Rattle.tables.proofs.count_sums.Goals as goal

pub overflow_add-k : goal.overflow_add-k
overflow_add-k c =
    omega (arith, sums-inside c.args.nodes.now c.requires.0 c.args.k c.requires.1)

pub slice_bounds-iter-end : goal.slice_bounds-iter-end
slice_bounds-iter-end c =
    omega (arith, length-take (c.args.k + 1) c.args.nodes.now, sums-inside c.args.nodes.now c.requires.0 c.args.k c.requires.1)

pub returns : goal.returns
returns c =
    let taken = take (c.args.k + 1) c.args.nodes.now in
    let e = count_from_yields_List c.take_while.result _ c.count-beside.ensures.ran (YieldsList-from_take_while _ (λ (x : ℕ). eqb (kind_of x) node.beside) (YieldsList-at c.take_while.ensures.source (YieldsList-from_rev_slice taken (rw c.rev.ensures.source c.iter.ensures.rest))) c.take_while.ensures.closure c.take_while.ensures.done (λ x b q k. search (rules, tests)))
    ∙ length-prefix_len (λ (x : ℕ). eqb (kind_of x) node.beside) (reverse taken) in
    record {
      value = λ ns h. omega (arith, e, (sums-counted c.args.nodes.now ns c.args.k h).0);
      upper_bound = omega (arith, e, (sums-counted c.args.nodes.now c.requires.0 c.args.k c.requires.1).1);
    }
