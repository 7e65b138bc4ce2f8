-- The library's search finds the place: the pairs ascend, so those before the row come first.
use mathlib.Core.List.{List}
use lib.IntN.{ℤ}
use Rattle.std.proofs.Common.{rules, of_calls}
use Rattle.std.proofs.lemmas.Fn.{always_returns_same}
use Rattle.rules.specs.Order.{less}
use Rattle.state.proofs.Places.{parted, point-place}
use Rattle.state.proofs.find_pair.Goals as goal

pub returns : goal.returns
returns c =
    let key = always_returns_same _ _ _ (λ a r f k. search (rules, of_calls)) in
    let h = c.partition_point.ensures.partitioned (λ (r : List ℤ). less r c.args.row.now) key (parted c.args.row.now c.args.pairs.now c.requires) in
    point-place c.args.row.now c.args.pairs.now c.partition_point.result c.partition_point.ensures.bound h.0 h.1
