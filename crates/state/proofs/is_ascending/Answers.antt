-- The library's test of neighbours.
use Rattle.std.proofs.Common.{rules, of_calls}
use Rattle.std.proofs.lemmas.Fn.{always_returns_same}
use Rattle.rules.specs.Order.{less}
use Rattle.state.proofs.Places.{sorted-ascends}
use Rattle.state.proofs.is_ascending.Goals as goal

pub returns : goal.returns
returns c =
    let key = always_returns_same _ _ _ (λ a r f k. search (rules, of_calls)) in
    sorted-ascends c.args.pairs.now c.is_sorted_by.result (c.is_sorted_by.ensures.cases less key)
