-- `offers::place_in` meets its contract: a part of a head. From arithmetic alone.
use Rattle.offers.specs.Head.{place_in}
use borrow.Author.Rules.{rules}
use Rattle.offers.proofs.place_in.Goals as goal

pub returns : goal.returns
unfolding place_in
returns c = search rules
