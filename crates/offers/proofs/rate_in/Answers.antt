-- `offers::rate_in` meets its contract: the highest part of a head. From arithmetic alone.
use Rattle.offers.specs.Head.{rate_in}
use borrow.Author.Rules.{rules}
use Rattle.offers.proofs.rate_in.Goals as goal

pub returns : goal.returns
unfolding rate_in
returns c = search rules
