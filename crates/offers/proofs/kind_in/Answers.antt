-- `offers::kind_in` meets its contract: the lowest part of a head. From arithmetic alone.
use Rattle.offers.specs.Head.{kind_in}
use borrow.Author.Rules.{rules}
use Rattle.offers.proofs.kind_in.Goals as goal

pub returns : goal.returns
unfolding kind_in
returns c = search rules
