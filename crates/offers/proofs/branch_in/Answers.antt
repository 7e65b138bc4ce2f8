-- `offers::branch_in` meets its contract: a part of a head. From arithmetic alone.
use Rattle.offers.specs.Head.{branch_in}
use borrow.Author.Rules.{rules}
use Rattle.offers.proofs.branch_in.Goals as goal

pub returns : goal.returns
unfolding branch_in
returns c = search rules
