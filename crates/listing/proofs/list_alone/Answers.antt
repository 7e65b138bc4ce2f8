-- `listing::list_alone` meets its contract: one entry is added.
use Rattle.listing.specs.Buffer.{entry_of}
use Rattle.listing.proofs.list_alone.Goals as goal

pub returns-clause-added : goal.returns-clause-added
unfolding entry_of
returns-clause-added c = c.add.ensures.added
