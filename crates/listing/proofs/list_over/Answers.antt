-- `listing::list_over` meets its contract: a table of all rows is never full.
use Rattle.listing.proofs.Finished.{all-led, never_short}
use Rattle.listing.proofs.list_over.Goals as goal

pub past_full-requires : goal.past_full-requires
past_full-requires c = never_short c.requires.2 (c.try_over.ensures c.requires.0.0 c.requires.0.1 c.requires.0.2)

pub returns : goal.returns
returns c = λ m s w. all-led _ c.past_full.ensures (c.try_over.ensures m s w)
