-- `listing::rows_of` meets its contract.
use mathlib.Core.Path.{ap, ◌∙◌}
use lib.ListN.{length, take}
use Rattle.listing.proofs.Chunks.{take-chunks, chunks-within}
use Rattle.listing.proofs.rows_of.Goals as goal

pub returns : goal.returns
returns c = ap (take c.args.count) c.as_chunks.ensures.front ∙ take-chunks c.args.count _ c.args.listing.now (chunks-within c.args.count (length c.args.listing.now) c.requires)
