-- `listing::entry_at` meets its contract: the seven numbers of a row.
use mathlib.Core.Path.{◌∙◌}
use lib.ListN.{length}
use Rattle.listing.proofs.Chunks.{chunks-fit}
use Rattle.listing.proofs.Entries.{chunk-entry}
use Rattle.listing.proofs.entry_at.Goals as goal

pub returns : goal.returns
returns c = c.from.ensures ∙ chunk-entry _ c.args.listing.now _ c.args.c c.as_chunks.ensures.front (chunks-fit c.args.c (length c.args.listing.now) c.requires)
