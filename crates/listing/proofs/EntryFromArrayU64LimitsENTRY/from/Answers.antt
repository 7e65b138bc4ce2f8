-- The seven numbers of a row.
use mathlib.Core.Path.{refl}
use Rattle.listing.specs.Buffer.{entry_of, entry_in}
use Rattle.listing.proofs.EntryFromArrayU64LimitsENTRY.from.Goals as goal

pub returns : goal.returns
unfolding entry_of entry_in
returns c = refl
