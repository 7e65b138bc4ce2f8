-- `listing::append` meets its contract: a row at the end, or none. From the laws of the buffer.
use Rattle.listing.proofs.Added.{adds-written, adds-over}
use Rattle.listing.specs.Buffer.{entry_of, rows}
use native.Mathlib.Omega.{arith}
use mathlib.Core.Path.{◌∙◌}
use Rattle.listing.proofs.append.Goals as goal

pub returns-then-count-lt-ENTRIES : goal.returns-then-count-lt-ENTRIES
unfolding entry_of rows
returns-then-count-lt-ENTRIES c = adds-written c.args.listing.now c.args.count _ _ c.requires.0 (omega arith) (c.copy_from_slice.ensures.after ∙ c.from.ensures)

pub returns : goal.returns
returns c = adds-over c.args.listing.now c.args.count _ (omega arith) c.requires.1
