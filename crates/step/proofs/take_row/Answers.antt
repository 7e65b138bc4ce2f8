-- The entry is one of the listing, and so one of the state's.
use mathlib.Core.Path.{◌≡◌, ◌∙◌}
use Rattle.rules.specs.Listing.{key_of}
use Rattle.listing.specs.Buffer.{entry_of}
use Rattle.step.proofs.Rows.{row_fits, row_is, row_in}
use Rattle.step.proofs.take_row.Goals as goal

pub entry_at-requires : goal.entry_at-requires
entry_at-requires c =
    row_fits c.requires.4

pub take_entry-requires : goal.take_entry-requires
unfolding entry_of
take_entry-requires c =
    let h = c.requires.4 in
    let q : entry_of c.entry_at.result ≡ c.requires.3 = c.entry_at.ensures ∙ row_is h in
    (c.requires.0, c.requires.1, c.entry_at.result.weight, h.listing.lent, rw q (row_in h))

pub returns : goal.returns
unfolding entry_of key_of
returns c =
    λ m s es e h.
    let q : entry_of c.entry_at.result ≡ e = c.entry_at.ensures ∙ row_is h in
    rw (← q) (c.take_entry.ensures m s c.entry_at.result.weight h.listing.lent (rw q (row_in h)))
