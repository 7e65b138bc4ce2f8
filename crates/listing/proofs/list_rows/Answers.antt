use Rattle.offers.proofs.Numbered.{up_none}
use Rattle.listing.proofs.Added.{adds_none, adds_then}
use Rattle.listing.proofs.Partners.{some-row}
use Rattle.listing.proofs.AllRows.{entries-up, rows_next, adds-stop}
use mathlib.Core.Path.{refl, ◌∙◌}
use lib.ListN.{length}
use native.Mathlib.Omega.{arith}
use Rattle.listing.proofs.list_rows.Goals as goal

pub loop-row-init : goal.loop-row-init
loop-row-init c =
    (refl, λ roots m s R. rw (up_none _) (adds_none _ _ c.args.filling.now.room.1))

pub returns-then-filling-gt-ENTRIES-clause-added : goal.returns-then-filling-gt-ENTRIES-clause-added
returns-then-filling-gt-ENTRIES-clause-added c =
    λ roots m s R. rw (entries-up R (length c.args.from.offered.rows.now) refl) (adds-stop _ c.loop-row.row (length c.args.from.offered.rows.now) (omega arith) c.if-filling-gt-ENTRIES.true (c.loop-row.invariant.1 roots m s R))

pub list_row-requires : goal.list_row-requires
list_row-requires c =
    (c.requires, omega arith)

pub loop-row-preserved : goal.loop-row-preserved
loop-row-preserved c =
    (c.list_row.ensures.same ∙ c.loop-row.invariant.0, λ roots m s R. let y = some-row R c.loop-row.row (omega arith) in rw (rows_next R c.loop-row.row y.0 y.1) (adds_then (c.loop-row.invariant.1 roots m s R) (c.list_row.ensures.added roots m s y.0 R y.1)))

pub returns-clause-added : goal.returns-clause-added
returns-clause-added c =
    λ roots m s R. rw (entries-up R c.loop-row.row (omega arith)) (c.loop-row.invariant.1 roots m s R)
