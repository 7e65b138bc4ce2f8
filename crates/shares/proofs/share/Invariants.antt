-- `shares::share` meets its contract. The loop's invariant: the numbers are the sums of the entries passed.
use mathlib.Core.Path.{◌≡◌}
use mathlib.Core.List.{List}
use lib.ListN.{length}
use Rattle.model.specs.Resolved
use Rattle.rules.specs.Listing.{Entry}
use Rattle.machine.specs.State.{State}
use Rattle.machine.specs.Report.{report_length}
use Rattle.shares.specs.Shared.{Shared}
use Rattle.shares.proofs.Turns.{sums}
use Rattle.shares.proofs.share.Given as goal

abbrev pub invariant-loop-row : goal.invariant-loop-row
invariant-loop-row l =
    (length l.report ≡ report_length) × ((m : Resolved.Model) (s : State) (es : List Entry) → Shared l.state l.listing l.count m s es → l.report ≡ sums s es l.row-index)
