-- The state is put back as it was.
use mathlib.Core.Path.{ap, ◌∙◌}
use native.Mathlib.Omega.{arith}
use borrow.Author.Rules.{rules}
use lib.ListN.{length}
use Rattle.step.proofs.Rows.{row-long}
use Rattle.running.proofs.take_kept.Goals as goal

pub copy_from_slice-requires : goal.copy_from_slice-requires
copy_from_slice-requires c =
    let k = row-long c.requires.4 in search rules

pub take_row-taken-requires : goal.take_row-taken-requires
take_row-taken-requires c =
    c.requires

pub copy_from_slice-requires-2 : goal.copy_from_slice-requires-2
copy_from_slice-requires-2 c =
    let k = row-long c.requires.4 in omega (arith, k, ap length c.copy_from_slice.ensures.after)

pub returns : goal.returns
returns c =
    ((λ m s es e h. (c.take_row-taken.ensures m s es e h).is), c.copy_from_slice-2.ensures.after ∙ c.copy_from_slice.ensures.after)
