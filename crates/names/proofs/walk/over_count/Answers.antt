-- `walk::over_count` meets its contract: a number is beyond the limit where it is up to the cap.
use mathlib.Core.Path.{◌∙◌, sym}
use lib.ListN.{get_or}
use Rattle.token.specs.Contents.{none}
use Rattle.token.proofs.Columns.{low_at}
use Rattle.names.proofs.Lines.{over-count}
use Rattle.names.proofs.walk.over_count.Goals as goal

pub returns : goal.returns
returns c =
    λ w e. c.then_some.ensures ∙ over-count (get_or c.args.contents.now c.args.k none).low c.args.k w (sym (low_at c.args.contents.now c.args.k) ∙ e)
