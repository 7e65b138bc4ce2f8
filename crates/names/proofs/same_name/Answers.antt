-- `names::same_name` meets its contract: two contents are the same where both of their numbers are.
use Rattle.token.proofs.Columns.{low_at, high_at}
use Rattle.names.proofs.Lookups.{same-packed}
use Rattle.names.proofs.same_name.Goals as goal

pub returns : goal.returns
returns c = rw same-packed (simp (low_at, high_at) c.eq.ensures)
