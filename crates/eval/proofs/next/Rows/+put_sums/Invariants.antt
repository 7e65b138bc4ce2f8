-- `eval::next::Rows::put_sums` meets its contract: the first, and the rest by the function itself. The measure is the root, which falls.
use Rattle.eval.proofs.next.Rows.+put_sums.Given as goal

abbrev pub decreases-put_sums : goal.decreases-put_sums
decreases-put_sums l = l.k
