-- `eval::next::put_arguments` meets its contract: the first, and the rest by the function itself. The measure is the root, which falls.
use Rattle.eval.proofs.next.+put_arguments.Given as goal

abbrev pub decreases-put_arguments : goal.decreases-put_arguments
decreases-put_arguments l = l.k
