-- `store::start::put_wholes` meets its contract: the first, and the rest by the function itself. The measure is the root, which falls.
use Rattle.store.proofs.start.+put_wholes.Given as goal

abbrev pub decreases-put_wholes : goal.decreases-put_wholes
decreases-put_wholes l = l.k
