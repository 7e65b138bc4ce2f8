-- `store::start::put_items` meets its contract: the first item, and the rest by the function itself. The measure is the root, which falls.
use Rattle.store.proofs.start.+put_items.Given as goal

abbrev pub decreases-put_items : goal.decreases-put_items
decreases-put_items l = l.k
