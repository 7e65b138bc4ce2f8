-- `eval::next::Rows::put_continued` meets its contract: groups and items by the function itself. The measure is the root: parts have smaller ones.
use Rattle.eval.proofs.next.Rows.+put_continued.Given as goal

abbrev pub decreases-put_continued : goal.decreases-put_continued
decreases-put_continued l = l.k
