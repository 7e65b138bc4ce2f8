-- 12 to 14, or the rest of the step over the listing.
use borrow.Author.Rules.{rules}
use Rattle.running.proofs.Steps.{world, refused-by, lists-by, refused-ends}
use Rattle.running.proofs.Making.step.Goals as goal

pub list_over-listed-requires : goal.list_over-listed-requires
list_over-listed-requires c =
    ((c.requires.0.1, c.requires.0.2.timed.state, world c.requires.0.3.lent), search rules, search rules, search rules)

pub step_counted-requires : goal.step_counted-requires
step_counted-requires c =
    let h = c.requires.0.3 in let k = lists-by h _ _ (rw c.in-Ok.is at (c.list_over-listed.ensures c.requires.0.1 c.requires.0.2.timed.state (world h.lent))) in ((c.requires.0.0, c.requires.0.1, c.requires.0.2, k.0, k.1), c.requires.1)

pub returns-in-Err-clause-goes : goal.returns-in-Err-clause-goes
returns-in-Err-clause-goes c =
    λ z m r h. refused-ends h _ _ (refused-by m r.timed.state _ _ (rw c.in-Err.is at (c.list_over-listed.ensures m r.timed.state (world h.lent)))) c.ended.ensures

pub returns-in-Ok-clause-goes : goal.returns-in-Ok-clause-goes
returns-in-Ok-clause-goes c =
    λ z m r h. let k = lists-by h _ _ (rw c.in-Ok.is at (c.list_over-listed.ensures m r.timed.state (world h.lent))) in c.step_counted.ensures.goes z m r k.0 k.1
