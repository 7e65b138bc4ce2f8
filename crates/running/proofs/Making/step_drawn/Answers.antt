-- What the timed step came to: the run ends, or it has an event more.
use native.Mathlib.Omega.{arith}
use borrow.Author.Rules.{rules}
use Rattle.running.proofs.Steps.{left_over, step-ends, row_within, clock-later, step-goes}
use Rattle.running.proofs.Making.step_drawn.Goals as goal

pub slice_bounds-read-count : goal.slice_bounds-read-count
slice_bounds-read-count c =
    let h = c.requires.0.4 in omega (arith, h.stands.waiting-fits, h.stands.waiting)

pub slice_bounds-read-start : goal.slice_bounds-read-start
slice_bounds-read-start c =
    let h = c.requires.0.4 in omega (arith, h.stands.waiting-fits, h.stands.waiting)

pub take_timed-requires : goal.take_timed-requires
take_timed-requires c =
    let h = c.requires.0.4 in ((c.requires.0.1, c.requires.0.2.timed.state, c.requires.0.3, h.counted), rw h.stands.clock h.stands.in-range, c.requires.1)

pub returns-in-Err-clause-goes : goal.returns-in-Err-clause-goes
returns-in-Err-clause-goes c =
    λ z m r es h f. step-ends h _ c.args.used _ _ (rw c.in-Err.is at (left_over h _ _ _ _ _ h.stands.clock h.stands.waiting (c.take_timed.ensures m r.timed.state es h.counted))) _ c.ended.ensures

pub put_event-requires : goal.put_event-requires
put_event-requires c =
    let h = c.requires.0.4 in (search rules, row_within h _ c.args.used _ _ _ (rw c.in-Ok.is at (left_over h _ _ _ _ _ h.stands.clock h.stands.waiting (c.take_timed.ensures c.requires.0.1 c.requires.0.2.timed.state c.requires.0.3 h.counted))))

pub longer-requires : goal.longer-requires
longer-requires c =
    let h = c.requires.0.4 in
    let k = clock-later h _ c.args.used _ _ _ (rw c.in-Ok.is at (left_over h _ _ _ _ _ h.stands.clock h.stands.waiting (c.take_timed.ensures c.requires.0.1 c.requires.0.2.timed.state c.requires.0.3 h.counted))) in
    (search rules, search rules, k.0, search rules)

pub returns-in-Ok-clause-goes : goal.returns-in-Ok-clause-goes
returns-in-Ok-clause-goes c =
    λ z m r es h f. step-goes h _ _ _ _ _ (rw c.in-Ok.is at (left_over h _ _ _ _ _ h.stands.clock h.stands.waiting (c.take_timed.ensures m r.timed.state es h.counted))) _ _ f c.requires.2 c.put_event.ensures c.longer.ensures
