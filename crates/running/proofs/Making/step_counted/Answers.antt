-- 15, the end of the words, or the step with the draw that they give.
use native.Mathlib.Omega.{arith}
use Rattle.running.proofs.Taking.{rest_of}
use Rattle.running.proofs.Steps.{dead-ends, words-ends, drawn-so, used-fits}
use Rattle.running.proofs.Making.step_counted.Goals as goal

pub returns-then-listed-eq0-clause-goes : goal.returns-then-listed-eq0-clause-goes
returns-then-listed-eq0-clause-goes c =
    λ z m r es h. dead-ends h c.if-listed-eq0.true _ c.ended.ensures

pub slice_bounds-draw_from-count : goal.slice_bounds-draw_from-count
slice_bounds-draw_from-count c =
    let h = c.requires.0.4 in omega (arith, h.stands.words-fit, h.stands.words)

pub slice_bounds-draw_from-start : goal.slice_bounds-draw_from-start
slice_bounds-draw_from-start c =
    let h = c.requires.0.4 in omega (arith, h.stands.words-fit, h.stands.words)

pub draw_from-drawn-requires : goal.draw_from-drawn-requires
draw_from-drawn-requires c =
    omega (arith, c.if-listed-eq0.false)

pub step_drawn-requires : goal.step_drawn-requires
step_drawn-requires c =
    let h = c.requires.0.4 in ((c.requires.0.0, c.requires.0.1, c.requires.0.2, c.requires.0.3, h, used-fits h c.if-listed-eq0.false _ (rw rest_of at c.draw_from-drawn.ensures.value) _ _ c.in-Some.is (rw rest_of at c.draw_from-drawn.ensures.within)), omega (arith, c.if-listed-eq0.false), c.requires.1)

pub returns-in-None-clause-goes : goal.returns-in-None-clause-goes
returns-in-None-clause-goes c =
    λ z m r es h. words-ends h c.if-listed-eq0.false _ (rw rest_of at c.draw_from-drawn.ensures.value) c.in-None.is _ c.ended-in-None.ensures

pub returns-in-Some-clause-goes : goal.returns-in-Some-clause-goes
returns-in-Some-clause-goes c =
    λ z m r es h. rw (drawn-so h c.if-listed-eq0.false _ (rw rest_of at c.draw_from-drawn.ensures.value) _ _ c.in-Some.is) (c.step_drawn.ensures.goes z m r es h (used-fits h c.if-listed-eq0.false _ (rw rest_of at c.draw_from-drawn.ensures.value) _ _ c.in-Some.is (rw rest_of at c.draw_from-drawn.ensures.within)))
