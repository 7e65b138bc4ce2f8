-- The tables that were filled hold the tokens.
use native.Mathlib.Omega.{arith}
use lib.ListN.{length-take}
use Rattle.opening.proofs.Places.{filled-kinds, filled-places}
use Rattle.reads.proofs.judge_tokens.Goals as goal

pub slice_bounds-kinds-end : goal.slice_bounds-kinds-end
slice_bounds-kinds-end c =
    filled-kinds c.fill-n.ensures

pub slice_bounds-judge_text-end : goal.slice_bounds-judge_text-end
slice_bounds-judge_text-end c =
    simp length-take (omega (arith, filled-kinds c.fill-n.ensures))

pub slice_bounds-places-end : goal.slice_bounds-places-end
slice_bounds-places-end c =
    filled-places c.fill-n.ensures

pub slice_bounds-place-end : goal.slice_bounds-place-end
slice_bounds-place-end c =
    simp length-take (omega (arith, filled-places c.fill-n.ensures))

pub slice_bounds-places-end-in-Err-Crowded : goal.slice_bounds-places-end-in-Err-Crowded
slice_bounds-places-end-in-Err-Crowded c =
    filled-places c.fill-n.ensures

pub slice_bounds-place-end-in-Err-Crowded : goal.slice_bounds-place-end-in-Err-Crowded
slice_bounds-place-end-in-Err-Crowded c =
    simp length-take (omega (arith, filled-places c.fill-n.ensures))
