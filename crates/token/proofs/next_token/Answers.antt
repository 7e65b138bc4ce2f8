-- The token after the gap, whose part of the text goes to the end.
use mathlib.Core.Bool.{false}
use native.Mathlib.Omega.{arith}
use Rattle.token.proofs.Cases.{next-is}
use Rattle.token.proofs.Runs.{gap-le}
use Rattle.token.proofs.next_token.Goals as goal

pub slice_bounds-token_at-count : goal.slice_bounds-token_at-count
slice_bounds-token_at-count c =
    omega (arith, c.gap_of-g.ensures, gap-le false c.args.part.now)

pub slice_bounds-token_at-start : goal.slice_bounds-token_at-start
slice_bounds-token_at-start c =
    omega (arith, c.gap_of-g.ensures, gap-le false c.args.part.now)

pub returns : goal.returns
returns c =
    next-is c.args.part.now c.gap_of-g.result c.token_at.result c.gap_of-g.ensures c.token_at.ensures
