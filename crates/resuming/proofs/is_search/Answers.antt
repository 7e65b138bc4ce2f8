-- All zeros where the depth is 0, else the test of a search under way.
use mathlib.Core.Path.{sym, ◌∙◌}
use Rattle.resuming.proofs.Under.{zeros-search, full-search}
use Rattle.resuming.proofs.is_search.Goals as goal

pub returns-then-is_zero_at : goal.returns-then-is_zero_at
returns-then-is_zero_at c =
    λ m h w. c.all_zero.ensures ∙ zeros-search m c.args.search.now (sym c.is_zero_at.ensures ∙ c.if-is_zero_at.true)

pub returns : goal.returns
returns c =
    λ m h w. c.is_under.ensures m h w ∙ full-search m c.args.search.now (sym c.is_zero_at.ensures ∙ c.if-is_zero_at.false)
