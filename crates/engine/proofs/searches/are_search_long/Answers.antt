-- By the lengths of the parts, and the third.
use mathlib.Core.Bool.{Bool, ◌&&◌}
use mathlib.Core.Path.{sym, ap, ◌∙◌}
use lib.Dec.{eqb}
use Rattle.machine.specs.Machine.{search_length}
use Rattle.engine.specs.Gives.{are_search_long}
use Rattle.engine.proofs.searches.are_search_long.Goals as goal

pub returns-then-are_parts_long : goal.returns-then-are_parts_long
unfolding are_search_long
returns-then-are_parts_long c =
    ap (λ (b : Bool). b && eqb c.args.search search_length) (sym c.if-are_parts_long.true ∙ c.are_parts_long.ensures)

pub returns-else-are_parts_long : goal.returns-else-are_parts_long
unfolding are_search_long
returns-else-are_parts_long c =
    c.if-are_parts_long.false ∙ ap (λ (b : Bool). b && eqb c.args.search search_length) (sym c.if-are_parts_long.false ∙ c.are_parts_long.ensures)
