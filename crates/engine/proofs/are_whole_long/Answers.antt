-- By the lengths of the three, and the fourth.
use mathlib.Core.Bool.{Bool, ◌&&◌}
use mathlib.Core.Path.{sym, ap, ◌∙◌}
use lib.Dec.{eqb}
use Rattle.machine.specs.Machine.{search_length}
use Rattle.engine.specs.Gives.{are_whole_long}
use Rattle.engine.proofs.are_whole_long.Goals as goal

pub returns-then-are_all_long : goal.returns-then-are_all_long
unfolding are_whole_long
returns-then-are_all_long c =
    ap (λ (b : Bool). b && eqb c.args.search search_length) (sym c.if-are_all_long.true ∙ c.are_all_long.ensures)

pub returns-else-are_all_long : goal.returns-else-are_all_long
unfolding are_whole_long
returns-else-are_all_long c =
    c.if-are_all_long.false ∙ ap (λ (b : Bool). b && eqb c.args.search search_length) (sym c.if-are_all_long.false ∙ c.are_all_long.ensures)
