-- By the two lengths.
use borrow.Author.Tests.{eq-eqb, ne_eqb}
use mathlib.Core.Bool.{Bool, ◌&&◌}
use mathlib.Core.Path.{refl, sym, ap, ◌∙◌}
use lib.Dec.{eqb}
use Rattle.machine.specs.State.{state_length}
use Rattle.machine.specs.Machine.{model_length}
use Rattle.simulation.specs.Comes.{are_parts_long}
use Rattle.simulation.proofs.are_parts_long.Goals as goal

pub returns-then-model-eq-MODEL : goal.returns-then-model-eq-MODEL
unfolding are_parts_long
returns-then-model-eq-MODEL c =
    rw (eq-eqb c.args.model model_length c.if-model-eq-MODEL.true) refl

pub returns-else-model-eq-MODEL : goal.returns-else-model-eq-MODEL
unfolding are_parts_long
returns-else-model-eq-MODEL c =
    let e = ne_eqb c.args.model model_length c.if-model-eq-MODEL.false in
    e ∙ sym (ap (λ (b : Bool). b && eqb c.args.state state_length) e)
