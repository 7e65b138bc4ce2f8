-- The number after the comma may be a rate's or an item's: a case of Lone.antt.
use mathlib.Core.Path.{refl}
use Rattle.tree.specs.Node.{number_kind}
use Rattle.syntax.proofs.Lone.{either-whole}
use Rattle.syntax_tests.proofs.braced.waits.Goals as goal

pub undecided-requires : goal.undecided-requires
unfolding number_kind
undecided-requires g c =
    record { either = either-whole _ _ refl }
