-- The state's numbers, then the clock's two, each written over its own.
use mathlib.Core.Path.{ap}
use mathlib.Core.List.{List, ◌++◌}
use borrow.Author.Rules.{rules}
use lib.IntN.{ℤ}
use lib.ListN.{drop}
use Rattle.machine.specs.State.{state_length}
use Rattle.saves.proofs.Clocks.{kept_put}
use Rattle.saves.proofs.put_kept.Goals as goal

pub returns : goal.returns
returns c =
    kept_put c.args.kept.now c.args.state.now _ c.args.clock (search rules) c.requires.0 (ap (λ (l : List ℤ). l ++ drop state_length c.args.kept.now) c.copy_from_slice.ensures.after) c.requires.1
