-- The empty run, then the others by length.
use Rattle.pieces.proofs.Resuming.{spends-so}
use Rattle.pieces.proofs.Lengths.{reaches-as, all-stops, all-passes}
use mathlib.Core.Path.{refl}
use Rattle.pieces.proofs.walk_all.Goals as goal

pub returns-in-Err : goal.returns-in-Err
returns-in-Err c =
    (λ m s h st. all-stops m c.args.sought.search.name.now s c.args.sought.named c.args.depth c.args.left _ _ (spends-so c.in-Err.is (c.walk_run.ensures 0 c.args.run.now)), refl)

pub returns-in-Ok : goal.returns-in-Ok
returns-in-Ok c =
    (λ m s h st. reaches-as (all-passes m c.args.sought.search.name.now s c.args.sought.named c.args.depth c.args.left c.args.run.now _ (spends-so c.in-Ok.is (c.walk_run.ensures 0 c.args.run.now))) (c.walk_longer.ensures.0 m s h st), c.walk_longer.ensures.1)
