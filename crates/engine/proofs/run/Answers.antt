-- What the run came to, or why it doesn't begin.
use Rattle.engine.proofs.Runs.{ran-gives, unbegun-gives}
use Rattle.engine.proofs.run.Goals as goal

pub returns-in-Ok : goal.returns-in-Ok
returns-in-Ok c =
    rw c.from.ensures (ran-gives (rw c.in-Ok.is at c.run.ensures))

pub returns-in-Err : goal.returns-in-Err
returns-in-Err c =
    rw (c.unbegun.ensures, c.from-in-Err.ensures) (unbegun-gives _ (rw c.in-Err.is at c.run.ensures))
