-- By cases of whether it is the wait's and of what is left.
use Rattle.pieces.proofs.Resuming.{walked-hit, walked_stop, walked-through}
use Rattle.pieces.proofs.walk_run.Goals as goal

pub returns-then-wait : goal.returns-then-wait
returns-then-wait c =
    λ n run. walked-hit c.args.left c.args.wait n run c.if-wait.true

pub returns-then-left-eq0 : goal.returns-then-left-eq0
returns-then-left-eq0 c =
    λ n run. walked_stop c.args.left c.args.wait n run c.if-wait.false c.if-left-eq0.true

pub returns : goal.returns
returns c =
    λ n run. walked-through c.args.left c.args.wait n run c.if-wait.false c.if-left-eq0.false
