-- By 0 nothing is walked; else the tables have room for runs of eight entries.
use Rattle.pieces.proofs.Carrying.{carry-none}
use Rattle.pieces.specs.Walked.{ways_of}
use Rattle.pieces.proofs.carry_on.Goals as goal

pub returns-then-n-eq0 : goal.returns-then-n-eq0
returns-then-n-eq0 c =
    λ m s h st e. carry-none (ways_of c.args.sought m) s c.args.depth c.args.position c.args.n c.if-n-eq0.true c.requires.2
