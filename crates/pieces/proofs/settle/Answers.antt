-- One state more tells.
use Rattle.pieces.specs.Walked.{ways_of}
use Rattle.pieces.proofs.Carrying.{settle-over, settle-on, reaches-so}
use mathlib.Core.Path.{refl}
use Rattle.pieces.proofs.settle.Goals as goal

pub walk_on-requires : goal.walk_on-requires
walk_on-requires c =
    (c.requires.0, c.requires.1, refl, c.requires.2.short)

pub returns-in-Err : goal.returns-in-Err
returns-in-Err c =
    λ m s h st e. settle-on (ways_of c.args.sought m) s c.args.depth c.args.position _ c.requires.2 (reaches-so c.in-Err.is (c.walk_on.ensures.0 m s h st e))

pub returns-in-Ok : goal.returns-in-Ok
returns-in-Ok c =
    λ m s h st e. settle-over (ways_of c.args.sought m) s c.args.depth c.args.position _ c.in-Ok.b c.missed.result (reaches-so c.in-Ok.is (c.walk_on.ensures.0 m s h st e)) c.missed.ensures
