use Rattle.std.proofs.lemmas.Bool.{both_ways}
use Rattle.naming.proofs.Places.{found-skip}
use Rattle.naming.proofs.WaitNames.meet.Goals as goal

pub returns-else-marks-k-clause-found : goal.returns-else-marks-k-clause-found
returns-else-marks-k-clause-found c = λ w h f. found-skip w _ _ _ _ _ f (λ e. both_ways _ c.if-marks-k.false e)
