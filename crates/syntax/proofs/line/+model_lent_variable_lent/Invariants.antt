-- `syntax::line::model_lent` and `variable_lent` meet their contracts: a case for each of their returns, from LineReturns.antt; at each call fewer tokens are left, or as
-- many, and a model calls a variable.
use Prim.Native.Nat.{◌+◌, ◌-◌, ◌*◌}
use lib.ListN.{length}
use Rattle.syntax.proofs.line.+model_lent_variable_lent.Given as goal

abbrev pub decreases-model_lent : goal.decreases-model_lent
decreases-model_lent l = 2 * (length l.spot.now.toks.now - l.spot.now.at) + 1

abbrev pub decreases-variable_lent : goal.decreases-variable_lent
decreases-variable_lent l = 2 * (length l.named.now.spot.toks.now - l.named.now.spot.at)
