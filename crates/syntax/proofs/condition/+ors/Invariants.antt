-- `syntax::condition::ors` meets its contract: a case for each of its returns, from Conditions.antt; at its call of itself fewer tokens are left.
use Prim.Native.Nat.{◌-◌}
use lib.ListN.{length}
use Rattle.syntax.proofs.condition.+ors.Given as goal

abbrev pub decreases-ors : goal.decreases-ors
decreases-ors l = length l.toks.now - l.at
