-- `syntax::condition::ands` meets its contract: a case for each of its returns, from Conditions.antt; at its call of itself fewer tokens are left.
use Prim.Native.Nat.{◌-◌}
use lib.ListN.{length}
use Rattle.syntax.proofs.condition.+ands.Given as goal

abbrev pub decreases-ands : goal.decreases-ands
decreases-ands l = length l.toks.now - l.at
