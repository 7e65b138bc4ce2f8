-- `syntax::set::parts` meets its contract: a case for each of its returns, from Sets.antt; at its call of itself fewer tokens are left.
use Prim.Native.Nat.{◌-◌}
use lib.ListN.{length}
use Rattle.syntax.proofs.set.+parts.Given as goal

abbrev pub decreases-parts : goal.decreases-parts
decreases-parts l = length l.toks.now - l.at
