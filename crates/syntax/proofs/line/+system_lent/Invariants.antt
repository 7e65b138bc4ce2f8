-- `syntax::line::system_lent` meets its contract: a case for each of its returns, from LineReturns.antt; each call leaves fewer tokens.
use Prim.Native.Nat.{◌-◌}
use lib.ListN.{length}
use Rattle.syntax.proofs.line.+system_lent.Given as goal

abbrev pub decreases-system_lent : goal.decreases-system_lent
decreases-system_lent l = length l.spot.now.toks.now - l.spot.now.at
