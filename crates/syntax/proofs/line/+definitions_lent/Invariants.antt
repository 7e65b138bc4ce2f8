-- `syntax::line::definitions_lent` meets its contract: a case for each of its returns, from LineReturns.antt; each call leaves fewer tokens.
use Prim.Native.Nat.{◌-◌}
use lib.ListN.{length}
use Rattle.syntax.proofs.line.+definitions_lent.Given as goal

abbrev pub decreases-definitions_lent : goal.decreases-definitions_lent
decreases-definitions_lent l = length l.named.now.spot.toks.now - l.named.now.spot.at
