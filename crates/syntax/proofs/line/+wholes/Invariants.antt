-- `syntax::line::wholes` meets its contract: a case for each of its returns, from Arguments.antt; each call leaves fewer tokens.
use Prim.Native.Nat.{◌-◌}
use lib.ListN.{length}
use Rattle.syntax.proofs.line.+wholes.Given as goal

abbrev pub decreases-wholes : goal.decreases-wholes
decreases-wholes l = length l.toks.now - l.at
