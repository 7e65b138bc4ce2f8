-- `names` meets its contract: each return is a law of Naming.antt; the measure is what is left of the tokens.
use Prim.Native.Nat.{◌-◌}
use lib.ListN.{length}
use Rattle.syntax.proofs.action.+names.Given as goal

abbrev pub decreases-names : goal.decreases-names
decreases-names l = length l.point.toks.now - l.point.at
