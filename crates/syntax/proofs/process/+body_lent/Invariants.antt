-- `body_lent` meets its contract: each return is a law of Grouping.antt; the measure is what is left of the tokens.
use Prim.Native.Nat.{◌-◌}
use lib.ListN.{length}
use Rattle.syntax.proofs.process.+body_lent.Given as goal

abbrev pub decreases-body_lent : goal.decreases-body_lent
decreases-body_lent l = length l.site.now.spot.toks.now - l.site.now.spot.at
