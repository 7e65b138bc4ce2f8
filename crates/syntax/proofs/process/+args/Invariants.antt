-- `args` meets its contract: each return is a law of Arguments.antt; the measure is what is left of the tokens.
use Prim.Native.Nat.{◌-◌}
use lib.ListN.{length}
use Rattle.syntax.proofs.process.+args.Given as goal

abbrev pub decreases-args : goal.decreases-args
decreases-args l = length l.toks.now - l.at
