-- The largest word that is used: the remainder of 2^64 is that of 2^64 less the total.
use native.Mathlib.Omega.{arith}
use Rattle.words.specs.Words.{word_values}
use Rattle.words.proofs.Drawing.{rest_below, last-is}
use Rattle.words.proofs.last_used.Goals as goal

pub overflow_sub-result : goal.overflow_sub-result
overflow_sub-result c =
    omega (arith, rest_below word_values c.args.total c.requires (omega arith))

pub returns : goal.returns
returns c =
    last-is word_values c.args.total c.requires (omega arith)
