-- `words_fault` meets its contract: the search finds the first name or decimal beyond its limit.
use mathlib.Core.Bool.{true, false}
use Rattle.std.proofs.Common.{rules, tests}
use Rattle.std.proofs.lemmas.Iterator.{IsFirst-from_position, YieldsList-from_slice, YieldsList-from_zip}
use Rattle.names.proofs.Beyond.{Out, words-found}
use Rattle.names.proofs.words_fault.Goals as goal

pub returns : goal.returns
returns c =
    λ text h. words-found c.args.kinds.now c.args.contents.now h c.position.result (IsFirst-from_position c.position.new.self _ _ (Out true) (Out false) c.position.ensures.ran (YieldsList-from_zip (YieldsList-from_slice c.args.kinds.now cc) (YieldsList-from_slice c.args.contents.now cc))
    (λ x q k. search (rules, tests)) (λ x q k. search (rules, tests)))
