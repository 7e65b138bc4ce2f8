-- `eval::rate_in` meets its contract: a natural number, and the test of the range. From the laws of the range.
use mathlib.Core.Path.{sym, ◌∙◌}
use mir.Facts.{to_z-of_z}
use Rattle.eval.proofs.Products.{rate-below, tried-some, tried-none, rate-natural}
use Rattle.eval.proofs.rate_in.Goals as goal

pub returns-in_err-n : goal.returns-in_err-n
returns-in_err-n c =
    let d = simp (to_z-of_z c.ranges.z) at c.try_from.ensures in
    c.from_residual.ensures ∙ rate-below c.args.z (tried-none c.args.z c.try_from.result c.ranges.z d (sym c.ok.ensures.value ∙ c.in_err-n.was))

pub returns : goal.returns
returns c =
    let d = simp (to_z-of_z c.ranges.z) at c.try_from.ensures in
    let e = tried-some c.args.z c.try_from.result c.in_ok-n.n d (sym c.ok.ensures.value ∙ c.in_ok-n.was) in
    rw e (c.then_some.ensures ∙ rate-natural c.in_ok-n.n)
