-- `eval::scaled` meets its contract: each test, and a product that is within the range. From the laws of the range.
use mathlib.Core.Path.{sym, ◌∙◌}
use Prim.Native.Nat.{zero-le}
use lib.IntN.{pos}
use mir.Facts.{to_z-of_z}
use borrow.Author.Tests.{le-ltb}
use Rattle.eval.proofs.Products.{zero-scale, negative-times, tried-some, tried-none, large-times, rate-times}
use Rattle.eval.proofs.scaled.Goals as goal

pub returns-then-n-eq0 : goal.returns-then-n-eq0
returns-then-n-eq0 c = zero-scale c.args.n c.args.v c.if-n-eq0.true

pub returns-in_err-size : goal.returns-in_err-size
returns-in_err-size c =
    let d = simp (to_z-of_z c.ranges.v) at c.try_from.ensures in
    c.from_residual.ensures ∙ negative-times c.args.n c.args.v c.if-n-eq0.false (tried-none c.args.v c.try_from.result c.ranges.v d (sym c.ok.ensures.value ∙ c.in_err-size.was))

pub returns-then-not-product_within : goal.returns-then-not-product_within
returns-then-not-product_within c =
    let d = simp (to_z-of_z c.ranges.v) at c.try_from.ensures in
    let e = tried-some c.args.v c.try_from.result c.in_ok-size.size d (sym c.ok.ensures.value ∙ c.in_ok-size.was) in
    rw e (large-times c.args.n (pos c.in_ok-size.size) (le-ltb c.in_ok-size.size 0 zero-le) c.product_within.ensures c.if-not-product_within.true-raw)

pub returns : goal.returns
returns c =
    let d = simp (to_z-of_z c.ranges.v) at c.try_from.ensures in
    let e = tried-some c.args.v c.try_from.result c.in_ok-size.size d (sym c.ok.ensures.value ∙ c.in_ok-size.was) in
    rw e (rate-times c.args.n (pos c.in_ok-size.size) (le-ltb c.in_ok-size.size 0 zero-le) c.product_within.ensures c.if-not-product_within.false-raw)
