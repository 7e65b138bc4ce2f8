-- The sizes decide whether the product is a value before it is multiplied; then it fits an i64.
use mir.Facts.{to_z-of_z}
use Rattle.value.proofs.Products.{product-beyond, product-fits, product_is}
use Rattle.value.proofs.mul_value.Goals as goal

pub returns-then-not-product_within : goal.returns-then-not-product_within
returns-then-not-product_within c =
    let a = simp (to_z-of_z c.ranges.x) at c.size_of.ensures in
    let b = simp (to_z-of_z c.ranges.y) at c.size_of-2.ensures in
    product-beyond c.args.x c.args.y (rw (a, b) at c.product_within.ensures) c.if-not-product_within.true-raw

pub returns : goal.returns
returns c =
    let a = simp (to_z-of_z c.ranges.x) at c.size_of.ensures in
    let b = simp (to_z-of_z c.ranges.y) at c.size_of-2.ensures in
    let e = rw (a, b) at c.product_within.ensures in
    simp (to_z-of_z c.ranges.x, to_z-of_z c.ranges.y, to_z-of_z (product-fits c.args.x c.args.y e c.if-not-product_within.false-raw))
    (product_is c.args.x c.args.y e c.if-not-product_within.false-raw)
