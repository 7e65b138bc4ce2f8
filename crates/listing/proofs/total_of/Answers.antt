use mathlib.Core.Path.{sym}
use native.Mathlib.Omega.{arith}
use borrow.Author.Rules.{rules}
use Rattle.listing.specs.Buffer.{weights_in}
use Rattle.listing.proofs.Weights.{up_none, over, sums, row-turn, row-turn-le, rows_all}
use Rattle.listing.proofs.total_of.Goals as goal

pub loop-row-init : goal.loop-row-init
loop-row-init c = let e = up_none (weights_in c.args.listing.now c.args.count) in search rules

pub returns-then-sum-row : goal.returns-then-sum-row
returns-then-sum-row c =
    let h = row-turn-le c.args.listing.now c.args.count _ c.rows_of-row-items.ensures c.loop-row.row-index c.loop-row-test.true in
    sym (over (weights_in c.args.listing.now c.args.count) (omega arith))

pub loop-row-preserved : goal.loop-row-preserved
loop-row-preserved c =
    let h = row-turn c.args.listing.now c.args.count _ c.rows_of-row-items.ensures c.loop-row.row-index c.loop-row-test.true in
    search rules

pub returns : goal.returns
returns c =
    let h = rows_all c.args.listing.now c.args.count _ c.rows_of-row-items.ensures c.loop-row.row-index (omega arith) in
    sym (sums (weights_in c.args.listing.now c.args.count) c.loop-row.sum (omega arith) (omega arith))
