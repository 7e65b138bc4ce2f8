use Rattle.rules.proofs.Chosen.{span-chosen, none-chosen}
use Rattle.listing.specs.Buffer.{weights_in, chosen_answer}
use Rattle.listing.proofs.Weights.{row-turn, row-turn-le, row-weight, rows_all, up_none, chosen_at, chosen_none}
use mathlib.Core.Path.{ap, sym, ◌∙◌}
use native.Mathlib.Omega.{arith}
use borrow.Author.Rules.{rules}
use Rattle.listing.proofs.Listed.choose.Goals as goal

pub loop-i-init : goal.loop-i-init
loop-i-init c = let e = up_none (weights_in c.args.listing.now c.args.self.count) in search rules

pub overflow_add-sum : goal.overflow_add-sum
overflow_add-sum c =
    let h = row-turn-le c.args.listing.now c.args.self.count _ c.rows_of-row-items.ensures c.loop-i.i c.loop-i-test.true in
    search rules

pub returns-then-draw-sum : goal.returns-then-draw-sum
returns-then-draw-sum c =
    let b = c.args.listing.now in
    let n = c.args.self.count in
    let h = row-weight b n _ c.rows_of-row-items.ensures c.loop-i.i c.loop-i-test.true in
    sym (ap chosen_answer (span-chosen (weights_in b n) c.args.draw c.loop-i.i (omega arith, omega arith)) ∙ chosen_at c.loop-i.i)

pub loop-i-preserved : goal.loop-i-preserved
loop-i-preserved c =
    let h = row-turn c.args.listing.now c.args.self.count _ c.rows_of-row-items.ensures c.loop-i.i c.loop-i-test.true in
    search rules

pub returns : goal.returns
returns c =
    let h = rows_all c.args.listing.now c.args.self.count _ c.rows_of-row-items.ensures c.loop-i.i (omega arith) in
    sym (ap chosen_answer (none-chosen (weights_in c.args.listing.now c.args.self.count) c.args.draw (omega arith)) ∙ chosen_none)
