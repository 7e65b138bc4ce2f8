-- The lists of the struct are those that are lent, before the loop and after it, since it keeps its references.
use native.Mathlib.Omega.{arith}
use Rattle.std.proofs.Common.{rules}
use Rattle.script.specs.Run.{held}
use Rattle.script.proofs.Turns.{kept-long, begins, turns, stops, done}
use Rattle.script.proofs.Follows.{ran-refines}
use Rattle.script.proofs.run.Goals as goal

pub loop-i-init : goal.loop-i-init
loop-i-init c = (search, begins _ _ _ _ _)

pub loop-i-preserved : goal.loop-i-preserved
loop-i-preserved c =
    (search, turns c.args.script.now c.args.texts.now c.args.numbers.now c.args.words.now _ (held c.loop-i.lent) (held c.run_row.new.self) c.loop-i.i c.loop-i.invariant.1 (kept-long c.loop-i.lent c.run_row.new.self c.run_row.ensures.kept) c.if-not-run_row.false c.run_row.ensures.ran)

pub returns-then-not-run_row : goal.returns-then-not-run_row
returns-then-not-run_row c =
    let script = c.args.script.now in
    let texts = c.args.texts.now in
    let numbers = c.args.numbers.now in
    let words = c.args.words.now in
    let r = stops script texts numbers words _ (held c.loop-i.lent) (held c.run_row.new.self) c.loop-i.i c.loop-i.invariant.1 (kept-long c.loop-i.lent c.run_row.new.self c.run_row.ensures.kept) c.if-not-run_row.true c.run_row.ensures.ran in
    let f = ran-refines script texts numbers words _ _ _ r in
    search rules

pub returns : goal.returns
returns c =
    let script = c.args.script.now in
    let texts = c.args.texts.now in
    let numbers = c.args.numbers.now in
    let words = c.args.words.now in
    let r = done script texts numbers words _ (held c.loop-i.lent) c.loop-i.i c.loop-i.invariant.1 (omega arith) in
    let f = ran-refines script texts numbers words _ _ _ r in
    search rules
