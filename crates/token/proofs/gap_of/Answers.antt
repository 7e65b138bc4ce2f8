use mathlib.Core.Path.{◌∙◌}
use native.Mathlib.Omega.{arith}
use lib.ListN.{drop, length-drop}
use borrow.Author.Tests.{not-true, not-false}
use borrow.Author.Rules.{rules}
use Rattle.token.proofs.Runs.{stride-le, gap-on, gap-off, gap-end}
use Rattle.token.proofs.gap_of.Goals as goal

pub loop-i-init : goal.loop-i-init
loop-i-init c =
    (search rules, omega arith)

pub returns-then-not-skipping : goal.returns-then-not-skipping
returns-then-not-skipping c =
    omega (arith, gap-off c.args.s.now c.loop-i.i _ _ c.peek.ensures c.skipping.ensures (omega arith) (not-true _ c.if-not-skipping.true-raw), c.loop-i.invariant.1)

pub loop-i-smaller : goal.loop-i-smaller
loop-i-smaller c =
    let l = stride-le (drop c.loop-i.i c.args.s.now) (simp length-drop (omega arith)) in omega (arith, c.onward-i.ensures, length-drop c.loop-i.i c.args.s.now)

pub loop-i-preserved : goal.loop-i-preserved
loop-i-preserved c =
    let l = stride-le (drop c.loop-i.i c.args.s.now) (simp length-drop (omega arith)) in
    (omega (arith, c.onward-i.ensures, length-drop c.loop-i.i c.args.s.now), c.loop-i.invariant.1 ∙ gap-on c.args.s.now c.loop-i.i _ _ c.peek.ensures c.skipping.ensures _ (omega arith) (not-false _ c.if-not-skipping.false-raw) c.onward-i.ensures)

pub returns : goal.returns
returns c =
    omega (arith, gap-end c.args.s.now c.loop-i.i (omega arith), c.loop-i.invariant.1)
