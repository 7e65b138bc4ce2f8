use mathlib.Core.Path.{refl, sym, ◌∙◌}
use native.Mathlib.Omega.{arith}
use lib.ListN.{drop, length-drop}
use borrow.Author.Rules.{rules}
use Rattle.token.proofs.Asks.{deep-here, deep-on, deep-end}
use Rattle.token.proofs.Runs.{stride-le}
use Rattle.token.proofs.too_deep.Goals as goal

pub loop-i-init : goal.loop-i-init
loop-i-init c =
    (search rules, search rules, refl)

pub returns-then-n-gt-BRACKETS : goal.returns-then-n-gt-BRACKETS
returns-then-n-gt-BRACKETS c =
    sym (c.loop-i.invariant.2 ∙ deep-here c.args.text.now c.loop-i.i c.loop-i.n _ c.opened_after-n.ensures (omega arith) c.if-n-gt-BRACKETS.true)

pub loop-i-smaller : goal.loop-i-smaller
loop-i-smaller c =
    let l = stride-le (drop c.loop-i.i c.args.text.now) (simp length-drop (omega arith)) in omega (arith, c.onward-i.ensures, length-drop c.loop-i.i c.args.text.now)

pub loop-i-preserved : goal.loop-i-preserved
loop-i-preserved c =
    let l = stride-le (drop c.loop-i.i c.args.text.now) (simp length-drop (omega arith)) in
    (omega (arith, c.onward-i.ensures, length-drop c.loop-i.i c.args.text.now), omega arith, c.loop-i.invariant.2 ∙ deep-on c.args.text.now c.loop-i.i c.loop-i.n _ c.opened_after-n.ensures _ (omega arith) (omega arith) c.onward-i.ensures)

pub returns : goal.returns
returns c =
    sym (c.loop-i.invariant.2 ∙ deep-end c.args.text.now c.loop-i.i c.loop-i.n (omega arith))
