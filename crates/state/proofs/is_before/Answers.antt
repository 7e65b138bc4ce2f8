use mathlib.Core.Path.{sym, ◌∙◌}
use native.Mathlib.Omega.{arith}
use borrow.Author.Rules.{rules}
use borrow.Author.Tests.{eq-eqb, ne_eqb}
use lib.IntN.{pos}
use lib.ListN.{get_or}
use mir.Syntax.{w64}
use mir.Val.{SFits}
use mir.Facts.{to_z-of_z}
use Rattle.value.proofs.Kit.{same_bits}
use Rattle.state.proofs.Tests.{less-apart, less-on, less_done}
use Rattle.state.proofs.is_before.Goals as goal

pub returns-then-x-b : goal.returns-then-x-b
returns-then-x-b c =
    let x = get_or c.args.a.now c.loop-i.i (pos 0) in
    let y = get_or c.args.b.now c.loop-i.i (pos 0) in
    let f : SFits w64 x = search rules in
    let g : SFits w64 y = search rules in
    rw (to_z-of_z f, to_z-of_z g) (sym (less-apart c.args.a.now c.args.b.now c.loop-i.i (omega arith) c.loop-i.invariant (omega arith) (sym (same_bits x y f g) ∙ ne_eqb _ _ c.if-x-b.true)))

pub loop-i-preserved : goal.loop-i-preserved
loop-i-preserved c =
    let x = get_or c.args.a.now c.loop-i.i (pos 0) in
    let y = get_or c.args.b.now c.loop-i.i (pos 0) in
    let f : SFits w64 x = search rules in
    let g : SFits w64 y = search rules in
    less-on c.args.a.now c.args.b.now c.loop-i.i (omega arith) c.loop-i.invariant (omega arith) (sym (same_bits x y f g) ∙ eq-eqb _ _ c.if-x-b.false)

pub returns : goal.returns
returns c = sym (less_done c.args.a.now c.args.b.now c.loop-i.i (omega arith) c.loop-i.invariant (omega arith))
