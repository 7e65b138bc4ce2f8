use Rattle.token.specs.Contents.{lows_in, highs_in}
use Rattle.settle.proofs.Stands.{inside-nodes, turn, sum-asked, stepped}
use Rattle.settle.proofs.Resolving.{standing-at, progressed, look, starting, line-inside, resolvable, settled-so}
use mathlib.Core.Path.{refl}
use lib.ListN.{length}
use native.Mathlib.Omega.{arith}
use Rattle.settle.specs.Places.{Resolvable}
use Prim.Native.Nat.{ℕ, ◌+◌, ◌<◌, ◌≤◌}
use Rattle.settle.proofs.Resolving.{Progress}
use Rattle.settle.proofs.settle.Goals.{else-loop-i-test, then-loop-i-test+else-i-line}
use Rattle.settle.proofs.settle.Goals as goal

pub line-line-requires : goal.line-line-requires
line-line-requires c =
    let i = line-inside (resolvable c.requires.2 c.args.root c.requires.1 c.lists_of-lists.result c.lists_of-lists.ensures) in omega (arith, i.0, i.1)

pub walk_begun-walk-requires : goal.walk_begun-walk-requires
walk_begun-walk-requires c =
    look (resolvable c.requires.2 c.args.root c.requires.1 c.lists_of-lists.result c.lists_of-lists.ensures)

pub loop-i-init : goal.loop-i-init
loop-i-init c =
    (omega (arith, (line-inside (resolvable c.requires.2 c.args.root c.requires.1 c.lists_of-lists.result c.lists_of-lists.ensures)).2, c.line-line.ensures), λ h. starting h refl refl refl _ c.walk_begun-walk.ensures)

pub bounds-nodes-i : goal.bounds-nodes-i
bounds-nodes-i c =
    inside-nodes (standing-at c.requires.2 c.args.root c.requires.1 c.lists_of-lists.result c.lists_of-lists.ensures _ _ _ _ _ _ _ c.loop-i.auto.i (omega (arith, c.line-line.ensures)) c.loop-i.invariant.1)

pub bounds-nodes-i-in-loop-i : goal.bounds-nodes-i-in-loop-i
bounds-nodes-i-in-loop-i c =
    inside-nodes (standing-at c.requires.2 c.args.root c.requires.1 c.lists_of-lists.result c.lists_of-lists.ensures _ _ _ _ _ _ _ c.loop-i.auto.i (omega (arith, c.line-line.ensures)) c.loop-i.invariant.1)

pub settle_node-cell-requires : goal.settle_node-cell-requires
settle_node-cell-requires c =
    turn (standing-at c.requires.2 c.args.root c.requires.1 c.lists_of-lists.result c.lists_of-lists.ensures _ _ _ _ _ _ _ c.loop-i.auto.i (omega (arith, c.line-line.ensures)) c.loop-i.invariant.1)

pub mark_sum-requires : goal.mark_sum-requires
mark_sum-requires c =
    sum-asked (standing-at c.requires.2 c.args.root c.requires.1 c.lists_of-lists.result c.lists_of-lists.ensures _ _ _ _ _ _ _ c.loop-i.auto.i (omega (arith, c.line-line.ensures)) c.loop-i.invariant.1)

pub loop-i-preserved : goal.loop-i-preserved
loop-i-preserved c =
    (omega arith, λ h. progressed h _ _ _ _ _ _ _ _ _ _ _ _ _ c.loop-i.auto.i (omega (arith, c.line-line.ensures)) (c.loop-i.invariant.1 h) (λ st. stepped st c.settle_node-cell.result.0 _ _ _ _ _ c.settle_node-cell.ensures c.mark_sum.ensures.roots_after c.mark_sum.ensures.scopes_after))

pub returns : goal.returns
returns c =
    let lists = c.lists_of-lists.result in
    let is = c.lists_of-lists.ensures in
    let line = c.line-line.result in
    let inside = line-inside (resolvable c.requires.2 c.args.root c.requires.1 lists is) in
    let end : (i : ℕ) × (line < i) × (i ≤ line + 1) × ((h : Resolvable (lows_in c.args.contents.now) (highs_in c.args.contents.now) c.args.nodes.now (length c.args.roots.now) (length c.args.scopes.now) (length c.args.names.now) lists)
    → Progress h i c.loop-i-test.nodes c.loop-i-test.roots c.loop-i-test.scopes c.loop-i-test.met.nodes.now c.loop-i-test.met.count c.loop-i-test.walk) =
    elim c.loop-i-test.branch [
      | else-loop-i-test w ↦ (c.loop-i.i, omega arith, c.loop-i.invariant.0, λ h. rw (w.nodes-is, w.roots-is, w.scopes-is, w.met-is, w.walk-is) (c.loop-i.invariant.1 h))
      | then-loop-i-test+else-i-line w ↦ (
        c.loop-i.i + 1,
        omega arith,
        omega arith,
        λ h. rw (w.nodes-is, w.roots-is, w.scopes-is, w.met-is, w.walk-is) (progressed h _ _ _ _ _ _ _ _ _ _ _ _ w.settle_node-cell.result.1 c.loop-i.auto.i (omega (arith)) (c.loop-i.invariant.1 h)
            (λ st. stepped st w.settle_node-cell.result.0 _ _ _ _ _ w.settle_node-cell.ensures w.mark_sum.ensures.roots_after w.mark_sum.ensures.scopes_after)),
      )
    ] in
    record {
      represents = λ l h q. (settled-so h c.args.root q lists is _ _ _ _ _ _ end.0 line c.line-line.ensures end.1 end.2 end.3).0;
      definitions_bound = omega (arith, inside.0, inside.1);
      settles = λ l h q. (settled-so h c.args.root q lists is _ _ _ _ _ _ end.0 line c.line-line.ensures end.1 end.2 end.3).1;
    }
