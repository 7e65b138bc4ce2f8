-- The rows are written and then spliced: the laws of Continue.
use mathlib.Core.Path.{ap, sym}
use mathlib.Core.List.{List, []}
use native.Mathlib.Omega.{arith}
use lib.ListN.{length}
use Rattle.machine.specs.Offer.{Process}
use Rattle.machine.specs.State.{flatten, process_numbers}
use Rattle.step.proofs.Continue.{continues, none-next, spaced, splice-asks, replaced, rows-put}
use Rattle.step.proofs.replace_process.Goals as goal

pub put_processes-n-requires : goal.put_processes-n-requires
put_processes-n-requires c =
    let h = c.requires.3 in (spaced h c.in-Some.k _ c.in-Some.is (omega arith), h.defined.fit.values)

pub splice-requires : goal.splice-requires
splice-requires c =
    let h = c.requires.3 in
    let w = rows-put h _ _ _ (omega arith) (c.put_processes-n.ensures c.requires.0 c.requires.2 (continues c.args.moving.now.tables.nodes.now c.args.moving.now.tables.root c.args.moving.now.tables.variables c.args.x.next c.in-Some.k c.in-Some.is h.defined) h.scoped) in
    splice-asks h _ _ w.0 w.2

pub splice-requires-in-None : goal.splice-requires-in-None
splice-requires-in-None c =
    let h = c.requires.3 in
    splice-asks h 0 _ (sym (ap (λ (xs : List Process). length xs) (none-next c.args.moving.now.tables.nodes.now c.args.moving.now.tables.root c.args.moving.now.tables.variables c.args.x.next c.in-None.is h.defined))) (omega arith)

pub returns-in-Some-clause-moves : goal.returns-in-Some-clause-moves
returns-in-Some-clause-moves c =
    λ m s ps h.
    let w = rows-put h _ _ _ (omega arith) (c.put_processes-n.ensures m ps (continues c.args.moving.now.tables.nodes.now c.args.moving.now.tables.root c.args.moving.now.tables.variables c.args.x.next c.in-Some.k c.in-Some.is h.defined) h.scoped) in
    replaced h _ _ _ w.0 w.1 c.splice.ensures

pub returns-in-None-clause-moves : goal.returns-in-None-clause-moves
unfolding flatten
returns-in-None-clause-moves c =
    λ m s ps h.
    let e = none-next c.args.moving.now.tables.nodes.now c.args.moving.now.tables.root c.args.moving.now.tables.variables c.args.x.next c.in-None.is h.defined in
    replaced h 0 [] _ (sym (ap (λ (xs : List Process). length xs) e)) (sym (ap (flatten process_numbers) e)) c.splice-in-None.ensures
