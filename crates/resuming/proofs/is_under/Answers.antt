-- The numbers before the start, the start, and the run along it, case by case.
use mathlib.Core.Path.{sym, ap, ◌∙◌}
use Prim.Native.Nat.{suc}
use native.Mathlib.Omega.{arith}
use Rattle.state.specs.Test.{at}
use lib.ListN.{length, length-drop, length-take}
use Rattle.state.proofs.Tests.{refused, passed, below-bound}
use Rattle.underway.specs.Buffer.{wait_of}
use Rattle.machine.specs.Machine.{moves_by}
use Rattle.searching.proofs.Held.{tables, stands}
use Rattle.resuming.proofs.Standing.{natural-so, sound}
use Rattle.resuming.proofs.Under.{head-is, few-names, under-headless, under-stateless, under-far, under-is}
use Rattle.resuming.proofs.is_under.Goals as goal

pub returns-then-not-is_head : goal.returns-then-not-is_head
returns-then-not-is_head c =
    λ m h w. under-headless c.args.settled c.args.written m h c.args.waits.now w c.args.search.now (sym c.is_head.ensures ∙ refused _ c.if-not-is_head.true-raw)

pub shape-requires : goal.shape-requires
shape-requires c =
    (c.requires.0.0, tables c.args.settled c.args.written c.requires.0.0 c.requires.0.1)

pub returns-then-not-is_state : goal.returns-then-not-is_state
returns-then-not-is_state c =
    λ m h w. let x = c.args.settled in let y = c.args.written in let l = c.args.search.now in let n = c.args.waits.now in let a = sym c.is_head.ensures ∙ passed _ c.if-not-is_head.false-raw in under-stateless x y m h n w l a (sym (rw (c.shape.ensures.0, c.shape.ensures.1) at c.is_state.ensures) ∙ refused _ c.if-not-is_state.true-raw)

pub position_in-found-requires : goal.position_in-found-requires
position_in-found-requires c =
    let x = c.args.settled in let y = c.args.written in let l = c.args.search.now in let n = c.args.waits.now in let a = sym c.is_head.ensures ∙ passed _ c.if-not-is_head.false-raw in
    let k = head-is x y c.requires.0.0 c.requires.0.1 n c.requires.0.2 l a in
    (c.requires.2, natural-so _ (at l 2) k.count, natural-so _ (at l 4) k.short)

pub returns-in_default : goal.returns-in_default
returns-in_default c =
    λ m h w. let x = c.args.settled in let y = c.args.written in let l = c.args.search.now in let n = c.args.waits.now in let a = sym c.is_head.ensures ∙ passed _ c.if-not-is_head.false-raw in let b = sym (rw (c.shape.ensures.0, c.shape.ensures.1) at c.is_state.ensures) ∙ passed _ c.if-not-is_state.false-raw in under-far x y m h n w l a b (sym c.position_in-found.ensures ∙ c.in_default.is)

pub number_at-code-requires : goal.number_at-code-requires
number_at-code-requires c =
    let x = c.args.settled in let y = c.args.written in let l = c.args.search.now in let n = c.args.waits.now in let a = sym c.is_head.ensures ∙ passed _ c.if-not-is_head.false-raw in
    let k = head-is x y c.requires.0.0 c.requires.0.1 n c.requires.0.2 l a in
    let o = c.requires.2 in
    (omega arith, natural-so _ (at l 1) k.wait)

pub sought_of-sought-requires : goal.sought_of-sought-requires
sought_of-sought-requires c =
    let x = c.args.settled in let y = c.args.written in let l = c.args.search.now in let n = c.args.waits.now in let a = sym c.is_head.ensures ∙ passed _ c.if-not-is_head.false-raw in
    let k = few-names x y c.requires.0.0 c.requires.0.1 n c.requires.0.2 l a in
    let o = below-bound (suc (length n)) (at l 1) k.wait in
    let e = c.number_at-code.ensures in
    (c.requires.0, omega (arith, o, e))

pub is_run-requires : goal.is_run-requires
is_run-requires c =
    let x = c.args.settled in let y = c.args.written in let l = c.args.search.now in let n = c.args.waits.now in let a = sym c.is_head.ensures ∙ passed _ c.if-not-is_head.false-raw in let b = sym (rw (c.shape.ensures.0, c.shape.ensures.1) at c.is_state.ensures) ∙ passed _ c.if-not-is_state.false-raw in
    let m = c.requires.0.0 in
    let h = c.requires.0.1 in
    let k = head-is x y m h n c.requires.0.2 l a in
    let g = c.sought_of-sought.ensures m h c.requires.0.2 in
    let o = c.requires.2 in
    let s = sound l c.in-Some.position (sym c.position_in-found.ensures ∙ c.in-Some.is) k o in
    ((m, _, g.0, stands x y m h _ (simp (length-take, length-drop) (omega (arith, o))) b), s.short)

pub returns : goal.returns
returns c =
    λ m h w.
    let x = c.args.settled in let y = c.args.written in let l = c.args.search.now in let n = c.args.waits.now in let a = sym c.is_head.ensures ∙ passed _ c.if-not-is_head.false-raw in let b = sym (rw (c.shape.ensures.0, c.shape.ensures.1) at c.is_state.ensures) ∙ passed _ c.if-not-is_state.false-raw in
    let g = c.sought_of-sought.ensures m h w in
    let o = c.requires.2 in
    under-is x y m h n w l a b c.is_run.result c.in-Some.position (sym c.position_in-found.ensures ∙ c.in-Some.is) _ (g.1 ∙ ap (λ k. moves_by m (wait_of k)) c.number_at-code.ensures)
    (c.is_run.ensures m _ g.0 (stands x y m h _ (simp (length-take, length-drop) (omega (arith, o))) b))
