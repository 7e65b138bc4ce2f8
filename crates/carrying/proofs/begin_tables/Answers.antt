-- Question 11 by the tests, 26 by the depth, then what is written.
use mathlib.Core.Path.{sym, ◌∙◌}
use native.Mathlib.Omega.{arith}
use Rattle.state.proofs.Tests.{refused, passed}
use Rattle.searching.proofs.Results.{depth-few}
use Rattle.carrying.proofs.Held.{numbers-are}
use Rattle.carrying.proofs.Turns.{shut_begins, state-passes, deep-begins, begun-begins}
use Rattle.carrying.proofs.begin_tables.Goals as goal

pub are_held-requires : goal.are_held-requires
are_held-requires c = c.requires

pub returns-then-not-are_held : goal.returns-then-not-are_held
returns-then-not-are_held c =
    λ m bs h w.
    shut_begins bs _ _ m _ _ (sym (c.are_held.ensures m h w) ∙ refused _ c.if-not-are_held.true-raw)

pub returns-then-not-is_depth : goal.returns-then-not-is_depth
returns-then-not-is_depth c =
    λ m bs h w.
    let e = sym (c.are_held.ensures m h w) ∙ passed _ c.if-not-are_held.false-raw in
    let n = numbers-are c.args.settled c.args.written m h _ c.requires.1 (state-passes bs _ _ m e) in
    deep-begins bs _ _ m e n _ _ h.good c.requires.2 (sym c.is_depth.ensures ∙ refused _ c.if-not-is_depth.true-raw)

pub code_of-code-requires : goal.code_of-code-requires
code_of-code-requires c =
    let w = c.words_of.ensures in
    (c.requires.0.0.words, rw (w.0, w.1.0, w.1.1) c.requires.0.1.spells)

pub put_begun-requires : goal.put_begun-requires
put_begun-requires c =
    (c.requires.2, c.requires.1, depth-few _ (sym c.is_depth.ensures ∙ passed _ c.if-not-is_depth.false-raw), omega (arith, c.code_of-code.ensures.few, c.requires.3))

pub returns : goal.returns
returns c =
    λ m bs h w.
    let e = sym (c.are_held.ensures m h w) ∙ passed _ c.if-not-are_held.false-raw in
    let n = numbers-are c.args.settled c.args.written m h _ c.requires.1 (state-passes bs _ _ m e) in
    let v = c.words_of.ensures in
    begun-begins bs _ _ m e n _ _ (sym c.is_depth.ensures ∙ passed _ c.if-not-is_depth.false-raw) _ _ (c.code_of-code.ensures.code m (rw (v.0, v.1.0, v.1.1) h.spells) w) c.put_begun.ensures
