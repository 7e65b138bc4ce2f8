-- Question 11 by the state's test, 26 by the depth, then what the walk comes to.
use mathlib.Core.Path.{sym, ◌∙◌}
use Rattle.state.proofs.Tests.{refused, passed}
use Rattle.searching.proofs.Results.{depth-few, closed_run, deep-run, walked-run}
use Rattle.searching.proofs.Held.{tables, walk-held, closes, stands, numbers, holds}
use Rattle.searching.proofs.search_tables.Goals as goal

pub shape-requires : goal.shape-requires
shape-requires c =
    (c.requires.0.0, tables c.args.settled c.args.written c.requires.0.0 c.requires.0.1)

pub returns-then-not-is_state : goal.returns-then-not-is_state
returns-then-not-is_state c =
    λ m bs h.
    let e = sym (rw (c.shape.ensures.0, c.shape.ensures.1) at c.is_state.ensures) ∙ refused _ c.if-not-is_state.true-raw in
    rw c.bare.ensures (closed_run bs _ m _ _ (closes c.args.settled c.args.written m h _ e bs))

pub returns-then-not-is_depth : goal.returns-then-not-is_depth
returns-then-not-is_depth c =
    λ m bs h.
    let e = sym (rw (c.shape.ensures.0, c.shape.ensures.1) at c.is_state.ensures) ∙ passed _ c.if-not-is_state.false-raw in
    let x = c.args.settled in
    let y = c.args.written in
    let l = c.requires.1 in
    rw c.bare-then-not-is_depth.ensures (deep-run bs _ m _ _ _ (holds x y m h _ l e bs) (numbers x y m h _ l e) (sym c.is_depth.ensures ∙ refused _ c.if-not-is_depth.true-raw))

pub search_model-walked-requires : goal.search_model-walked-requires
search_model-walked-requires c =
    let e = sym (rw (c.shape.ensures.0, c.shape.ensures.1) at c.is_state.ensures) ∙ passed _ c.if-not-is_state.false-raw in
    let x = c.args.settled in
    let y = c.args.written in
    let m = c.requires.0.0 in
    let h = c.requires.0.1 in
    ((m, _, walk-held x y m h, stands x y m h _ c.requires.1 e), depth-few _ (sym c.is_depth.ensures ∙ passed _ c.if-not-is_depth.false-raw))

pub result_of-requires : goal.result_of-requires
result_of-requires c =
    let e = sym (rw (c.shape.ensures.0, c.shape.ensures.1) at c.is_state.ensures) ∙ passed _ c.if-not-is_state.false-raw in
    let x = c.args.settled in
    let y = c.args.written in
    let m = c.requires.0.0 in
    let h = c.requires.0.1 in
    (_, c.search_model-walked.ensures m _ (walk-held x y m h) (stands x y m h _ c.requires.1 e))

pub returns : goal.returns
returns c =
    λ m bs h.
    let e = sym (rw (c.shape.ensures.0, c.shape.ensures.1) at c.is_state.ensures) ∙ passed _ c.if-not-is_state.false-raw in
    let x = c.args.settled in
    let y = c.args.written in
    let l = c.requires.1 in
    walked-run bs _ m _ _ _ (holds x y m h _ l e bs) (numbers x y m h _ l e) (sym c.is_depth.ensures ∙ passed _ c.if-not-is_depth.false-raw) _
    (c.result_of.ensures _ (c.search_model-walked.ensures m _ (walk-held x y m h) (stands x y m h _ l e)))
