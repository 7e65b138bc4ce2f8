-- Question 11 by the state's test, then what the listing gives.
use mathlib.Core.Path.{refl, sym, ◌∙◌}
use Rattle.std.proofs.lemmas.Result.{err_from_is_err_and}
use Rattle.state.proofs.Tests.{refused, passed}
use Rattle.engine.specs.Tables.{closed, holding}
use Rattle.store.proofs.Tables.{state_of, numbers-back, state-good, machine-is, machine-closed}
use Rattle.engine.proofs.Shows.{world}
use Rattle.engine.proofs.listings.list_state.Goals as goal

pub shape-requires : goal.shape-requires
shape-requires c =
    c.requires.0

pub is_state-requires : goal.is_state-requires
is_state-requires c =
    c.requires.1

pub returns-then-not-is_state : goal.returns-then-not-is_state
returns-then-not-is_state c =
    λ m h.
    let s = c.shape.ensures in
    closed (machine-closed _ _ _ _ _ m h c.args.state.now (sym (rw (s.0, s.1) at c.is_state.ensures) ∙ refused _ c.if-not-is_state.true-raw)) refl refl

pub list_here-requires : goal.list_here-requires
list_here-requires c =
    let s = c.shape.ensures in
    let m = c.requires.0.0 in
    let h = c.requires.0.1 in
    let e = sym (rw (s.0, s.1) at c.is_state.ensures) ∙ passed _ c.if-not-is_state.false-raw in
    ((m, state_of _ _ _ _ _ m h c.args.state.now, world _ _ _ _ _ m h c.args.state.now c.requires.1 e), c.requires.2)

pub returns-in_err-listed : goal.returns-in_err-listed
returns-in_err-listed c =
    λ m h.
    let s = c.shape.ensures in
    let Z = c.args.state.now in
    let l = c.requires.1 in
    let e = sym (rw (s.0, s.1) at c.is_state.ensures) ∙ passed _ c.if-not-is_state.false-raw in
    let p = err_from_is_err_and c.from_residual.result c.from_residual.ensures.1 in
    holding (machine-is _ _ _ _ _ m h Z l e) (state-good _ _ _ _ _ m h Z l e) (sym (numbers-back _ _ _ _ _ m h Z l e)) (rw (p.1, p.2, c.in_err-listed.was) refl) (c.list_here.ensures m (state_of _ _ _ _ _ m h Z) (world _ _ _ _ _ m h Z l e))

pub returns : goal.returns
returns c =
    λ m h.
    let s = c.shape.ensures in
    let Z = c.args.state.now in
    let l = c.requires.1 in
    let e = sym (rw (s.0, s.1) at c.is_state.ensures) ∙ passed _ c.if-not-is_state.false-raw in
    holding (machine-is _ _ _ _ _ m h Z l e) (state-good _ _ _ _ _ m h Z l e) (sym (numbers-back _ _ _ _ _ m h Z l e)) (rw c.in_ok-listed.was refl) (c.list_here.ensures m (state_of _ _ _ _ _ m h Z) (world _ _ _ _ _ m h Z l e))
