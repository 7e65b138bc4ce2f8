use mathlib.Core.Path.{sym, ◌∙◌}
use Rattle.state.proofs.Tests.{refused, passed}
use Rattle.store.proofs.Tables.{state_of, machine-is, machine-closed}
use Rattle.simulation.proofs.Held.{tables, run_lent}
use Rattle.simulation.proofs.Results.{closed-ran, ran-so}
use Rattle.simulation.proofs.run_tables.Goals as goal

pub shape-requires : goal.shape-requires
shape-requires c =
    let A = c.args in
    (c.requires.0.0, tables A.settled.tables.nodes.now A.settled.tables.roots.now A.settled.tables.scopes.now A.settled.tables.root A.settled.tables.variables A.settled.sums A.settled.channels c.requires.0.0 c.requires.0.1)

pub returns-then-not-is_state : goal.returns-then-not-is_state
returns-then-not-is_state c =
    λ m bs h.
    let A = c.args in
    let T = A.settled.tables.nodes.now in
    let R = A.settled.tables.roots.now in
    let S = A.settled.tables.scopes.now in
    let Z = A.state.now in (closed-ran bs Z m A.asked.clock A.asked.words.now A.asked.waiting.now A.asked.limit A.events.now (machine-closed T R S A.settled.sums A.settled.channels m (tables T R S A.settled.tables.root A.settled.tables.variables A.settled.sums A.settled.channels m h) Z (sym (rw (c.shape.ensures.0, c.shape.ensures.1) at c.is_state.ensures) ∙ refused _ c.if-not-is_state.true-raw) bs))

pub run-requires : goal.run-requires
run-requires c =
    let A = c.args in
    let T = A.settled.tables.nodes.now in
    let R = A.settled.tables.roots.now in
    let S = A.settled.tables.scopes.now in
    let Z = A.state.now in
    let m = c.requires.0.0 in
    let h = c.requires.0.1 in
    let e = sym (rw (c.shape.ensures.0, c.shape.ensures.1) at c.is_state.ensures) ∙ passed _ c.if-not-is_state.false-raw in ((m, state_of T R S A.settled.sums A.settled.channels m (tables T R S A.settled.tables.root A.settled.tables.variables A.settled.sums A.settled.channels m h) Z, run_lent T R S A.settled.tables.root A.settled.tables.variables A.settled.sums A.settled.channels m h Z c.requires.1 e), c.requires.2)

pub returns : goal.returns
returns c =
    λ m bs h.
    let A = c.args in
    let T = A.settled.tables.nodes.now in
    let R = A.settled.tables.roots.now in
    let S = A.settled.tables.scopes.now in
    let Z = A.state.now in
    let e = sym (rw (c.shape.ensures.0, c.shape.ensures.1) at c.is_state.ensures) ∙ passed _ c.if-not-is_state.false-raw in
    let t = tables T R S A.settled.tables.root A.settled.tables.variables A.settled.sums A.settled.channels m h in
    let s = state_of T R S A.settled.sums A.settled.channels m t Z in ran-so bs Z m A.asked.clock A.asked.words.now A.asked.waiting.now A.asked.limit A.events.now s (machine-is T R S A.settled.sums A.settled.channels m t Z c.requires.1 e bs) c.requires.2 _ _ _ (c.run.ensures m s (run_lent T R S A.settled.tables.root A.settled.tables.variables A.settled.sums A.settled.channels m h Z c.requires.1 e))
