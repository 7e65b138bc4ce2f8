-- Question 11 by the tests, then what carrying on tells.
use mathlib.Core.Path.{sym, ◌∙◌}
use mathlib.Core.List.{[]}
use Rattle.state.proofs.Tests.{refused, passed}
use Rattle.carrying.proofs.Held.{numbers-are}
use Rattle.carrying.proofs.Turns.{shut_carries, state-passes, search-passes, carried-gives}
use Rattle.carrying.proofs.carry_tables.Goals as goal

pub are_held-requires : goal.are_held-requires
are_held-requires c = c.requires

pub returns-then-not-are_held : goal.returns-then-not-are_held
returns-then-not-are_held c =
    λ m bs h w.
    rw c.bare.ensures (shut_carries bs _ _ m _ (sym (c.are_held.ensures m h w) ∙ refused _ c.if-not-are_held.true-raw))

pub carry-requires : goal.carry-requires
carry-requires c =
    let m = c.requires.0.0 in
    let h = c.requires.0.1 in
    let w = c.requires.0.2 in
    ((m, h, w, search-passes [] _ _ m (sym (c.are_held.ensures m h w) ∙ passed _ c.if-not-are_held.false-raw)), c.requires.2)

pub returns : goal.returns
returns c =
    λ m bs h w.
    let e = sym (c.are_held.ensures m h w) ∙ passed _ c.if-not-are_held.false-raw in
    let n = numbers-are c.args.settled c.args.written m h _ c.requires.1 (state-passes bs _ _ m e) in
    let t = c.carry.ensures m h w (search-passes [] _ _ m e) in
    carried-gives bs _ _ m e n _ _ _ t.0 t.1
