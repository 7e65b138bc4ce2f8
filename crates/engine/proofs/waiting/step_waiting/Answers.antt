-- 11 to 14, 15, or what running's step comes to.
use Rattle.std.proofs.lemmas.Result.{err_from_is_err_and}
use native.Mathlib.Omega.{arith}
use Rattle.engine.proofs.Drawn.{tables-of, found}
use Rattle.engine.proofs.Waits.{refused-waits, weightless, stepped-gives}
use Rattle.engine.proofs.waiting.step_waiting.Goals as goal

pub list_state-requires : goal.list_state-requires
list_state-requires c =
    let m = c.requires.0.0 in
    ((m, tables-of _ _ _ _ _ _ _ m c.requires.0.1), c.requires.1, c.requires.2)

pub returns-in_err-listed : goal.returns-in_err-listed
returns-in_err-listed c =
    λ m bs w.
    let p = err_from_is_err_and c.from_residual.result c.from_residual.ensures.1 in
    rw (p.1, p.2) (refused-waits bs c.args.state.now c.args.clock c.args.waiting.now c.args.draw c.args.listing.now c.requires.3 c.requires.2 m _ _ (rw c.in_err-listed.was at (c.list_state.ensures m (tables-of _ _ _ _ _ _ _ m w))))

pub returns-then-listed-eq0 : goal.returns-then-listed-eq0
returns-then-listed-eq0 c =
    λ m bs w.
    let f = found _ _ _ _ _ _ _ m w c.args.state.now _ _ _ (rw c.in_ok-listed.was at (c.list_state.ensures m (tables-of _ _ _ _ _ _ _ m w))) in
    stepped-gives bs c.args.state.now c.args.clock c.args.waiting.now c.args.draw c.args.listing.now c.requires.3 f _ _ (weightless bs c.args.state.now c.args.clock c.args.waiting.now c.args.draw c.args.listing.now c.requires.3 f c.if-listed-eq0.true)

pub take_single-requires : goal.take_single-requires
take_single-requires c =
    let m = c.requires.0.0 in
    let w = c.requires.0.1 in
    let f = found _ _ _ _ _ _ _ m w c.args.state.now _ _ _ (rw c.in_ok-listed.was at (c.list_state.ensures m (tables-of _ _ _ _ _ _ _ m w))) in
    ((m, f.state, f.entries, f.counted), c.requires.3, omega (arith, c.if-listed-eq0.false))

pub returns-in-Ok : goal.returns-in-Ok
returns-in-Ok c =
    λ m bs w.
    let f = found _ _ _ _ _ _ _ m w c.args.state.now _ _ _ (rw c.in_ok-listed.was at (c.list_state.ensures m (tables-of _ _ _ _ _ _ _ m w))) in
    stepped-gives bs c.args.state.now c.args.clock c.args.waiting.now c.args.draw c.args.listing.now c.requires.3 f _ _ (rw c.in-Ok.is at (c.take_single.ensures m f.state f.entries f.counted))

pub returns-in-Err : goal.returns-in-Err
returns-in-Err c =
    λ m bs w.
    let f = found _ _ _ _ _ _ _ m w c.args.state.now _ _ _ (rw c.in_ok-listed.was at (c.list_state.ensures m (tables-of _ _ _ _ _ _ _ m w))) in
    stepped-gives bs c.args.state.now c.args.clock c.args.waiting.now c.args.draw c.args.listing.now c.requires.3 f _ _ (rw c.in-Err.is at (c.take_single.ensures m f.state f.entries f.counted))
