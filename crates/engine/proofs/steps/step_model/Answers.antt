-- 11 to 14, or the entry that the draw takes of the listing.
use Rattle.std.proofs.lemmas.Result.{err_from_is_err_and}
use Rattle.engine.proofs.Drawn.{tables-of, found, refused-gives, found-gives}
use Rattle.engine.proofs.steps.step_model.Goals as goal

pub list_state-requires : goal.list_state-requires
list_state-requires c =
    let m = c.requires.0.0 in
    ((m, tables-of _ _ _ _ _ _ _ m c.requires.0.1), c.requires.1, c.requires.2)

pub take_drawn-requires : goal.take_drawn-requires
take_drawn-requires c =
    let m = c.requires.0.0 in
    let w = c.requires.0.1 in
    let f = found _ _ _ _ _ _ _ m w c.args.state.now _ _ _ (rw c.in_ok-told.was at (c.list_state.ensures m (tables-of _ _ _ _ _ _ _ m w))) in
    (m, f.state, f.entries, f.counted)

pub returns-in_err-told : goal.returns-in_err-told
returns-in_err-told c =
    λ m bs w.
    let p = err_from_is_err_and c.from_residual.result c.from_residual.ensures.1 in
    rw (p.1, p.2) (refused-gives bs c.args.state.now c.args.listing.now c.args.draw c.requires.2 m _ _ (rw c.in_err-told.was at (c.list_state.ensures m (tables-of _ _ _ _ _ _ _ m w))))

pub returns : goal.returns
returns c =
    λ m bs w.
    let f = found _ _ _ _ _ _ _ m w c.args.state.now _ _ _ (rw c.in_ok-told.was at (c.list_state.ensures m (tables-of _ _ _ _ _ _ _ m w))) in
    found-gives bs c.args.listing.now c.args.draw f _ _ (c.take_drawn.ensures m f.state f.entries f.counted)
