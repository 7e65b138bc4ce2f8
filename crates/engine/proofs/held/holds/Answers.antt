-- The model that the buffer holds, or nothing.
use mathlib.Core.Path.{refl, ap, sym, ◌∙◌}
use Rattle.engine.specs.Gives.{is_holding}
use Rattle.simulation.specs.Comes.{Reads}
use Rattle.engine.proofs.Drawn.{tables-of}
use Rattle.engine.proofs.Lengths.{three-held}
use Rattle.engine.proofs.Stored.{no_text, tables-hold}
use Rattle.engine.proofs.held.holds.Goals as goal

pub returns-in_default : goal.returns-in_default
unfolding Reads
returns-in_default c =
    let e = rw c.in_default.is at c.read.ensures in
    sym (ap is_holding (three-held c.args.model.now c.args.state.now c.args.saves.now e) ∙ no_text _ _ refl)

pub shape-requires : goal.shape-requires
unfolding Reads
shape-requires c =
    let r = rw c.in-Some.is at c.read.ensures in
    (r.0, tables-of _ _ _ _ _ _ _ r.0 r.2)

pub returns : goal.returns
unfolding Reads
returns c =
    let r = rw c.in-Some.is at c.read.ensures in
    let h = tables-of _ _ _ _ _ _ _ r.0 r.2 in
    let s = c.shape.ensures in
    rw (three-held c.args.model.now c.args.state.now c.args.saves.now r.1) ((rw (s.0, s.1) at c.holds_model.ensures) ∙ tables-hold _ _ _ _ _ r.0 h c.args.model.now c.args.state.now c.args.saves.now)
