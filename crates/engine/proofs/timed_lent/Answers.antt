-- The model that the buffer holds, or 11.
use mathlib.Core.Path.{◌≡◌}
use Rattle.std.proofs.lemmas.Result.{err_from_is_err_and}
use Rattle.machine.specs.Machine.{timed'}
use Rattle.buffers.specs.Parts.{lent_timed}
use Rattle.simulation.specs.Comes.{Reads}
use Rattle.engine.specs.declared.Refusal.TheVariants.{NotHeld}
use Rattle.engine.proofs.Shows.{none-gives}
use Rattle.engine.proofs.Waits.{held-timed}
use Rattle.engine.proofs.timed_lent.Goals as goal

pub returns-in_err-settled : goal.returns-in_err-settled
unfolding Reads
returns-in_err-settled c =
    let B = c.args.model.now in
    let Z = c.args.state.now in
    let D = c.args.waiting.now in
    let L = c.args.listing.now in
    let p = err_from_is_err_and c.from_residual.result c.from_residual.ensures.1 in
    let v = rw c.in_err-settled.ensures.ok_part at c.in_err-settled.ensures.value in
    let d : c.in_err-settled.field-0.0 ≡ NotHeld = cc v in
    rw (p.1, p.2, d, held-timed B Z c.args.clock D c.args.draw L (rw c.in_err-settled.ensures.ok_part at c.read.ensures)) (none-gives (timed' D c.args.draw) (lent_timed B Z c.args.clock) L)

pub step_waiting-requires : goal.step_waiting-requires
unfolding Reads
step_waiting-requires c =
    let r = rw c.in_ok-settled.ensures.ok_part at c.read.ensures in
    ((r.0, r.2), c.requires.1, c.requires.2, c.requires.3)

pub returns : goal.returns
unfolding Reads
returns c =
    let B = c.args.model.now in
    let r = rw c.in_ok-settled.ensures.ok_part at c.read.ensures in
    rw (held-timed B c.args.state.now c.args.clock c.args.waiting.now c.args.draw c.args.listing.now r.1) (c.step_waiting.ensures r.0 B r.2)
