-- The model that the buffer holds, or 11.
use mathlib.Core.Path.{◌≡◌}
use lib.ListN.{length}
use Rattle.std.proofs.lemmas.Result.{err_from_is_err_and}
use Rattle.machine.specs.Machine.{run'}
use Rattle.buffers.specs.Parts.{lent_timed}
use Rattle.simulation.specs.Comes.{Reads}
use Rattle.simulation.specs.declared.Refusal.TheVariants.{NotHeld}
use Rattle.simulation.proofs.Results.{none-ran, ran-held}
use Rattle.simulation.proofs.run_lent.Goals as goal

pub returns-in_err-settled : goal.returns-in_err-settled
unfolding Reads
returns-in_err-settled c =
    let B = c.args.model.now in
    let Z = c.args.state.now in
    let W = c.args.asked.words.now in
    let D = c.args.asked.waiting.now in
    let L = c.args.events.now in
    let p = err_from_is_err_and c.from_residual.result c.from_residual.ensures.1 in
    let v = rw c.in_err-settled.ensures.ok_part at c.in_err-settled.ensures.value in
    let d : c.in_err-settled.field-0.0 ≡ NotHeld = cc v in
    rw (p.1, p.2, d, ran-held B Z c.args.asked.clock W D c.args.asked.limit L (rw c.in_err-settled.ensures.ok_part at c.read.ensures))
    (none-ran (run' W D c.args.asked.limit (length L)) (lent_timed B Z c.args.asked.clock) L c.args.asked.clock)

pub run_tables-requires : goal.run_tables-requires
unfolding Reads
run_tables-requires c =
    let r = rw c.in_ok-settled.ensures.ok_part at c.read.ensures in
    ((r.0, r.2), c.requires.1, c.requires.2)

pub returns : goal.returns
unfolding Reads
returns c =
    let B = c.args.model.now in
    let r = rw c.in_ok-settled.ensures.ok_part at c.read.ensures in
    rw (ran-held B c.args.state.now c.args.asked.clock c.args.asked.words.now c.args.asked.waiting.now c.args.asked.limit c.args.events.now r.1) (c.run_tables.ensures r.0 B r.2)
