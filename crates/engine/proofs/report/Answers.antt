-- The report as it answers C.
use Rattle.engine.proofs.report.Goals as goal

pub returns : goal.returns
returns c = rw c.from.ensures c.ask.ensures
