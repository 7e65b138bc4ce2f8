-- The run is counted from the byte on.
use Rattle.std.proofs.Common.{arith, drop, length-drop}
use Rattle.token.specs.Bytes.{run_class}
use Rattle.token.proofs.Runs.{run-rest, lead-le}
use Rattle.token.proofs.run_end.Goals as goal

pub overflow_add-result : goal.overflow_add-result
overflow_add-result c =
    omega (arith, run-rest (run_class c.args.run) c.args.from c.args.s.now c.run_of.result c.run_of.ensures, lead-le (run_class c.args.run) (drop c.args.from c.args.s.now), length-drop c.args.from c.args.s.now, c.requires)

pub returns : goal.returns
returns c =
    omega (arith, run-rest (run_class c.args.run) c.args.from c.args.s.now c.run_of.result c.run_of.ensures)
