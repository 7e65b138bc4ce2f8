-- By whether the bytes before it are read.
use Rattle.std.proofs.Common.{refl, le-ltb, lt-ltb}
use Rattle.lines.specs.Line.{rest_next}
use Rattle.lines.proofs.line.next_rest.Goals as goal

pub returns-then-read-least : goal.returns-then-read-least
returns-then-read-least c = rw (lt-ltb c.args.read c.args.least c.if-read-least.true) refl

pub returns : goal.returns
unfolding rest_next
returns c = rw (le-ltb c.args.read c.args.least c.if-read-least.false) c.with_byte.ensures
