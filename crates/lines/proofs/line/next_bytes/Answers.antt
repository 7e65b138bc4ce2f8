-- By whether all the bytes are there.
use Rattle.std.proofs.Common.{refl, le-ltb, lt-ltb}
use Rattle.lines.specs.Line.{bytes_next}
use Rattle.lines.proofs.line.next_bytes.Goals as goal

pub returns-then-read-full : goal.returns-then-read-full
unfolding bytes_next
returns-then-read-full c =
    rw (lt-ltb c.args.read c.args.full c.if-read-full.true, c.from.ensures) refl

pub returns : goal.returns
unfolding bytes_next
returns c =
    rw (le-ltb c.args.read c.args.full c.if-read-full.false) refl
