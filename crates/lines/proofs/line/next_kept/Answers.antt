-- By whether there is room.
use Rattle.std.proofs.Common.{refl, le-ltb, lt-ltb}
use Rattle.lines.specs.Line.{kept_limit, kept_next}
use Rattle.lines.proofs.line.next_kept.Goals as goal

pub returns-then-kept-lt-KEPT : goal.returns-then-kept-lt-KEPT
unfolding kept_next
returns-then-kept-lt-KEPT c = rw (lt-ltb c.args.kept kept_limit c.if-kept-lt-KEPT.true) refl

pub returns-else-kept-lt-KEPT : goal.returns-else-kept-lt-KEPT
unfolding kept_next
returns-else-kept-lt-KEPT c = rw (le-ltb c.args.kept kept_limit c.if-kept-lt-KEPT.false) refl
