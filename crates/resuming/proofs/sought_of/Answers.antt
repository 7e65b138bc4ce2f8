-- To none, or to the wait whose first token the code tells.
use mathlib.Core.Path.{ap, ◌∙◌}
use Rattle.searching.proofs.Held.{walk-held}
use Rattle.resuming.proofs.Waits.{ways-none, ways-some}
use Rattle.resuming.proofs.sought_of.Goals as goal

pub returns-then-code-eq0 : goal.returns-then-code-eq0
returns-then-code-eq0 c =
    λ m h w. (walk-held c.args.settled c.args.written m h, ways-none m c.args.code c.if-code-eq0.true)

pub word-requires : goal.word-requires
word-requires c =
    (_, c.requires.0.1.spells)

pub returns : goal.returns
returns c =
    λ m h w. (walk-held c.args.settled c.args.written m h, ways-some m c.args.code c.args.waits.now c.word.result.now c.if-code-eq0.false c.requires.1 w (c.word.ensures m.words h.spells ∙ ap m.words c.from-token.ensures))
