-- The next byte of the word, or not.
use Rattle.std.proofs.Common.{sym, ◌∙◌}
use Rattle.lines.proofs.Twos.{word-at, word_on, word-off, word-past}
use Rattle.lines.proofs.two.in_word.Goals as goal
use Rattle.lines.proofs.two.in_word.Goals.{else-n-lt7-via-then-n-lt7+else-n-b, else-n-lt7-via-else-n-lt7}

pub returns-then-n-b : goal.returns-then-n-b
returns-then-n-b c = word_on c.args.n c.args.b c.if-n-lt7.true (sym c.if-n-b.true ∙ word-at c.args.n c.if-n-lt7.true)

pub returns : goal.returns
returns c =
    elim c.else-n-lt7.branch [
      | else-n-lt7-via-then-n-lt7+else-n-b w ↦ word-off c.args.n c.args.b w.if-n-lt7.true (λ e. w.if-n-b.false (word-at c.args.n w.if-n-lt7.true ∙ sym e))
      | else-n-lt7-via-else-n-lt7 w ↦ word-past c.args.n c.args.b w.if-n-lt7.false
    ]
