-- Both tests, of the entries and of the rest.
use mathlib.Core.Path.{sym, ap, ◌∙◌}
use Rattle.state.specs.Test.{every, is_zero}
use Rattle.state.proofs.Part.{tail-part}
use Rattle.underway.proofs.Head.{entries-fail, entries-rest}
use Rattle.underway.proofs.is_entries.Goals as goal

pub returns-else-all_natural : goal.returns-else-all_natural
returns-else-all_natural c =
    c.if-all_natural.false ∙ sym (entries-fail c.args.n c.args.run.now (sym c.all_natural.ensures ∙ c.if-all_natural.false))

pub returns-then-all_natural : goal.returns-then-all_natural
returns-then-all_natural c =
    c.all_zero.ensures ∙ ap (every is_zero) (tail-part c.args.n c.args.run.now) ∙ sym (entries-rest c.args.n c.args.run.now (sym c.all_natural.ensures ∙ c.if-all_natural.true))
