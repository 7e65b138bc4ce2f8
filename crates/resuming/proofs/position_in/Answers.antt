-- The entries, if they are in range, beside the numbers before them.
use mathlib.Core.Path.{sym, ap, ◌∙◌}
use Rattle.resuming.specs.Standing.{placed}
use Rattle.resuming.proofs.position_in.Goals as goal

pub returns-in_err-entries : goal.returns-in_err-entries
unfolding placed
returns-in_err-entries c =
    c.from_residual.ensures ∙ sym (ap (placed c.args.search.now) (sym c.entries_in.ensures ∙ c.in_err-entries.was))

pub returns : goal.returns
unfolding placed
returns c =
    rw (c.number_at.ensures, c.number_at-2.ensures, c.is_zero_at.ensures) (sym (ap (placed c.args.search.now) (sym c.entries_in.ensures ∙ c.in_ok-entries.was)))
