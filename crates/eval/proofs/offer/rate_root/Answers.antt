-- `eval::offer::rate_root` meets its contract. By the test.
use mathlib.Core.Path.{sym, ◌∙◌}
use borrow.Author.Tests.{eq-eqb, ne_eqb}
use Rattle.eval.specs.Shown.{rate_root}
use Rattle.eval.proofs.offer.rate_root.Goals as goal

pub returns-then-kind_of-eq-STOP : goal.returns-then-kind_of-eq-STOP
unfolding rate_root
returns-then-kind_of-eq-STOP c =
    rw (eq-eqb _ _ (sym c.kind_of.ensures ∙ c.if-kind_of-eq-STOP.true))

pub returns : goal.returns
unfolding rate_root
returns c =
    rw (ne_eqb _ _ (λ e. c.if-kind_of-eq-STOP.false (c.kind_of.ensures ∙ e))) c.third_of.ensures
