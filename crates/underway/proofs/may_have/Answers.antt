-- By whether the count is 0, on its bits.
use mathlib.Core.Path.{sym, ap, ◌∙◌}
use mathlib.Core.Bool.{not}
use borrow.Author.Tests.{eq-eqb, ne_eqb}
use Rattle.state.proofs.Tests.{zero_bits}
use Rattle.underway.proofs.Head.{some_may, none_may}
use Rattle.underway.proofs.may_have.Goals as goal

pub returns-then-count-ne0 : goal.returns-then-count-ne0
returns-then-count-ne0 c =
    let e = ne_eqb _ 0 c.if-count-ne0.true in ap not e ∙ sym (some_may c.args.count c.args.entries (zero_bits c.args.count c.ranges.count ∙ e))

pub returns-else-count-ne0 : goal.returns-else-count-ne0
returns-else-count-ne0 c =
    sym (zero_bits c.args.entries c.ranges.entries) ∙ sym (none_may c.args.count c.args.entries (zero_bits c.args.count c.ranges.count ∙ eq-eqb _ 0 c.if-count-ne0.false))
