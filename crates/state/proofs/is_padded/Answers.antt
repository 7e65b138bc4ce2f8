-- Both tests, of the first numbers and of the rest.
use mathlib.Core.Path.{sym, ap, ◌∙◌}
use native.Mathlib.Omega.{arith}
use lib.ListN.{length-take}
use Rattle.state.specs.Test.{every, is_zero}
use Rattle.state.proofs.Tests.{padded-fails, padded-rest}
use Rattle.state.proofs.Part.{tail-part}
use Rattle.state.proofs.is_padded.Goals as goal

pub slice_bounds-all_values-end : goal.slice_bounds-all_values-end
slice_bounds-all_values-end c = simp length-take (omega arith)

pub returns-else-all_values : goal.returns-else-all_values
returns-else-all_values c =
    c.if-all_values.false ∙ sym (padded-fails c.args.count c.args.s.now (sym c.all_values.ensures ∙ c.if-all_values.false))

pub returns-then-all_values : goal.returns-then-all_values
returns-then-all_values c =
    c.all_zero.ensures ∙ ap (every is_zero) (tail-part c.args.count c.args.s.now) ∙ sym (padded-rest c.args.count c.args.s.now (sym c.all_values.ensures ∙ c.if-all_values.true))
