-- The product and the sum are told where they fit.
use Rattle.std.proofs.Common.{◌∙◌}
use Rattle.lines.proofs.OneByte.{grown-large, grown-is}
use Rattle.lines.proofs.bytes.grow.Goals as goal

pub returns-in_err-checked_mul : goal.returns-in_err-checked_mul
returns-in_err-checked_mul c = c.from_residual.ensures ∙ grown-large c.args.v c.args.d c.in_err-checked_mul.ensures

pub returns : goal.returns
returns c = grown-is c.args.v c.args.d _ _ c.in_ok-checked_mul.ensures.1 c.checked_add.ensures
