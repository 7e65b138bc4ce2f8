-- Rates as the answers of functions. Assumes nothing: these are definitions.
use Rattle.std.specs.Prelude.{List, ℕ, ℤ, Some, None}
use Rattle.std.specs.Prelude.{Option as RustOption}
use Rattle.std.proofs.Math.Option.{Option, none, some}
use Rattle.model.specs.Resolved
use Rattle.machine.specs.Evaluate.{eval_scale, eval_rate}

-- 01, Values: a rate in ten-thousandths, or no value
abbrev pub Rate : Type 0
Rate = RustOption ℕ

unfoldable pub rate_of : Option ℕ → Rate
rate_of (some n) = Some n
rate_of none = None

-- 01, Values: a rate's scale
unfoldable pub scale_answer : List ℤ → Resolved.Scale → Rate
scale_answer ls s = rate_of (eval_scale ls s)

-- 01, Values: a rate
unfoldable pub rate_answer : List ℤ → Resolved.Rate → Rate
rate_answer ls r = rate_of (eval_rate ls r)
