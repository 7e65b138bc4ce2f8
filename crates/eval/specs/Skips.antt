-- When the left side of two decides, so that the right side is not asked. Assumes nothing: these are definitions.
use Rattle.std.specs.Prelude.{Bool, true, false, cond, not, ℕ, eqb, Some, None, Option}
use Rattle.tree.specs.Node.{join_kind, both, either}
use Rattle.grammar.specs.Syntax.{union}

-- 01, Model text, sets: being in the left set decides a union, not being in it decides the others
unfoldable pub settles : ℕ → Bool → Bool
settles kind p = cond (eqb kind (join_kind union)) p (not p)

-- 01, Values: `&` and `|` skip their right side when the left decides, or has no value
unfoldable pub skips : ℕ → Option Bool → Bool
skips kind (Some true) = eqb kind either
skips kind (Some false) = eqb kind both
skips kind None = true
