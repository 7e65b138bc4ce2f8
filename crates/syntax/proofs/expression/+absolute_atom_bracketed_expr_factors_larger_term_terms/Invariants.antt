-- The readers of expressions meet their contracts: a case for each of their returns, from Expressions.antt; at each call fewer tokens are left, or as many
-- and the callee is of a lower rank.
use Prim.Native.Nat.{◌+◌, ◌-◌, ◌*◌}
use lib.ListN.{length}
use Rattle.syntax.proofs.expression.+absolute_atom_bracketed_expr_factors_larger_term_terms.Given as goal

abbrev pub decreases-absolute : goal.decreases-absolute
decreases-absolute l = 4 * (length l.toks.now - l.at) + 0

abbrev pub decreases-atom : goal.decreases-atom
decreases-atom l = 4 * (length l.toks.now - l.at) + 0

abbrev pub decreases-bracketed : goal.decreases-bracketed
decreases-bracketed l = 4 * (length l.toks.now - l.at) + 3

abbrev pub decreases-expr : goal.decreases-expr
decreases-expr l = 4 * (length l.toks.now - l.at) + 2

abbrev pub decreases-factors : goal.decreases-factors
decreases-factors l = 4 * (length l.toks.now - l.at) + 0

abbrev pub decreases-larger : goal.decreases-larger
decreases-larger l = 4 * (length l.toks.now - l.at) + 0

abbrev pub decreases-term : goal.decreases-term
decreases-term l = 4 * (length l.toks.now - l.at) + 1

abbrev pub decreases-terms : goal.decreases-terms
decreases-terms l = 4 * (length l.toks.now - l.at) + 0
