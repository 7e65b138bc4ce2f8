-- The first offender (profile: Unsteady) among the nodes of the reader's table, one node after the other. Assumes nothing: these are definitions.
use Rattle.std.specs.Prelude.{List, Bool, cond, ◌||◌, ℕ, zero, suc, ◌+◌, ◌-◌, eqb, get_or, None}
use Rattle.token.specs.Questions.{Found}
use Rattle.tree.specs.Node as node
use Rattle.tree.specs.Node.{kind_of, token_of}
use Rattle.model.specs.Lists.{when, least}
use Rattle.names.specs.Faults.{earlier_of}

-- s: whether the definition of a name has more than one sum; t: the table of nodes
module _ (s : ℕ → Bool) (t : List ℕ) where
  -- node i, if it offends: a group, whose items' root is the node before it, or a call
  unfoldable pub offender_at : ℕ → Found
  offender_at i =
      cond (eqb (kind_of (get_or t i 0)) node.group)
      (least (when (eqb (kind_of (get_or t (i - 1) 0)) node.item) (token_of (get_or t i 0))))
      (cond (eqb (kind_of (get_or t i 0)) node.call || eqb (kind_of (get_or t i 0)) node.call_with) (least (when (s (token_of (get_or t i 0))) (token_of (get_or t i 0)))) None)

  -- the first of the n nodes from i on
  unfoldable pub first_from : ℕ → ℕ → Found
  first_from i zero = None
  first_from i (suc n) = earlier_of (offender_at i) (first_from (i + 1) n)
