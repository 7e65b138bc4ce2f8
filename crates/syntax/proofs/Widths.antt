-- How many tokens perhaps a third item takes, and an action with its comma. From the widths of the grammar's trees.
use mathlib.Core.List.{List, ◌∷◌}
use Prim.Native.Nat.{ℕ, ◌+◌}
use Rattle.token.specs.Kind as kind
use Rattle.grammar.specs.Grammar.{Atom, Action, Rate, flat_atom, flat_action, flat_rate}
use Rattle.grammar.specs.Syntax.{wide}
use Rattle.grammar.proofs.Prepends.{Prepends, none, one, ◌then◌, part}
use Rattle.grammar.proofs.Wide.{wide-expr, wide-atom, wide-rate, wide-action}
use Rattle.syntax.specs.Channels.{Third, no_third, third, flat_third}
use Rattle.syntax.specs.Braces.{flat_closed, flat_rated, flat_inside}

pub wide-third : (i : Third) → Prepends (flat_third i) (wide (flat_third i))
unfolding flat_third
wide-third no_third = part none
wide-third (third e) = part (one kind.comma then wide-expr e)

-- action, comma, rate and `}`
pub wide-inside : (a : Action) (r : Rate) → Prepends (flat_inside a r) (wide (flat_action a) + (1 + (wide (flat_rate r) + 1)))
unfolding flat_inside flat_rated flat_closed
wide-inside a r = part (wide-action a) then (one kind.comma then (part (wide-rate r) then one kind.close_curly))

-- a name, a comma and what f writes
pub wide-begun : {f : List ℕ → List ℕ} {n : ℕ} → Prepends f n → Prepends (λ us. kind.name ∷ kind.comma ∷ f us) (1 + (1 + wide f))
wide-begun p = one kind.name then (one kind.comma then part p)

-- two atoms that are multiplied
pub wide-times : (a b : Atom) → Prepends (λ us. flat_atom a (kind.times ∷ flat_atom b us)) (wide (flat_atom a) + (1 + wide (flat_atom b)))
wide-times a b = part (wide-atom a) then (one kind.times then part (wide-atom b))
