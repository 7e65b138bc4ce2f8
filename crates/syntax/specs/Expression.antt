-- What the readers of `abs`, `max`, `min` and brackets read (01, Expression). Assumes nothing: these are definitions.
use Rattle.std.specs.Prelude.{List, ◌∷◌, ℕ, ◌+◌}
use Rattle.token.specs.Kind as kind
use Rattle.grammar.specs.Grammar.{Expr, flat_expr}
use Rattle.grammar.specs.Syntax.{wide, expr_at}
use Rattle.tree.specs.Table

-- an expression and the `)` after it
unfoldable pub closed : Expr → List ℕ → List ℕ
closed e ts = flat_expr e (kind.close_round ∷ ts)

-- one in brackets, as after `abs`
unfoldable pub enclosed : Expr → List ℕ → List ℕ
enclosed e ts = kind.open_round ∷ closed e ts

-- two in brackets, as after `max` and `min`
unfoldable pub enclosed_two : Expr × Expr → List ℕ → List ℕ
enclosed_two p ts = kind.open_round ∷ flat_expr p.0 (kind.comma ∷ closed p.1 ts)

-- two in brackets that start at token k, and a node of this kind over them
unfoldable pub HoldsTwo : ℕ → ℕ → List ℕ → Expr × Expr → ℕ → ℕ → Type 0
HoldsTwo op k t p = Table.Two t op 0 0 (Table.Expr t (expr_at p.0 (k + 1))) (Table.Expr t (expr_at p.1 (k + 1 + wide (flat_expr p.0) + 1)))
