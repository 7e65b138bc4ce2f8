-- What the readers of relations and of what `&` joins read (01, Condition). Assumes nothing: these are definitions.
use Rattle.std.specs.Prelude.{List, ◌∷◌, ℕ, ◌+◌}
use Rattle.grammar.specs.Grammar.{Expr, Relation, Test, Ands, relation_kind, flat_expr, flat_test, flat_ands}
use Rattle.grammar.specs.Syntax.{wide, expr_at}
use Rattle.tree.specs.Node as node
use Rattle.tree.specs.Table

-- what is added to a relation's kind after `~`
abbrev pub turned : ℕ
turned = 6

-- a relation between two expressions
unfoldable pub flat_related : Expr × Relation × Expr → List ℕ → List ℕ
flat_related p ts = flat_expr p.0 (relation_kind p.1 ∷ flat_expr p.2 ts)

-- one that starts at token k, and its node, with `more` added to the relation's kind
unfoldable pub HoldsRelated : ℕ → ℕ → List ℕ → Expr × Relation × Expr → ℕ → ℕ → Type 0
HoldsRelated more k t p = Table.Two t (node.relation_kind p.1 + more) 0 0 (Table.Expr t (expr_at p.0 k)) (Table.Expr t (expr_at p.2 (k + wide (flat_expr p.0) + 1)))

-- a test and those that `&` joins to it
unfoldable pub flat_conjunction : Test × Ands → List ℕ → List ℕ
flat_conjunction p ts = flat_test p.0 (flat_ands p.1 ts)
