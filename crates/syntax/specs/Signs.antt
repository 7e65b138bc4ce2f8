-- The signs between the parts of an expression, a set or a relation, each with the kind of the node that it makes. Assumes nothing: these are definitions.
use Rattle.std.specs.Prelude.{List, [], ◌∷◌, cond, ℕ, eqb, Option, Some, None}
use Rattle.token.specs.Kind as kind
use Rattle.grammar.specs.Grammar.{less, at_most, greater, at_least, same, differs}
use Rattle.grammar.specs.Syntax.{plus, minus, times, divide, without, union, inter}
use Rattle.tree.specs.Node.{op_kind, join_kind, relation_kind}

-- 01, Expression: `+ -`
abbrev pub sum_signs : List (ℕ × ℕ)
sum_signs = (kind.plus, op_kind plus) ∷ (kind.minus, op_kind minus) ∷ []

-- 01, Expression: `* /`
abbrev pub product_signs : List (ℕ × ℕ)
product_signs = (kind.times, op_kind times) ∷ (kind.divide, op_kind divide) ∷ []

-- 01, Set: `\`, `union`, `inter`
abbrev pub join_signs : List (ℕ × ℕ)
join_signs = (kind.backslash, join_kind without) ∷ (kind.union, join_kind union) ∷ (kind.intersection, join_kind inter) ∷ []

-- 01, Condition: `< <= > >= == !=`
abbrev pub relation_signs : List (ℕ × ℕ)
relation_signs =
    (kind.less, relation_kind less) ∷
    (kind.at_most, relation_kind at_most) ∷
    (kind.greater, relation_kind greater) ∷
    (kind.at_least, relation_kind at_least) ∷
    (kind.same, relation_kind same) ∷
    (kind.differs, relation_kind differs) ∷ []

-- the kind of the node that the token t makes, if it is one of the signs
unfoldable pub sign_kind : List (ℕ × ℕ) → ℕ → Option ℕ
sign_kind [] t = None
sign_kind (s ∷ more) t = cond (eqb t s.0) (Some s.1) (sign_kind more t)
