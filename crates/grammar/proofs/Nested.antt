-- How operators nest, by computation, one to a row: `+ -` below `* /`, `|` below `&`, each left to right (01, Model text). A row gives the tokens of an expression, a set or a
-- condition, the tree that is written so, and the syntax tree that it has, whose leaves are numbered by their tokens.
use mathlib.Core.Path.{◌≡◌, refl}
use mathlib.Core.List.{[], ◌∷◌}
use mathlib.Core.Bool.{true, false}
use Prim.Native.Nat.{ℕ}
use Rattle.token.specs.Kind as kind
use Rattle.grammar.specs.Grammar as derived
use Rattle.grammar.specs.Grammar.{less, flat_whole, flat_expr, flat_terms, flat_term, flat_factors, flat_atom, flat_part, flat_parts, flat_set, relation_kind, flat_test, flat_ands, flat_ors, flat_cond}
use Rattle.grammar.specs.Syntax
use Rattle.grammar.specs.Syntax.{wide, literal_at, expr_at, terms_at, term_at, factors_at, atom_at, part_at, parts_at, set_at, test_at, ands_at, conjunction_at, ors_at, cond_at}

-- one name, as a term and as an expression
abbrev term : derived.Term
term = derived.product derived.name derived.no_factors

abbrev expr : derived.Expr
expr = derived.sum term derived.no_terms

-- a-b*c/d-e
abbrev difference : derived.Expr
difference = derived.sum term (derived.minus (derived.product derived.name (derived.times derived.name (derived.divide derived.name derived.no_factors))) (derived.minus term derived.no_terms))

-- a..b\c union d inter e
abbrev joined : derived.Set
joined = derived.set (derived.range expr expr) (derived.without (derived.single expr) (derived.union (derived.single expr) (derived.inter (derived.single expr) derived.no_parts)))

-- a<b
abbrev test : derived.Test
test = derived.holds expr less expr

-- a<b|c<d&~e<f|g<h
abbrev condition : derived.Cond
condition = derived.cond test derived.no_ands (derived.either test (derived.both (derived.fails expr less expr) derived.no_ands) (derived.either test derived.no_ands derived.no_ors))

-- token i is compared with token j
abbrev compared : ℕ → ℕ → Syntax.Cond
compared i j = Syntax.compare false less (Syntax.named i) (Syntax.named j)

pub rows :
    (flat_expr difference [] ≡ kind.name ∷ kind.minus ∷ kind.name ∷ kind.times ∷ kind.name ∷ kind.divide ∷ kind.name ∷ kind.minus ∷ kind.name ∷ [])
    × (expr_at difference 0
    ≡ Syntax.binary Syntax.minus (Syntax.binary Syntax.minus (Syntax.named 0) (Syntax.binary Syntax.divide (Syntax.binary Syntax.times (Syntax.named 2) (Syntax.named 4)) (Syntax.named 6))) (Syntax.named 8))
    × (flat_set joined [] ≡ kind.name ∷ kind.range ∷ kind.name ∷ kind.backslash ∷ kind.name ∷ kind.union ∷ kind.name ∷ kind.intersection ∷ kind.name ∷ [])
    × (set_at joined 0
    ≡ Syntax.joined Syntax.inter (Syntax.joined Syntax.union (Syntax.joined Syntax.without (Syntax.range (Syntax.named 0) (Syntax.named 2)) (Syntax.single (Syntax.named 4))) (Syntax.single (Syntax.named 6))) (Syntax.single (Syntax.named 8)))
    × (flat_cond condition []
    ≡ kind.name ∷ kind.less ∷ kind.name ∷ kind.bar ∷ kind.name ∷ kind.less ∷ kind.name ∷ kind.ampersand ∷ kind.tilde ∷ kind.name ∷ kind.less ∷ kind.name ∷ kind.bar ∷ kind.name ∷ kind.less ∷ kind.name ∷ [])
    × (cond_at condition 0
    ≡ Syntax.either (Syntax.either (compared 0 2) (Syntax.both (compared 4 6) (Syntax.compare true less (Syntax.named 9) (Syntax.named 11)))) (compared 13 15))
unfolding
    flat_whole flat_expr flat_terms flat_term flat_factors flat_atom flat_part flat_parts flat_set relation_kind flat_test flat_ands flat_ors flat_cond
    wide literal_at expr_at terms_at term_at factors_at atom_at part_at parts_at set_at test_at ands_at conjunction_at ors_at cond_at
rows = (refl, refl, refl, refl, refl, refl)
