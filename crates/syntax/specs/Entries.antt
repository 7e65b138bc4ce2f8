-- An entry of an action's square brackets: a value or a set (01, Actions). What is read of one, what it is written as and what the table holds of it; and the
-- same of the brackets with one or two of them. Assumes nothing: these are definitions.
use Rattle.std.specs.Prelude.{List, [], ◌∷◌, ◌++◌, ℕ}
use Rattle.token.specs.Kind as kind
use Rattle.grammar.specs.Grammar
use Rattle.grammar.specs.Grammar.{flat_expr, flat_set, flat_values, flat_sets}
use Rattle.grammar.specs.Machine.{Sym, Want, SecondValue, SecondSet, an_expr, a_set}
use Rattle.grammar.specs.Syntax.{expr_at, set_at, values_at, sets_at}
use Rattle.tree.specs.Table

-- which of the two
pub data Entry : Type 0 where
  value set : Entry

-- its trees, and those of the brackets
abbrev pub Single : Entry → Type 0
Single value = Grammar.Expr
Single set = Grammar.Set

abbrev pub Bracketed : Entry → Type 0
Bracketed value = Grammar.Values
Bracketed set = Grammar.Sets

-- what the machine reads as one; perhaps a second; and the brackets
abbrev pub an_entry : Entry → List Sym
an_entry value = an_expr
an_entry set = a_set

abbrev pub second : Entry → Sym
second value = SecondValue
second set = SecondSet

abbrev pub the_entries : Entry → List Sym
the_entries e = Want kind.open_square ∷ an_entry e ++ second e ∷ Want kind.close_square ∷ []

-- what they are written as
abbrev pub flat_entry : (e : Entry) → Single e → List ℕ → List ℕ
flat_entry value = flat_expr
flat_entry set = flat_set

abbrev pub flat_entries : (e : Entry) → Bracketed e → List ℕ → List ℕ
flat_entries value = flat_values
flat_entries set = flat_sets

-- what the table holds of one that starts at a token, and of brackets
abbrev pub Holds : (e : Entry) → List ℕ → Single e → ℕ → ℕ → ℕ → Type 0
Holds value t v at = Table.Expr t (expr_at v at)
Holds set t s at = Table.Set t (set_at s at)

abbrev pub HoldsAll : (e : Entry) → List ℕ → Bracketed e → ℕ → ℕ → ℕ → Type 0
HoldsAll value t v at = Table.Values t (values_at v at)
HoldsAll set t s at = Table.Sets t (sets_at s at)
