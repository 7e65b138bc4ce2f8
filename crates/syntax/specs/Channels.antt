-- What a channel's items after the first and after the second are written as, and the channel that they make (01, Actions; 02, note 7). Assumes nothing: these
-- are definitions.
use Rattle.std.specs.Prelude.{◌≡◌, List, ◌∷◌, ℕ, ◌+◌, ◌<◌, length, Err, Ok}
use Rattle.token.specs.Kind as kind
use Rattle.grammar.specs.Grammar.{Expr, flat_expr}
use Rattle.grammar.specs.Syntax
use Rattle.grammar.specs.Syntax.{wide, expr_at}
use Rattle.tree.specs.Table
use Rattle.tree.specs.Reading.{Span, Read}

-- after the second item, perhaps a third; after the first, perhaps more
pub data Third : Type 0 where
  no_third : Third
  third : Expr → Third

pub data More : Type 0 where
  no_more : More
  more : Expr → Third → More

unfoldable pub flat_third : Third → List ℕ → List ℕ
flat_third no_third ts = ts
flat_third (third e) ts = kind.comma ∷ flat_expr e ts

unfoldable pub flat_more : More → List ℕ → List ℕ
flat_more no_more ts = ts
flat_more (more e r) ts = kind.comma ∷ flat_expr e (flat_third r ts)

-- the channel whose first two items are e and f, with what follows them at token k
unfoldable pub third_at : Syntax.Expr → Syntax.Expr → Third → ℕ → Syntax.Channel
third_at e f no_third k = Syntax.two_items e f
third_at e f (third g) k = Syntax.three_items e f (expr_at g (k + 1))

-- the same with its first item alone
unfoldable pub more_at : Syntax.Expr → More → ℕ → Syntax.Channel
more_at e no_more k = Syntax.one_item e
more_at e (more f r) k = third_at e (expr_at f (k + 1)) r (k + 1 + wide (flat_expr f))

-- perhaps a third item was read, after two with their roots at `left` and mid, and the channel's node written; the comma between these pays for it
pub record Itemised (ts t t' : List ℕ) (at left mid n root : ℕ) : Type 0 where
  pub tree : Third
  pub span : Span (flat_third tree) ts t t' at (mid + 1) n root
  pub shown : root < length t' → (e f : Syntax.Expr) (lo : ℕ) → Table.Expr t e lo left → Table.Expr t f (left + 1) mid → Table.Channel t' (third_at e f tree at) lo root

unfoldable pub Items : List ℕ → List ℕ → List ℕ → ℕ → ℕ → ℕ → Read → Type 0
Items ts t t' at left mid (Ok (n, root)) = Itemised ts t t' at left mid n root
Items ts t t' at left mid (Err k) = length t' ≡ length t
