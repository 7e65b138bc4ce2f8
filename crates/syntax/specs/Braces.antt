-- What action and rate in their braces are written as, after the `{`, and what their readers answer (01, Guarded prefix; 02, note 7). Assumes nothing: these
-- are definitions.
use Rattle.std.specs.Prelude.{◌≡◌, List, ◌∷◌, ℕ, ◌+◌, ◌<◌, ◌≤◌, length, drop, Err, Ok}
use Rattle.token.specs.Kind as kind
use Rattle.grammar.specs.Grammar.{Factors, Terms, Atom, Scale, Action, Rate, flat_factors, flat_terms, flat_atom, flat_scale, flat_action, flat_rate}
use Rattle.grammar.specs.Syntax
use Rattle.grammar.specs.Syntax.{wide, factors_at, terms_at, atom_at, scale_at, rate_at, action_at}
use Rattle.tree.specs.Table
use Rattle.tree.specs.Reading.{Span, Tallied, Counted}
use Rattle.syntax.specs.Actions.{Deed, flat_deed, deed_at}
use Rattle.syntax.specs.Channels.{Third, flat_third, third_at}
use Rattle.syntax.specs.Processes.{Spare}

-- a rate and the `}` after it; the same with the comma before it; an action before that
unfoldable pub flat_closed : Rate → List ℕ → List ℕ
flat_closed r ts = flat_rate r (kind.close_curly ∷ ts)

unfoldable pub flat_rated : Rate → List ℕ → List ℕ
flat_rated r ts = kind.comma ∷ flat_closed r ts

unfoldable pub flat_inside : Action → Rate → List ℕ → List ℕ
flat_inside a r ts = flat_action a (flat_rated r ts)

-- after an action that was read, with its root at `left`: the answers of the reader of its rate, which gives that root back
abbrev pub Rating : List ℕ → List ℕ → List ℕ → ℕ → ℕ → Counted → Type 0
Rating ts t t' at left = Tallied flat_rated (λ v. 0) (λ s v. Table.Rate s (rate_at v (at + 1))) ts t t' at (left + 1) left

-- action and rate were read, with their roots at `left` and root: with the comma and the `}`, there are two tokens more than nodes
pub record Inner (ts t t' : List ℕ) (at used n root left : ℕ) : Type 0 where
  pub action : Action
  pub rate : Rate
  pub span : Span (flat_inside action rate) ts t t' at used n (root + 1)
  pub spare : root + 1 + at + 1 < used + n
  pub below : left ≤ root
  pub acts : left < length t' → Table.Action t' (action_at action at) used left
  pub rates : root < length t' → Table.Rate t' (rate_at rate (at + wide (flat_action action) + 1)) (left + 1) root

unfoldable pub Inside : List ℕ → List ℕ → List ℕ → ℕ → ℕ → Counted → Type 0
Inside ts t t' at used (Ok (n, root, left)) = Inner ts t t' at used n root left
Inside ts t t' at used (Err k) = length t' ≡ length t

-- what is done on a channel was read, after its first two items, with their roots at `first` and mid; the comma between these pays for the channel's node
pub record Done (ts t t' : List ℕ) (at first mid n left : ℕ) : Type 0 where
  pub items : Third
  pub deed : Deed
  pub span : Span (λ us. flat_third items (flat_deed deed us)) ts t t' at (mid + 1) n left
  pub shown : left < length t' → (e f : Syntax.Expr) (lo : ℕ) → Table.Expr t e lo first → Table.Expr t f (first + 1) mid → Table.Action t' (deed_at (third_at e f items at) deed (at + wide (flat_third items))) lo left

-- and then its rate
pub record Seconded (ts t t' : List ℕ) (at first mid : ℕ) (r : Counted) : Type 0 where
  pub table : List ℕ
  pub comma : ℕ
  pub left : ℕ
  pub done : Done ts t table at first mid comma left
  pub rated : Rating ts table t' comma left r
  pub spare : Spare (comma + 1) (left + 1) left r

unfoldable pub Seconds : List ℕ → List ℕ → List ℕ → ℕ → ℕ → ℕ → Counted → Type 0
Seconds ts t t' at first mid (Ok (n, root, left)) = Seconded ts t t' at first mid (Ok (n, root, left))
Seconds ts t t' at first mid (Err k) = length t' ≡ length t

-- an item after its first atom
unfoldable pub flat_rest : Factors × Terms → List ℕ → List ℕ
flat_rest p ts = flat_factors p.0 (flat_terms p.1 ts)

unfoldable pub rest_at : Syntax.Expr → Factors × Terms → ℕ → Syntax.Expr
rest_at x p k = terms_at (factors_at x p.0 k) p.1 (k + wide (flat_factors p.0))

-- the tokens from k to `digits` are a rate's number or name and an item's as well: a node of the one kind or of the other
pub record Either (ts : List ℕ) (k digits rate item : ℕ) : Type 0 where
  pub scale : Scale
  pub atom : Atom
  pub scales : drop k ts ≡ flat_scale scale (drop (digits + 1) ts)
  pub atoms : drop k ts ≡ flat_atom atom (drop (digits + 1) ts)
  pub onward : k < digits + 1
  pub within : digits < length ts
  pub as-scale : (t : List ℕ) (lo i : ℕ) → Table.Leaf t rate digits lo i → Table.Scale t (scale_at scale k) lo i
  pub as-item : (t : List ℕ) (lo i : ℕ) → Table.Leaf t item digits lo i → Table.Expr t (atom_at atom k) lo i
