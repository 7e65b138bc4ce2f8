-- What the functions answer that read definitions, the system line's items and their lists (01, Model). Assumes nothing: these are definitions.
use Rattle.std.specs.Prelude.{◌≡◌, List, [], ◌∷◌, ◌++◌, Bool, ◌&&◌, ◌||◌, ℕ, ◌+◌, ◌≤◌, ◌<◌, eqb, length, get_or, drop, Err, Ok}
use Rattle.tree.specs.Reading.{Read}
use Rattle.token.specs.Kind as kind
use Rattle.grammar.specs.Grammar.{Body, Params, no_params, params, Wholes, flat_params, flat_wholes, flat_body}
use Rattle.grammar.specs.Machine.{Sym, Want, Params', a_body}
use Rattle.grammar.specs.Syntax
use Rattle.grammar.specs.Syntax.{wide, count_names, params_at, body_at, sums_body}
use Rattle.tree.specs.Table

-- 01, Model: a definition starts at token k, and not the system line: a name, `[`, and then a name, or `]` and `=`
unfoldable pub defining : List ℕ → ℕ → Bool
defining ts k =
    eqb (get_or ts k 0) kind.name
    && eqb (get_or ts (k + 1) 0) kind.open_square
    && (eqb (get_or ts (k + 2) 0) kind.name || (eqb (get_or ts (k + 2) 0) kind.close_square && eqb (get_or ts (k + 3) 0) kind.equals))

-- 01, Model: a definition after its name and `[`
abbrev pub in_definition : List Sym
in_definition = Params' ∷ Want kind.close_square ∷ Want kind.equals ∷ a_body ++ Want kind.semicolon ∷ []

-- 01, Model: how many parameters a definition has
unfoldable pub count_params : Params → ℕ
count_params no_params = 0
count_params (params n) = count_names n

-- 01, Model: the tokens from `at` to n are `count` parameters and the `]` after them; a `[` stands before
pub record Given (ts : List ℕ) (at n count : ℕ) : Type 0 where
  pub tree : Params
  pub text : kind.open_square ∷ drop at ts ≡ flat_params tree (drop n ts)
  pub counted : count ≡ count_params tree
  pub fewer : count + at < n
  pub within : n ≤ length ts

unfoldable pub Parameters : List ℕ → ℕ → Read → Type 0
Parameters ts at (Ok (n, count)) = Given ts at n count
Parameters ts at (Err k) = Unit {0}

-- a definition after its name, with its `;`
unfoldable pub written_definition : Params × Body → List ℕ → List ℕ
written_definition d ts = flat_params d.0 (kind.equals ∷ flat_body d.1 (kind.semicolon ∷ ts))

-- how many sums it has
unfoldable pub count_definition : Params × Body → ℕ
count_definition d = sums_body d.1

-- the table holds the definition that is named at token k, its sums numbered from n on
unfoldable pub Definition : List ℕ → Params × Body → ℕ → ℕ → ℕ → ℕ → Type 0
Definition t d k n = Table.Definition t k (params_at d.0 (k + 1)) (body_at d.1 (k + 1 + wide (flat_params d.0) + 1) n)

-- whole numbers and the `]` after them
unfoldable pub written_wholes : Wholes → List ℕ → List ℕ
written_wholes w ts = flat_wholes w (kind.close_square ∷ ts)

-- the table holds a system item, named at token n: a node of this kind if it has no values, else one of the next
unfoldable pub Started : List ℕ → ℕ → ℕ → Syntax.Starts → ℕ → ℕ → Type 0
Started t kind n Syntax.no_starts = Table.Leaf t kind n
Started t kind n (Syntax.starts w) = Table.One t (kind + 1) n (Table.count_wholes w) (Table.Wholes t w)
