-- Where a syntax tree says that a variable, a definition, a parameter or an item of the system line stands, the text has it (01, Model text). ts: the kinds of
-- the text's tokens. proofs/Lines.antt shows it of every text that fits. Assumes nothing: these are definitions.
use Rattle.std.specs.Prelude.{◌≡◌, ℕ, ◌+◌, drop}
use mathlib.Core.List.{List, ◌∷◌, Memᴰ as In}
use Rattle.std.proofs.Math.Option.{some}
use Rattle.std.proofs.Math.ListN.{get_elem?}
use Rattle.token.specs.Kind as kind
use Rattle.grammar.specs.Grammar as derived
use Rattle.grammar.specs.Grammar.{flat_number, flat_starts, flat_definition}
use Rattle.grammar.specs.Syntax
use Rattle.grammar.specs.Syntax.{number_at, params_at, body_at, starts_at, wide}
use Rattle.model.specs.Sites.{Variable, Definition, params_of, variables, definitions, starts}

module _ (ts : List ℕ) where
  -- 01, Model: `name = number;` from the variable's name on, and the number is the one written there
  pub record VariableAt (v : Variable) : Type 0 where
    pub number : derived.Number
    pub more : List ℕ
    pub text : drop v.name ts ≡ kind.name ∷ kind.equals ∷ flat_number number (kind.semicolon ∷ more)
    pub tree : v.number ≡ number_at number (v.name + 2)

  -- 01, Model: `name[locals] = body;` from the definition's name on, with the parameters and the body written there; n: how many sums stand before it
  pub record DefinitionAt (d : Definition) : Type 0 where
    pub params : derived.Params
    pub body : derived.Body
    pub n : ℕ
    pub more : List ℕ
    pub text : drop d.name ts ≡ flat_definition params body more
    pub listed : d.params ≡ params_of (params_at params (d.name + 1))
    pub sums : d.sums ≡ body_at body (d.name + 1 + wide (derived.flat_params params) + 1) n

  -- the token is a name
  abbrev pub NameAt : ℕ → Type 0
  NameAt k = get_elem? ts k ≡ some kind.name

  -- 01, Model: `name[whole numbers]` from the item's name on, perhaps with a count and `*` before it
  pub data ItemAt : Syntax.Start → Type 0 where
    once : {k : ℕ} (s : derived.Starts) (more : List ℕ) → drop k ts ≡ kind.name ∷ flat_starts s more → ItemAt (Syntax.once k (starts_at s (k + 1)))
    counted : {c : ℕ} (s : derived.Starts) (more : List ℕ) → drop c ts ≡ kind.whole ∷ kind.times ∷ kind.name ∷ flat_starts s more → ItemAt (Syntax.counted c (c + 2) (starts_at s (c + 3)))

  -- of a whole text
  pub record Lines (m : Syntax.Model) : Type 0 where
    pub variable : (v : Variable) → In v (variables m) → VariableAt v
    pub definition : (d : Definition) → In d (definitions m) → DefinitionAt d
    pub parameter : (d : Definition) → In d (definitions m) → (k : ℕ) → In k d.params → NameAt k
    pub item : (s : Syntax.Start) → In s (starts m) → ItemAt s
