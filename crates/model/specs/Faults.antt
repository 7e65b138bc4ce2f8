-- The faults of questions 7, 8 and 9 (01, Opening a text), a constructor for each kind, said without lists of places. proofs/ shows that
-- Limits.antt, Fresh.antt and Given.antt list just these. Assumes nothing: these are definitions.
use Rattle.std.specs.Prelude.{◌≡◌, Bool, false, ◌⊎◌, ℕ, ◌+◌, ◌-◌, ◌≤◌, ◌<◌, length, get_or}
use mathlib.Core.List.{List, [], ◌∷◌, ◌++◌, Memᴰ as In}
use Rattle.std.proofs.Math.Option.{some}
use Rattle.std.proofs.Math.ListN.{get_elem?}
use Rattle.value.specs.Range.{InRange}
use Rattle.word.specs.Name.{longest}
use Rattle.word.specs.Number.{worth, whole_digits, fraction_digits}
use Rattle.token.specs.Kind as kind
use Rattle.token.specs.Token.{Mark, tokens}
use Rattle.token.specs.Contents.{bytes_of, before_point, after_point}
use Rattle.grammar.specs.Syntax
use Rattle.model.specs.Sites.{Scope, Site, whole, value, scale, bound, branch, call, Variable, Definition, names, titles, variables, definitions, starts}
use Rattle.model.specs.Words.{word_of, whole_of}
use Rattle.model.specs.Limits.{count_limit, variable_limit, definition_limit, parameter_limit, local_limit, branch_limit}
use Rattle.model.specs.Given.{count_starts}
use Rattle.model.specs.Stands.{SiteIn}

-- ---- the system line

unfoldable pub start_name : Syntax.Start → ℕ
start_name (Syntax.once k s) = k
start_name (Syntax.counted c k s) = k

unfoldable pub start_list : Syntax.Start → Syntax.Starts
start_list (Syntax.once k s) = s
start_list (Syntax.counted c k s) = s

unfoldable pub wholes_of : Syntax.Wholes → List Site
wholes_of (Syntax.last_whole b k) = whole b k ∷ []
wholes_of (Syntax.next_whole b k r) = whole b k ∷ wholes_of r

unfoldable pub start_wholes : Syntax.Starts → List Site
start_wholes Syntax.no_starts = []
start_wholes (Syntax.starts r) = wholes_of r

-- ---- 7

-- a whole number of the text, with `-` before it or not, and its token; w: the bytes of each token
pub data WholeIn (w : ℕ → List ℕ) (m : Syntax.Model) : Bool → ℕ → Type 0 where
  in_definition : {sc : Scope} {b : Bool} {k : ℕ} → SiteIn w m sc (whole b k) → WholeIn w m b k
  in_variable : {v : Variable} {b : Bool} {k : ℕ} → In v (variables m) → v.number ≡ Syntax.number b false k → WholeIn w m b k
  in_system : {s : Syntax.Start} {b : Bool} {k : ℕ} → In s (starts m) → In (whole b k) (start_wholes (start_list s)) → WholeIn w m b k

-- token k is beyond a limit
pub data Beyond (text : List ℕ) (m : Syntax.Model) : ℕ → Type 0 where
  -- a name of more than 16 bytes
  long-name : {k : ℕ} {t : Mark} → get_elem? (tokens text) k ≡ some t → t.kind ≡ kind.name → longest < length (bytes_of text t) → Beyond text m k
  -- a decimal with more than 6 digits before the point or 4 after it
  long-decimal : {k : ℕ} {t : Mark} → get_elem? (tokens text) k ≡ some t → t.kind ≡ kind.decimal
      → (whole_digits < length (before_point (bytes_of text t))) ⊎ (fraction_digits < length (after_point (bytes_of text t))) → Beyond text m k
  -- a whole number out of range
  large : {b : Bool} {k : ℕ} → WholeIn (word_of text) m b k → (InRange (whole_of (word_of text) b k) → ⊥) → Beyond text m k
  -- a count above 256
  count : {c k : ℕ} {s : Syntax.Starts} → In (Syntax.counted c k s) (starts m) → count_limit < worth 0 (word_of text c) → Beyond text m c
  -- a variable or a definition with 64 before it
  variable : {i k : ℕ} → get_elem? (names (variables m)) i ≡ some k → variable_limit ≤ i → Beyond text m k
  definition : {i k : ℕ} → get_elem? (titles (definitions m)) i ≡ some k → definition_limit ≤ i → Beyond text m k
  -- a parameter with 6 before it
  parameter : {d : Definition} {i k : ℕ} → In d (definitions m) → get_elem? d.params i ≡ some k → parameter_limit ≤ i → Beyond text m k
  -- a local with 8 before it
  local : {sc : Scope} {ks : List ℕ} {n k : ℕ} (i : ℕ) → SiteIn (word_of text) m sc (bound ks n) → get_elem? ks i ≡ some k → local_limit ≤ length sc + i → Beyond text m k
  -- a branch with 16 before it
  branching : {sc : Scope} {i k : ℕ} → SiteIn (word_of text) m sc (branch i k) → branch_limit ≤ i → Beyond text m k

-- ---- 8

-- locals that the text gives together, and the locals in scope where it does
pub data LocalsIn (w : ℕ → List ℕ) (m : Syntax.Model) : Scope → List ℕ → Type 0 where
  parameters : {d : Definition} → In d (definitions m) → LocalsIn w m [] d.params
  received : {sc : Scope} {ks : List ℕ} {n : ℕ} → SiteIn w m sc (bound ks n) → LocalsIn w m sc ks

-- k stands in a list of names, and its name is one of `known` or of those before it in the list
pub record Again (w : ℕ → List ℕ) (known ks : List ℕ) (k : ℕ) : Type 0 where
  pub before : List ℕ
  pub after : List ℕ
  pub list : ks ≡ before ++ k ∷ after
  pub first : ℕ
  pub earlier : In first (known ++ before)
  pub same : w first ≡ w k

-- the name of token k is not new
pub data NotNew (w : ℕ → List ℕ) (m : Syntax.Model) (k : ℕ) : Type 0 where
  variable : Again w [] (names (variables m)) k → NotNew w m k
  definition : Again w [] (titles (definitions m)) k → NotNew w m k
  -- a local meets the variables, the locals in scope and those before it in its list
  local : {sc : Scope} {ks : List ℕ} → LocalsIn w m sc ks → Again w (names (variables m) ++ sc) ks k → NotNew w m k

-- ---- 9

-- the name of token k is one of these
pub record Among (w : ℕ → List ℕ) (ks : List ℕ) (k : ℕ) : Type 0 where
  pub token : ℕ
  pub member : In token ks
  pub same : w token ≡ w k

-- it is a variable's; it is a whole variable's
pub record VariableIn (w : ℕ → List ℕ) (m : Syntax.Model) (k : ℕ) : Type 0 where
  pub variable : Variable
  pub member : In variable (variables m)
  pub same : w variable.name ≡ w k

unfoldable pub IsWhole : Syntax.Number → Type 0
IsWhole v = (b : Bool) × (k : ℕ) × (v ≡ Syntax.number b false k)

pub record WholeVariableIn (w : ℕ → List ℕ) (m : Syntax.Model) (k : ℕ) : Type 0 where
  pub named : VariableIn w m k
  pub whole : IsWhole named.variable.number

-- it is that of a definition with n parameters
pub record DefinitionIn (w : ℕ → List ℕ) (m : Syntax.Model) (k n : ℕ) : Type 0 where
  pub definition : Definition
  pub member : In definition (definitions m)
  pub same : w definition.name ≡ w k
  pub parameters : length definition.params ≡ n

-- the name of token k is not given as it is used; for names against sets, k is the `(`
pub data NotGiven (w : ℕ → List ℕ) (m : Syntax.Model) : ℕ → Type 0 where
  -- a value is a local in scope or a whole variable
  no_value : {sc : Scope} {k : ℕ} → SiteIn w m sc (value k) → (Among w sc k → ⊥) → (WholeVariableIn w m k → ⊥) → NotGiven w m k
  -- a rate's scale is a local in scope or a variable
  no_scale : {sc : Scope} {k : ℕ} → SiteIn w m sc (scale k) → (Among w sc k → ⊥) → (VariableIn w m k → ⊥) → NotGiven w m k
  no_call : {sc : Scope} {k n : ℕ} → SiteIn w m sc (call k n) → (DefinitionIn w m k n → ⊥) → NotGiven w m k
  no_start : {s : Syntax.Start} → In s (starts m) → (DefinitionIn w m (start_name s) (count_starts (start_list s)) → ⊥) → NotGiven w m (start_name s)
  uneven : {sc : Scope} {ks : List ℕ} {n : ℕ} → SiteIn w m sc (bound ks n) → (length ks ≡ n → ⊥) → NotGiven w m (get_or ks 0 0 - 1)
