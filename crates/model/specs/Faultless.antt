-- A syntax tree without faults under questions 7 and 9, part by part: what the resolver of a text takes for granted (01, Opening a text). Assumes nothing: these are definitions.
use Rattle.std.specs.Prelude.{◌≡◌, Bool, true, false, ℕ, ◌-◌, ◌≤◌, ◌<◌, nat_abs, length}
use mathlib.Core.List.{List, Memᴰ as In}
use Rattle.value.specs.Range.{InRange}
use Rattle.word.specs.Number.{worth}
use Rattle.grammar.specs.Syntax
use Rattle.model.specs.Sites.{Scope, Site, whole, value, scale, bound, branch, call, Variable, Definition, starts}
use Rattle.model.specs.Sites as sites
use Rattle.model.specs.Words.{whole_of, decimal_of}
use Rattle.model.specs.Limits.{count_limit, definition_limit, parameter_limit, local_limit, branch_limit}
use Rattle.model.specs.Given.{is_value, is_given, meaning, is_callable, count_starts}
use Rattle.model.specs.Resolved.{channel_names}
use Rattle.model.specs.Good.{scale_limit}
use Rattle.model.specs.Stands.{BranchIn, SiteIn}
use Rattle.model.specs.Faults.{start_name, start_list, start_wholes}
use Rattle.model.specs.Numbering.{DefinitionsFrom}

-- the number or name of a rate
abbrev pub scale_of : Syntax.Rate → Syntax.Scale
scale_of (Syntax.plain s) = s
scale_of (Syntax.scaled s e) = s

module _ (w : ℕ → List ℕ) (vs : List Variable) (ds : List Definition) (cs : List ℕ) where
  -- ---- what no fault at a site means

  abbrev pub Fine : Scope → Site → Type 0
  Fine sc (whole b k) = InRange (whole_of w b k)
  Fine sc (value k) = is_value (meaning w vs sc k) ≡ true
  Fine sc (scale k) = is_given (meaning w vs sc k) ≡ true
  Fine sc (bound ks n) = (length ks ≡ n) × (length ks ≤ local_limit - length sc)
  Fine sc (branch i k) = i < branch_limit
  Fine sc (call k n) = is_callable w ds k n ≡ true

  abbrev pub AllFine : Scope → List Site → Type 0
  AllFine sc xs = (x : Site) → In x xs → Fine sc x

  -- of a number: a whole one is in range, a decimal one has few digits
  abbrev pub FineNumber : Syntax.Number → Type 0
  FineNumber (Syntax.number b false k) = InRange (whole_of w b k)
  FineNumber (Syntax.number b true k) = nat_abs (decimal_of w b k) ≤ scale_limit

module _ (w : ℕ → List ℕ) (m : Syntax.Model) where
  abbrev vs : List Variable
  vs = sites.variables m

  abbrev ds : List Definition
  ds = sites.definitions m

  abbrev cs : List ℕ
  cs = channel_names w vs ds

  -- a syntax tree without faults
  pub record Faultless : Type 0 where
    pub numbering : DefinitionsFrom ds 0
    pub sites : (sc : Scope) (x : Site) → SiteIn w m sc x → Fine w vs ds cs sc x
    pub variables : (v : Variable) → In v vs → FineNumber w vs ds cs v.number
    pub rates : (sc : Scope) (i k : ℕ) (g : Syntax.Gate) (a : Syntax.Action) (r : Syntax.Rate) (n : Syntax.Next) → BranchIn m sc i (Syntax.branch k g a r n) → (v : Syntax.Number) → scale_of r ≡ Syntax.fixed v → FineNumber w vs ds cs v
    pub parameters : (d : Definition) → In d ds → length d.params ≤ parameter_limit
    pub definitions : length ds ≤ definition_limit
    pub counts : (c k : ℕ) (s : Syntax.Starts) → In (Syntax.counted c k s) (starts m) → worth 0 (w c) ≤ count_limit
    pub values : (s : Syntax.Start) (b : Bool) (k : ℕ) → In s (starts m) → In (whole b k) (start_wholes (start_list s)) → InRange (whole_of w b k)
    pub items : (s : Syntax.Start) → In s (starts m) → is_callable w ds (start_name s) (count_starts (start_list s)) ≡ true
