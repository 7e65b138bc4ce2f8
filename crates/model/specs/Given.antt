-- Question 9 (01, Opening a text): names that are not given, and wrong numbers of values or names. Assumes nothing: these are definitions.
use Rattle.std.specs.Prelude.{List, [], ◌∷◌, ◌++◌, Bool, true, false, cond, not, ℕ, suc, ◌+◌, ◌-◌, eqb, length, get_or}
use Rattle.std.proofs.Math.Option.{Option, none, some}
use Rattle.grammar.specs.Syntax
use Rattle.model.specs.Lists.{each, when}
use Rattle.model.specs.Sites.{Scope, Site, whole, value, scale, bound, branch, call, Variable, Definition, variables, definitions, starts, over_sites}
use Rattle.model.specs.Words.{same}

-- what a name stands for: a local by its place in scope, a variable by its number, or nothing
pub data Meaning : Type 0 where
  local : ℕ → Meaning
  variable : Syntax.Number → Meaning
  nothing : Meaning

unfoldable pub or_else : Option ℕ → Meaning → Meaning
or_else (some i) other = local i
or_else none other = other

-- 01, question 9: given, and whole where an expression needs it
unfoldable pub is_value : Meaning → Bool
is_value (local i) = true
is_value (variable (Syntax.number b decimal k)) = not decimal
is_value nothing = false

-- 01, Rate: a rate's scale may be decimal
unfoldable pub is_given : Meaning → Bool
is_given (local i) = true
is_given (variable v) = true
is_given nothing = false

unfoldable pub takes : ℕ → Option (ℕ × Definition) → Bool
takes n none = false
takes n (some d) = eqb (length d.1.params) n

unfoldable pub count_wholes : Syntax.Wholes → ℕ
count_wholes (Syntax.last_whole b k) = 1
count_wholes (Syntax.next_whole b k r) = count_wholes r + 1

unfoldable pub count_starts : Syntax.Starts → ℕ
count_starts Syntax.no_starts = 0
count_starts (Syntax.starts r) = count_wholes r

module _ (w : ℕ → List ℕ) where
  -- the place, from i on, of the first name in a list that is the same as k's
  unfoldable pub place_in : ℕ → ℕ → List ℕ → Option ℕ
  place_in k i [] = none
  place_in k i (j ∷ js) = cond (same w k j) (some i) (place_in k (suc i) js)

  unfoldable pub variable_named : ℕ → List Variable → Meaning
  variable_named k [] = nothing
  variable_named k (v ∷ vs) = cond (same w k v.name) (variable v.number) (variable_named k vs)

  -- 01, Model text: a name is a local in scope, or a variable
  unfoldable pub meaning : List Variable → Scope → ℕ → Meaning
  meaning vs sc k = or_else (place_in k 0 sc) (variable_named k vs)

  -- the definition of this name: its number, from i on, and itself
  unfoldable pub definition_named : ℕ → ℕ → List Definition → Option (ℕ × Definition)
  definition_named k i [] = none
  definition_named k i (d ∷ ds) = cond (same w k d.name) (some (i, d)) (definition_named k (suc i) ds)

  -- a call, or an item of the system line, of a definition with this number of parameters
  unfoldable pub is_callable : List Definition → ℕ → ℕ → Bool
  is_callable ds k n = takes n (definition_named k 0 ds)

  -- at a site: a value, a rate's scale or a call that is not given; names that are not as many as the sets
  unfoldable pub site_wrong : List Variable → List Definition → Scope → Site → List ℕ
  site_wrong vs ds sc (whole b k) = []
  site_wrong vs ds sc (value k) = when (not (is_value (meaning vs sc k))) k
  site_wrong vs ds sc (scale k) = when (not (is_given (meaning vs sc k))) k
  site_wrong vs ds sc (bound ks n) = when (not (eqb (length ks) n)) (get_or ks 0 0 - 1)
  site_wrong vs ds sc (branch i k) = []
  site_wrong vs ds sc (call k n) = when (not (is_callable ds k n)) k

  unfoldable pub start_wrong : List Definition → Syntax.Start → List ℕ
  start_wrong ds (Syntax.once k s) = when (not (is_callable ds k (count_starts s))) k
  start_wrong ds (Syntax.counted c k s) = when (not (is_callable ds k (count_starts s))) k

  -- 9: every name at fault; for names against sets the `(`, which stands before the first name
  unfoldable pub not_given : Syntax.Model → List ℕ
  not_given m = over_sites w (site_wrong (variables m) (definitions m)) m ++ each (start_wrong (definitions m)) (starts m)
