-- Question 8 (01, Opening a text): the names that are not new. Assumes nothing: these are definitions.
use Rattle.std.specs.Prelude.{List, [], ◌∷◌, ◌++◌, ℕ}
use Rattle.grammar.specs.Syntax
use Rattle.model.specs.Lists.{each, when, any}
use Rattle.model.specs.Sites.{Scope, Site, whole, value, scale, bound, branch, call, Definition, names, titles, variables, definitions, over_sites}
use Rattle.model.specs.Words.{same}

module _ (w : ℕ → List ℕ) where
  -- those of a list of names that one of `seen`, or one before them in the list, already has
  unfoldable pub repeated : List ℕ → List ℕ → List ℕ
  repeated seen [] = []
  repeated seen (k ∷ ks) = when (any (same w k) seen) k ++ repeated (seen ++ k ∷ []) ks

  -- a local is compared with variables and with the locals in scope where it is bound
  unfoldable pub site_repeated : List ℕ → Scope → Site → List ℕ
  site_repeated vars sc (whole b k) = []
  site_repeated vars sc (value k) = []
  site_repeated vars sc (scale k) = []
  site_repeated vars sc (bound ks n) = repeated (vars ++ sc) ks
  site_repeated vars sc (branch i k) = []
  site_repeated vars sc (call k n) = []

  unfoldable pub definition_repeated : List ℕ → Definition → List ℕ
  definition_repeated vars d = repeated vars d.params

  -- 8: every name that is not new, the second of two
  unfoldable pub not_new : Syntax.Model → List ℕ
  not_new m =
      let vars = names (variables m) in
      repeated [] vars ++ repeated [] (titles (definitions m))
      ++ (each (definition_repeated vars) (definitions m) ++ over_sites w (site_repeated vars) m)
