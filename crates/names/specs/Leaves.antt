-- The sites that leaves of a tree of nodes are (model: Sites), one node after the other. Assumes nothing: these are definitions.
use Rattle.std.specs.Prelude.{List, [], ◌∷◌, ◌++◌, Bool, true, false, cond, ◌||◌, ℕ, zero, suc, ◌+◌, eqb, get_or}
use Rattle.tree.specs.Node as node
use Rattle.tree.specs.Node.{kind_of, token_of, number_kind}
use Rattle.model.specs.Sites.{Site, whole, value, scale}

-- a name that is used, as a rate's scale or as a value
unfoldable pub used : Bool → ℕ → Site
used scaling k = cond scaling (scale k) (value k)

-- what a node of this kind with this token is
unfoldable pub leaf_sites : ℕ → ℕ → List Site
leaf_sites κ k =
    cond (eqb κ node.literal || eqb κ (number_kind false false)) (whole false k ∷ [])
    (cond (eqb κ node.negative || eqb κ (number_kind true false)) (whole true k ∷ [])
    (cond (eqb κ node.named) (value k ∷ [])
    (cond (eqb κ node.scale_name) (scale k ∷ []) [])))

-- node i of a table
unfoldable pub site_at : List ℕ → ℕ → List Site
site_at t i = leaf_sites (kind_of (get_or t i 0)) (token_of (get_or t i 0))

-- the n nodes from i on
unfoldable pub between : List ℕ → ℕ → ℕ → List Site
between t i zero = []
between t i (suc n) = site_at t i ++ between t (i + 1) n
