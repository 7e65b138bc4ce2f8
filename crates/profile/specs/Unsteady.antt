-- Where a continuation may leave more than one process (02, note 11): the tokens at fault as a list, and the same said without it. proofs/Offending.antt shows that
-- the two agree. Assumes nothing: these are definitions.
use Rattle.std.specs.Prelude.{◌≡◌, Bool, false, ℕ, ◌<◌, ltb, length}
use mathlib.Core.List.{List, [], ◌++◌, Memᴰ as In}
use Rattle.std.proofs.Math.Option.{Option-elim}
use Rattle.grammar.specs.Syntax
use Rattle.model.specs.Lists.{each, when}
use Rattle.model.specs.Sites.{Scope, Definition, definitions}
use Rattle.model.specs.Given.{definition_named}
use Rattle.model.specs.Stands.{branches_in, items_of, sums_of, Holds, SumIn}

-- ---- said by where things stand

-- x follows a prefix of the definitions, reached or not: it stands after the prefix's `.`, or in a group there
pub record Follows (m : Syntax.Model) (x : Syntax.Cont) : Type 0 where
  pub scope : Scope
  pub sum : Syntax.Sum
  pub stands : SumIn m scope sum
  pub first : ℕ
  pub gate : Syntax.Gate
  pub action : Syntax.Action
  pub rate : Syntax.Rate
  pub cont : Syntax.Cont
  pub branch : In (Syntax.branch first gate action rate (Syntax.dot cont)) (branches_in sum)
  pub held : Holds x cont

-- 02, note 11: token k offends; w: the bytes of each token. An item of the system line follows no prefix, and isn't asked
pub data Offends (w : ℕ → List ℕ) (m : Syntax.Model) : ℕ → Type 0 where
  -- a group with more than one item of its own, at its `(`; groups in it each by theirs
  grouping : {k : ℕ} {cs : Syntax.Conts} → Follows m (Syntax.group k cs) → 1 < length (items_of cs) → Offends w m k
  -- a call of a definition with more than one sum, at the name
  calling : {k : ℕ} {es : Syntax.Args} {d : Definition} → Follows m (Syntax.call k es) → In d (definitions m) → w k ≡ w d.name → 1 < length (sums_of d.sums) → Offends w m k

-- ---- as a list

-- more than one
unfoldable pub several : {A : Type 0} → List A → Bool
several xs = ltb 1 (length xs)

-- w: the bytes of each token; ds: the definitions
module _ (w : ℕ → List ℕ) (ds : List Definition) where
  -- the definition of this name has more than one sum
  unfoldable pub several_sums : ℕ → Bool
  several_sums k = Option-elim (definition_named w k 0 ds) false (λ d. several (sums_of d.1.sums))

  unfoldable mutual
    pub branch_unsteady : Syntax.Branch → List ℕ
    branch_unsteady (Syntax.branch k g a r n) = next_unsteady n

    pub next_unsteady : Syntax.Next → List ℕ
    next_unsteady Syntax.stop = []
    next_unsteady (Syntax.dot c) = cont_unsteady c

    pub branches_unsteady : Syntax.Branches → List ℕ
    branches_unsteady (Syntax.last_branch b) = branch_unsteady b
    branches_unsteady (Syntax.next_branch b r) = branch_unsteady b ++ branches_unsteady r

    pub sum_unsteady : Syntax.Sum → List ℕ
    sum_unsteady (Syntax.sum n b) = branches_unsteady b

    pub cont_unsteady : Syntax.Cont → List ℕ
    cont_unsteady (Syntax.proceed s) = sum_unsteady s
    cont_unsteady (Syntax.call k a) = when (several_sums k) k
    cont_unsteady (Syntax.group k c) = when (several (items_of c)) k ++ conts_unsteady c

    pub conts_unsteady : Syntax.Conts → List ℕ
    conts_unsteady (Syntax.last_cont c) = cont_unsteady c
    conts_unsteady (Syntax.next_cont c r) = cont_unsteady c ++ conts_unsteady r

  unfoldable pub sums_unsteady : Syntax.Sums → List ℕ
  sums_unsteady (Syntax.last_sum s) = sum_unsteady s
  sums_unsteady (Syntax.next_sum s r) = sum_unsteady s ++ sums_unsteady r

-- 02, note 11: every token at fault, in all definitions
unfoldable pub unsteady : (ℕ → List ℕ) → Syntax.Model → List ℕ
unsteady w m = each (λ d. sums_unsteady w (definitions m) d.sums) (definitions m)
