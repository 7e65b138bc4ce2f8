-- What the numbers of waits are, whatever finds them: waits are numbered by where their name first stands as a wait (02, notes 8, 10 and 13). Assumes nothing: these are
-- definitions.
use Rattle.std.specs.Prelude.{◌≡◌, ℕ, suc, ◌≤◌}
use mathlib.Core.List.{List, [], ◌∷◌, Memᴰ as In}
use Rattle.std.proofs.Math.Option.{none, some}
use Rattle.std.proofs.Math.ListN.{get_elem?}
use Rattle.model.specs.Resolved
use Rattle.waitnames.specs.Names.{all_waits, name_tokens, name_number, wait_number}

-- a wait stands at token k, and none of its name before it
pub record First (m : Resolved.Model) (k : ℕ) : Type 0 where
  pub wait : In k (all_waits m)
  pub new : (j : ℕ) → In j (all_waits m) → m.words j ≡ m.words k → k ≤ j

-- each number, from a on, above the one before
unfoldable pub Rising : ℕ → List ℕ → Type 0
Rising a [] = Unit {0}
Rising a (k ∷ ks) = (a ≤ k) × Rising (suc k) ks

-- a wait of the model has this name
abbrev pub IsWait : Resolved.Model → List ℕ → Type 0
IsWait m x = (k : ℕ) × In k (all_waits m) × (m.words k ≡ x)

pub record Numbered (m : Resolved.Model) : Type 0 where
  -- the tokens by which names are numbered are the first ones of their names, each once, in the order of the text
  pub firsts : (k : ℕ) → In k (name_tokens m) → First m k
  pub every : (k : ℕ) → First m k → In k (name_tokens m)
  pub rising : Rising 0 (name_tokens m)
  -- a wait's number is that of the first token of its name
  pub number : (k : ℕ) → In k (all_waits m) → (j : ℕ) × (get_elem? (name_tokens m) (name_number m k) ≡ some j) × (m.words j ≡ m.words k)
  -- a name lent as bytes has the number of the waits of this name, and none where there is no such wait
  pub found : (k : ℕ) → In k (all_waits m) → wait_number m (m.words k) ≡ some (name_number m k)
  pub known : (x : List ℕ) (n : ℕ) → wait_number m x ≡ some n → (k : ℕ) × In k (all_waits m) × (m.words k ≡ x) × (name_number m k ≡ n)
  pub unknown : (x : List ℕ) → wait_number m x ≡ none → IsWait m x → ⊥
