-- Where sums, branches and sites stand in a syntax tree, and which locals are in scope there, said without lists of places (01, Model text, last
-- paragraph). proofs/Sited.antt shows that Sites.antt lists just these. Assumes nothing: these are definitions.
use Rattle.std.specs.Prelude.{◌≡◌, ℕ}
use mathlib.Core.List.{List, [], ◌∷◌, ◌++◌, Memᴰ as In}
use Rattle.std.proofs.Math.Option.{some}
use Rattle.std.proofs.Math.ListN.{get_elem?}
use Rattle.grammar.specs.Syntax
use Rattle.model.specs.Sites.{Scope, Site, branch, call, gate_sites, action_sites, rate_sites, bindings, count_args, args_sites, Definition, definitions}

-- ---- the parts of a tree as lists

unfoldable pub branches_of : Syntax.Branches → List Syntax.Branch
branches_of (Syntax.last_branch b) = b ∷ []
branches_of (Syntax.next_branch b r) = b ∷ branches_of r

unfoldable pub branches_in : Syntax.Sum → List Syntax.Branch
branches_in (Syntax.sum n b) = branches_of b

unfoldable pub items_of : Syntax.Conts → List Syntax.Cont
items_of (Syntax.last_cont c) = c ∷ []
items_of (Syntax.next_cont c r) = c ∷ items_of r

unfoldable pub sums_of : Syntax.Sums → List Syntax.Sum
sums_of (Syntax.last_sum s) = s ∷ []
sums_of (Syntax.next_sum s r) = s ∷ sums_of r

-- ---- what stands where

-- a continuation is x, or a group that holds x
pub data Holds (x : Syntax.Cont) : Syntax.Cont → Type 0 where
  itself : {c : Syntax.Cont} → c ≡ x → Holds x c
  grouped : {k : ℕ} {cs : Syntax.Conts} {c : Syntax.Cont} → In c (items_of cs) → Holds x c → Holds x (Syntax.group k cs)

-- a sum of the text, and the locals in scope in it
pub data SumIn (m : Syntax.Model) : Scope → Syntax.Sum → Type 0 where
  -- a definition's sums see its parameters
  defined : {d : Definition} {s : Syntax.Sum} → In d (definitions m) → In s (sums_of d.sums) → SumIn m d.params s
  -- what follows a prefix sees what the prefix sees, then the names that the prefix binds, groups included
  continued : {sc : Scope} {s t : Syntax.Sum} {k : ℕ} {g : Syntax.Gate} {a : Syntax.Action} {r : Syntax.Rate} {c : Syntax.Cont}
      → SumIn m sc s → In (Syntax.branch k g a r (Syntax.dot c)) (branches_in s) → Holds (Syntax.proceed t) c → SumIn m (sc ++ bindings a) t

-- a sum that the text of definition number n holds: one of its own, or one that follows a prefix of such a sum, groups included
pub data WrittenIn (m : Syntax.Model) (n : ℕ) : Syntax.Sum → Type 0 where
  own : {d : Definition} {s : Syntax.Sum} → get_elem? (definitions m) n ≡ some d → In s (sums_of d.sums) → WrittenIn m n s
  following : {s t : Syntax.Sum} {k : ℕ} {g : Syntax.Gate} {a : Syntax.Action} {r : Syntax.Rate} {c : Syntax.Cont}
      → WrittenIn m n s → In (Syntax.branch k g a r (Syntax.dot c)) (branches_in s) → Holds (Syntax.proceed t) c → WrittenIn m n t

-- branch number i of a sum, and the locals in scope there
pub record BranchIn (m : Syntax.Model) (sc : Scope) (i : ℕ) (b : Syntax.Branch) : Type 0 where
  pub sum : Syntax.Sum
  pub stands : SumIn m sc sum
  pub place : get_elem? (branches_in sum) i ≡ some b

-- a site of the definitions, and the locals in scope there; w: the bytes of each token
pub data SiteIn (w : ℕ → List ℕ) (m : Syntax.Model) : Scope → Site → Type 0 where
  beginning : {sc : Scope} {i k : ℕ} {g : Syntax.Gate} {a : Syntax.Action} {r : Syntax.Rate} {n : Syntax.Next}
      → BranchIn m sc i (Syntax.branch k g a r n) → SiteIn w m sc (branch i k)
  -- gate, action and rate don't see the names that the action binds
  in_gate : {sc : Scope} {i k : ℕ} {g : Syntax.Gate} {a : Syntax.Action} {r : Syntax.Rate} {n : Syntax.Next} {x : Site}
      → BranchIn m sc i (Syntax.branch k g a r n) → In x (gate_sites g) → SiteIn w m sc x
  in_action : {sc : Scope} {i k : ℕ} {g : Syntax.Gate} {a : Syntax.Action} {r : Syntax.Rate} {n : Syntax.Next} {x : Site}
      → BranchIn m sc i (Syntax.branch k g a r n) → In x (action_sites w a) → SiteIn w m sc x
  in_rate : {sc : Scope} {i k : ℕ} {g : Syntax.Gate} {a : Syntax.Action} {r : Syntax.Rate} {n : Syntax.Next} {x : Site}
      → BranchIn m sc i (Syntax.branch k g a r n) → In x (rate_sites r) → SiteIn w m sc x
  -- a call that follows sees them
  calling : {sc : Scope} {i k j : ℕ} {g : Syntax.Gate} {a : Syntax.Action} {r : Syntax.Rate} {c : Syntax.Cont} {es : Syntax.Args}
      → BranchIn m sc i (Syntax.branch k g a r (Syntax.dot c)) → Holds (Syntax.call j es) c → SiteIn w m (sc ++ bindings a) (call j (count_args es))
  in_call : {sc : Scope} {i k j : ℕ} {g : Syntax.Gate} {a : Syntax.Action} {r : Syntax.Rate} {c : Syntax.Cont} {es : Syntax.Args} {x : Site}
      → BranchIn m sc i (Syntax.branch k g a r (Syntax.dot c)) → Holds (Syntax.call j es) c → In x (args_sites es) → SiteIn w m (sc ++ bindings a) x
