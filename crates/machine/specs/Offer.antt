-- Processes of a model, what they offer, what their continuations become, and question 12 as a function (01, State and Listing). Assumes nothing: these are definitions.
use Rattle.std.specs.Prelude.{List, [], ◌∷◌, ◌++◌, map, Bool, true, false, cond, ◌&&◌, ℕ, suc, ℤ, pos, None, Some}
use Rattle.std.proofs.Math.Option.{Option, none, some, Option-elim}
use Rattle.std.proofs.Math.ListN.{get_elem?}
use Rattle.value.specs.Range.{Value}
use Rattle.model.specs.Resolved
use Rattle.rules.specs.Offers as offers
use Rattle.machine.specs.Evaluate.{eval_expr, eval_branch}

-- 01, State: a sum by its number, and its locals; 02, note 6: the number of the definition whose text holds the sum
pub record Process : Type 0 where
  pub sum : ℕ
  pub locals : List ℤ
  pub definition : ℕ

-- ---- continuations

-- a value; 0 stands for a missing one, which 17 refuses
unfoldable pub or_zero : Value → ℤ
or_zero (Some z) = z
or_zero None = pos 0

module _ (m : Resolved.Model) where
  -- 01, State: the branches of a process's sum
  unfoldable pub branches_of : Process → List Resolved.Branch
  branches_of p = Option-elim (get_elem? m.sums p.sum) [] (λ s. s.branches)

  -- 02, note 6: the definition whose text holds a sum (model: Written)
  unfoldable pub definition_of : ℕ → ℕ
  definition_of n = Option-elim (get_elem? m.sums n) 0 (λ s. s.definition)

  -- a process of sum n with these locals
  unfoldable pub process_at : ℕ → List ℤ → Process
  process_at n ls = record { sum = n; locals = ls; definition = definition_of n }

  -- 01, Step: a definition's sums, with these values as locals
  unfoldable pub called : ℕ → List ℤ → List Process
  called d vs = Option-elim (get_elem? m.definitions d) [] (λ e. map (λ n. process_at n vs) e.sums)

  -- 01, Step: a sum keeps the locals ls, among them the names bound by the prefix; a call has its arguments
  unfoldable pub part_processes : List ℤ → Resolved.Part → List Process
  part_processes ls (Resolved.enter n) = process_at n ls ∷ []
  part_processes ls (Resolved.call d es) = called d (map (λ e. or_zero (eval_expr ls e)) es)

  -- 01, Step: what a continuation becomes, left to right
  unfoldable pub next_processes : List ℤ → List Resolved.Part → List Process
  next_processes ls [] = []
  next_processes ls (x ∷ xs) = part_processes ls x ++ next_processes ls xs

  -- ---- what a process offers

  -- a branch as the rules take it; one without value, which 12 refuses, as if it were hidden
  unfoldable pub offered : List ℤ → Resolved.Branch → offers.Branch Process
  offered ls b = record { guard = Option-elim (eval_branch ls b) offers.shut (λ g. g); next = λ vs. next_processes (ls ++ vs) b.next }

  -- 01, Transitions: the branches of a process as the rules take them
  unfoldable pub branches : Process → List (offers.Branch Process)
  branches p = map (offered p.locals) (branches_of p)

-- ---- 12: the first branch, by place and then branch, that has a part without value

unfoldable pub is_none : {A : Type 0} → Option A → Bool
is_none none = true
is_none (some x) = false

-- among branches counted from j on
unfoldable pub missing_branch : List ℤ → ℕ → List Resolved.Branch → Option ℕ
missing_branch ls j [] = none
missing_branch ls j (b ∷ bs) = cond (is_none (eval_branch ls b)) (some j) (missing_branch ls (suc j) bs)

-- among processes counted from place i on
unfoldable pub missing : Resolved.Model → ℕ → List Process → Option (ℕ × ℕ)
missing m i [] = none
missing m i (p ∷ ps) = Option-elim (missing_branch p.locals 0 (branches_of m p)) (missing m (suc i) ps) (λ j. some (i, j))

-- ---- 17: every argument of a continuation has a value

unfoldable pub is_value : Value → Bool
is_value (Some z) = true
is_value None = false

unfoldable pub all_values : List ℤ → List Resolved.Expr → Bool
all_values ls [] = true
all_values ls (e ∷ es) = is_value (eval_expr ls e) && all_values ls es

unfoldable pub arguments_given : List ℤ → List Resolved.Part → Bool
arguments_given ls [] = true
arguments_given ls (Resolved.enter n ∷ xs) = arguments_given ls xs
arguments_given ls (Resolved.call d es ∷ xs) = all_values ls es && arguments_given ls xs
