-- In a good model, definitions and continuations become good processes: by cases of parts, from the ranges of arguments.
use mathlib.Core.Path.{◌≡◌, refl, sym, ap, subst}
use mathlib.Core.List.{List, [], ◌∷◌, map}
use mathlib.Core.Option.{Option, Option-elim}
use Prim.Native.Nat.{ℕ}
use lib.IntN.{ℤ}
use lib.ListN.{length, length-map}
use Rattle.std.specs.Prelude.{None, Some}
use Rattle.value.specs.Range.{InRange, Value}
use Rattle.model.specs.Resolved
use Rattle.rules.specs.Rules.{Nth}
use Rattle.machine.specs.Evaluate.{eval_expr}
use Rattle.model.specs.Good.{Every, GoodExpr, SumWith, Callable, GoodPart, GoodBranch, GoodSum, GoodDefined, GoodModel}
use Rattle.machine.specs.Offer.{Process, or_zero, branches_of, definition_of, process_at, called, part_processes, next_processes}
use Rattle.machine.specs.State.{GoodProcess}
use Rattle.machine.specs.Questions.{BranchAt}
use Rattle.machine.proofs.Branches.{get_nth}
use Rattle.machine.proofs.Everys.{every-nth, every_append, every_map}
use Rattle.machine.proofs.Ranges.{zero-good, expr-good}

-- an argument's value, or the 0 that stands for none
argument-good : (ls : List ℤ) → Every InRange ls → (n : ℕ) (e : Resolved.Expr) → GoodExpr n e → InRange (or_zero (eval_expr ls e))
unfolding or_zero
argument-good ls r n e g = go (eval_expr ls e) refl
  where
    go : (v : Value) → eval_expr ls e ≡ v → InRange (or_zero v)
    go (Some z) q = expr-good ls r n e z g q
    go None q = zero-good

module _ (m : Resolved.Model) (good : GoodModel m) where
  -- a sum with as many locals as it has in scope
  pub process-good : (n : ℕ) (ls : List ℤ) → SumWith m (length ls) n → Every InRange ls → GoodProcess m (process_at m n ls)
  unfolding process_at definition_of Option-elim
  process-good n ls h r = record { sum = h; values = r; definition = ap (λ (o : Option Resolved.Sum). Option-elim o 0 (λ (s : Resolved.Sum). s.definition)) h.exists }

  -- a definition called with as many values as it has parameters
  pub called-good : (d : ℕ) (vs : List ℤ) → Callable m (length vs) d → Every InRange vs → Every (GoodProcess m) (called m d vs)
  unfolding called Option-elim
  called-good d vs c r =
      rw c.exists
      (every_map (SumWith m c.definition.params) (GoodProcess m) (λ n. process_at m n vs)
      (λ n h. process-good n vs (subst (λ (k : ℕ). SumWith m k n) c.params h) r)
      c.definition.sums (every-nth (GoodDefined m) good.definitions (get_nth m.definitions d c.exists)).sums)

  module _ (ls : List ℤ) (r : Every InRange ls) where
    part-good : (x : Resolved.Part) → GoodPart m (length ls) x → Every (GoodProcess m) (part_processes m ls x)
    unfolding part_processes GoodPart Every
    part-good (Resolved.enter k) g = (process-good k ls g r, tt)
    part-good (Resolved.call d es) g =
        let vs = map (λ (e : Resolved.Expr). or_zero (eval_expr ls e)) es in
        let l : length es ≡ length vs = sym (length-map es (λ (e : Resolved.Expr). or_zero (eval_expr ls e))) in
        called-good d vs (subst (λ (k : ℕ). Callable m k d) l g.0)
        (every_map (GoodExpr (length ls)) InRange (λ (e : Resolved.Expr). or_zero (eval_expr ls e)) (argument-good ls r (length ls)) es g.1)

    pub next-good : (xs : List Resolved.Part) → Every (GoodPart m (length ls)) xs → Every (GoodProcess m) (next_processes m ls xs)
    unfolding next_processes Every
    next-good [] g = tt
    next-good (x ∷ xs) g = search (every_append (GoodProcess m), part-good x g.0, next-good xs g.1)

  -- a branch of a good process is a good branch over its locals
  pub at-good : {ps : List Process} {i j : ℕ} {p : Process} {b : Resolved.Branch} → GoodProcess m p → BranchAt m ps i j p b → GoodBranch m (length p.locals) b
  unfolding branches_of Option-elim
  at-good {p = p} g h =
      let t = every-nth (GoodSum m) good.sums (get_nth m.sums p.sum g.sum.exists) in
      let n : Nth g.sum.sum.branches _ _ = rw g.sum.exists at h.branch in
      rw g.sum.scope at (every-nth (GoodBranch m g.sum.sum.locals) t.branches n)
