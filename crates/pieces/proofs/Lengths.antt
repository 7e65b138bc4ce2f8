-- What walking one length after the other gives, and what comes after a run (02, note 10). From what is spent on one length.
use mathlib.Core.Path.{◌≡◌, sym, ap, ◌∙◌, subst}
use mathlib.Core.List.{List, [], ◌∷◌}
use mathlib.Core.Bool.{Bool, false}
use Prim.Native.Nat.{ℕ, ◌+◌, ◌-◌, ◌≤◌, ◌<◌}
use native.Mathlib.Omega.{arith}
use lib.ListN.{length, take, length-take}
use Rattle.std.specs.Prelude.{Result, Ok, Err}
use Rattle.model.specs.Resolved
use Rattle.machine.specs.State.{State}
use Rattle.runs.specs.Walk.{reaches, events_from, levels, walk, later_same, later}
use Rattle.spend.specs.Spend as spec
use Rattle.spend.specs.Spend.{spend, and_then}
use Rattle.pieces.specs.declared.Budget.{Budget}
use Rattle.pieces.specs.declared.Stop.{Stop}
use Rattle.pieces.specs.declared.Reached.{Reached}
use Rattle.pieces.specs.Walked.{IsRun, moves_as, Spends, Reaches, ends, reaches-run}
use Rattle.pieces.proofs.Events.{level-step, level-none, all-parts, after_none, after-parts}
use Rattle.pieces.proofs.Resuming.{part-stops, part-passes}

pub reaches-as : {run : List ℕ} {x y : spec.Spent} {r : Result Budget Reached} → y ≡ x → Reaches run x r → Reaches run y r
reaches-as {run} {r = r} e f = subst (λ (z : spec.Spent). Reaches run z r) (sym e) f

-- ---- one length after the other

module _ (m : Resolved.Model) (x : List ℕ) (s : State) (named : Bool) (d n : ℕ) (b : Budget) where
  pub longer-passes : (run : List ℕ) (k : ℕ) (c : Budget) → n < d → Spends run k (spend b.further b.met (events_from (moves_as m named x) 0 n s)) (Ok c)
      → spend b.further b.met (levels (moves_as m named x) s (n + 1) (d - n)) ≡ spend c.further c.met (levels (moves_as m named x) s (n + 1 + 1) (d - (n + 1)))
  longer-passes run k c l h = part-passes _ (level-step (moves_as m named x) s n d b.further b.met l) h

  pub longer-stops : (run : List ℕ) (f : Stop) → n < d → n + 1 ≤ length run → Spends run (n + 1) (spend b.further b.met (events_from (moves_as m named x) 0 n s)) (Err f)
      → Reaches run (spend b.further b.met (levels (moves_as m named x) s (n + 1) (d - n))) (Err (record { stop = f; length = n + 1 }))
  longer-stops run f l w h = reaches-run w (part-stops _ (level-step (moves_as m named x) s n d b.further b.met l) h)

  pub longer-over : (run : List ℕ) → d ≤ n → Reaches run (spend b.further b.met (levels (moves_as m named x) s (n + 1) (d - n))) (Ok b)
  longer-over run l = ends (level-none (moves_as m named x) s n d b.further b.met l)

-- ---- all runs

module _ (m : Resolved.Model) (x : List ℕ) (s : State) (named : Bool) (d : ℕ) (b : Budget) where
  pub all-stops : (run : List ℕ) (f : Stop) → Spends run 0 (spend b.further b.met (reaches false (take 0 run) ∷ [])) (Err f) → Reaches run (spend b.further b.met (walk (moves_as m named x) s d)) (Err (record { stop = f; length = 0 }))
  all-stops run f h = reaches-run (omega arith) (part-stops _ (all-parts (moves_as m named x) s d b.further b.met) h)

  pub all-passes : (run : List ℕ) (c : Budget) → Spends run 0 (spend b.further b.met (reaches false (take 0 run) ∷ [])) (Ok c) → spend b.further b.met (walk (moves_as m named x) s d) ≡ spend c.further c.met (levels (moves_as m named x) s (0 + 1) (d - 0))
  all-passes run c h = part-passes _ (all-parts (moves_as m named x) s d b.further b.met) h

-- ---- after a run

module _ (m : Resolved.Model) (x : List ℕ) (s : State) (named : Bool) (d n : ℕ) (b : Budget) (run : List ℕ) where
  pub after-longer : n ≡ 0 → {run' : List ℕ} {r : Result Budget Reached} → Reaches run' (spend b.further b.met (levels (moves_as m named x) s (0 + 1) (d - 0))) r
      → Reaches run' (spend b.further b.met (later (moves_as m named x) s d (take n run))) r
  after-longer o f = reaches-as (rw o (after_none (moves_as m named x) s d b.further b.met)) f

  module _ (some : 1 ≤ n) (long : n ≤ length run) where
    k : n - 1 + 1 ≡ n
    k = omega (arith, some)

    pub after-follows : IsRun (moves_as m named x) s (take n run) → IsRun (moves_as m named x) s (take (n - 1 + 1) run)
    after-follows f = subst (λ (j : ℕ). IsRun (moves_as m named x) s (take j run)) (sym k) f

    parts : spend b.further b.met (later (moves_as m named x) s d (take n run)) ≡ and_then (spend b.further b.met (later_same (moves_as m named x) s (take (n - 1 + 1) run))) (levels (moves_as m named x) s (n + 1) (d - n))
    parts =
        after-parts (moves_as m named x) s d b.further b.met (take n run) n (length-take n run ∙ omega (arith, long))
        ∙ ap (λ (j : ℕ). and_then (spend b.further b.met (later_same (moves_as m named x) s (take j run))) (levels (moves_as m named x) s (n + 1) (d - n))) (sym k)

    pub after-stops : (run' : List ℕ) (f : Stop) → n ≤ length run' → Spends run' (n - 1 + 1) (spend b.further b.met (later_same (moves_as m named x) s (take (n - 1 + 1) run))) (Err f)
        → Reaches run' (spend b.further b.met (later (moves_as m named x) s d (take n run))) (Err (record { stop = f; length = n }))
    after-stops run' f w h = reaches-run w (part-stops _ parts (subst (λ (j : ℕ). Spends run' j (spend b.further b.met (later_same (moves_as m named x) s (take (n - 1 + 1) run))) (Err f)) k h))

    pub after-passes : (run' : List ℕ) (j : ℕ) (c : Budget) → Spends run' j (spend b.further b.met (later_same (moves_as m named x) s (take (n - 1 + 1) run))) (Ok c)
        → spend b.further b.met (later (moves_as m named x) s d (take n run)) ≡ spend c.further c.met (levels (moves_as m named x) s (n + 1) (d - n))
    after-passes run' j c h = part-passes _ parts h
