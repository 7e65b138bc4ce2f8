-- The slots of a model's processes, branch by branch and place by place, as they are collected. Assumes nothing: these are definitions.
use Rattle.std.specs.Prelude.{List, [], ◌∷◌, ◌++◌, ℕ, suc, ℤ}
use Rattle.std.proofs.Math.Option.{Option, Option-elim}
use Rattle.model.specs.Resolved
use Rattle.rules.specs.Offers as offers
use Rattle.machine.specs.Evaluate.{eval_branch}
use Rattle.machine.specs.Offer.{Process, branches_of}
use Rattle.offers.specs.Slots.{Slot, slot_of}

-- what a branch offers; one without value, which 12 refuses, as if it were hidden
unfoldable pub guard_or : Option offers.Guard → offers.Guard
guard_or g = Option-elim g offers.shut (λ x. x)

-- the slots of branches counted from j on, at place i
unfoldable pub slots_from : List ℤ → (i j : ℕ) → List Resolved.Branch → List Slot
slots_from ls i j [] = []
slots_from ls i j (b ∷ bs) = slot_of i j (guard_or (eval_branch ls b)) ++ slots_from ls i (suc j) bs

-- the slots of processes counted from place i on
unfoldable pub slots_of : Resolved.Model → (i : ℕ) → List Process → List Slot
slots_of m i [] = []
slots_of m i (p ∷ ps) = slots_from p.locals i 0 (branches_of m p) ++ slots_of m (suc i) ps
