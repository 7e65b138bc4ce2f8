-- The answer of the step is the machine's (machine: Machine.taken): its number, and the numbers of the state that it leaves. By cases of the three questions.
use mathlib.Core.Path.{◌≡◌, refl, ap, ◌∙◌}
use mathlib.Core.List.{List}
use mathlib.Core.Bool.{Bool, true, false, cond}
use Prim.Native.Nat.{ℕ}
use lib.Dec.{leb}
use lib.IntN.{ℤ}
use lib.ListN.{length}
use Rattle.std.specs.Prelude.{Err, Ok}
use Rattle.model.specs.Resolved
use Rattle.rules.specs.Rules.{Key}
use Rattle.rules.specs.Listing.{Entry}
use Rattle.machine.specs.State.{State, state_numbers}
use Rattle.machine.specs.Machine.{listed_as, refusing, accepting, entry_arguments, entry_state, taken}
use Rattle.step.specs.declared.Refusal.TheVariants.{Arguments, Processes, Pairs}
use Rattle.step.specs.Enter.{number_of, verdict, state_of, Answers, Taken}

asked : (a b d : Bool) (s s' : State) (es : List Entry) (c : ℕ)
    → let t = cond a (cond b (cond d (accepting s' es c) (refusing s es 19)) (refusing s es 18)) (refusing s es 17) in
    let r = cond a (cond b (cond d (Ok tt) (Err Pairs)) (Err Processes)) (Err Arguments) in
    (t.answer.number ≡ number_of r) × (state_of r s s' ≡ t.machine)
unfolding listed_as number_of state_of
asked true true true s s' es c = (refl, refl)
asked true true false s s' es c = (refl, refl)
asked true false d s s' es c = (refl, refl)
asked false b d s s' es c = (refl, refl)

module _ (m : Resolved.Model) (s : State) (es : List Entry) (c : ℕ) (k : Key) (r : Taken) (zs : List ℤ) (h : Answers (entry_arguments m s k) s (entry_state m s k) r zs) where
  pub taken-number : (taken m s es c k).answer.number ≡ number_of r
  unfolding taken verdict
  taken-number =
      rw h.is (asked (entry_arguments m s k) (leb (length (entry_state m s k).processes) 256) (leb (length (entry_state m s k).pairs) 256) s (entry_state m s k) es c).0

  pub taken-state : zs ≡ state_numbers (taken m s es c k).machine
  unfolding taken verdict
  taken-state =
      h.numbers ∙ ap state_numbers (rw h.is (asked (entry_arguments m s k) (leb (length (entry_state m s k).processes) 256) (leb (length (entry_state m s k).pairs) 256) s (entry_state m s k) es c).1)
