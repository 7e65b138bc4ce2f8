-- After an accepted opening under the steady profile, whatever was called before it, no call up to the next opening is answered with 18, after no step does the state hold more
-- processes, and never does it hold more than the opening left. From the machine's promises, since every list of calls does to the buffers what it does to the machine.
use mathlib.Core.Path.{◌≡◌, sym, ap, subst, ◌∙◌}
use mathlib.Core.List.{List, [], ◌∷◌, map}
use Prim.Native.Nat.{ℕ, ◌≤◌}
use lib.IntN.{ℤ, pos, nat_abs}
use lib.ListN.{length, get_or}
use Rattle.model.specs.Good.{Every}
use Rattle.machine.specs.State.{state_numbers}
use Rattle.machine.specs.Machine.{Answer, Machine, closed, Ask, open_steady', Call, call, state, calls, after}
use Rattle.machine.specs.Steady.{processes_in, OpensNothing}
use Rattle.machine.specs.Steady as machine
use Rattle.machine.proofs.Profile.{steady-calls, steady-within}
use Rattle.buffers.specs.Parts.{Engine, fresh, numbers_of}
use Rattle.buffers.specs.Calls.{BufferCall, effect_of, left_by, lent_lengths, fed, engine_after, Holds, zeros, held}
use Rattle.buffers.specs.Steady.{process_count, AllSteadily, none, more}
use Rattle.buffers.proofs.Every.{call-goes, every-list}

-- a buffer's count of processes is the machine's
count-is : {x : Engine} {y : Machine} → Holds x y → process_count x ≡ processes_in y
unfolding process_count processes_in fresh numbers_of state_numbers
count-is (zeros e) = ap (λ (l : List ℤ). nat_abs (get_or l 0 (pos 0))) (e state)
count-is (held text m e g) = ap (λ (l : List ℤ). nat_abs (get_or l 0 (pos 0))) (e state)

-- what a call asks is what the machine is asked
asked_is : (c : BufferCall) {k : Ask} → c.ask ≡ k → (fed c).ask ≡ k
unfolding fed
asked_is c q = q

fed-is : (c : BufferCall) {k : Ask} → c.ask ≡ k → call k (lent_lengths c) (length c.output) ≡ fed c
unfolding fed
fed-is c q = ap (λ (k : Ask). call k (lent_lengths c) (length c.output)) (sym q)

from-any : (x : Engine) (y : Machine) → Holds x y → (cs : List BufferCall) → machine.AllSteadily y (map fed cs) → AllSteadily x cs
from-any x y h [] a = none
from-any x y h (c ∷ cs) (machine.more s r) =
    let g = call-goes h c in
    more (record {
      not-eighteen = λ e. s.not-eighteen (ap (λ (a : Answer). a.number) (sym g.answer) ∙ e);
      no_more = λ r q i. subst (λ (n : ℕ). n ≤ process_count x) (sym (count-is g.left)) (subst (λ (n : ℕ). processes_in (calls y (fed c)).machine ≤ n) (sym (count-is h)) (s.no_more r (asked_is c q) i));
    })
    (from-any (left_by x c) (calls y (fed c)).machine g.left cs r)

every-fed : (cs : List BufferCall) → Every (λ (c : BufferCall). OpensNothing (fed c)) cs → Every OpensNothing (map fed cs)
unfolding Every
every-fed [] g = tt
every-fed (c ∷ cs) g = (g.0, every-fed cs g.1)

-- 02, note 11: from the fresh engine, after any calls, an opening under the profile that is accepted, and then any calls that open nothing
pub steady-list : (before : List BufferCall) (c : BufferCall) (text : List ℕ) → c.ask ≡ open_steady' text → (effect_of (engine_after fresh before) c).answer.number ≡ 0
    → (cs : List BufferCall) → Every (λ (b : BufferCall). OpensNothing (fed b)) cs → AllSteadily (left_by (engine_after fresh before) c) cs
steady-list before c text q e cs g =
    let h = (every-list before).1 in
    let t = call-goes h c in
    from-any _ _ t.left cs
    (subst (λ (k : Call). machine.AllSteadily (calls (after closed (map fed before)) k).machine (map fed cs)) (fed-is c q)
    (steady-calls (after closed (map fed before)) text (lent_lengths c) (length c.output)
    (ap (λ (k : Call). (calls (after closed (map fed before)) k).answer.number) (fed-is c q) ∙ ap (λ (a : Answer). a.number) (sym t.answer) ∙ e) (map fed cs) (every-fed cs g)))

holds_after : (x : Engine) (y : Machine) → Holds x y → (cs : List BufferCall) → Holds (engine_after x cs) (after y (map fed cs))
unfolding engine_after after
holds_after x y h [] = h
holds_after x y h (c ∷ cs) = holds_after (left_by x c) (calls y (fed c)).machine (call-goes h c).left cs

-- 02, note 11: and after them the state holds no more processes than the opening left
pub steady-few : (before : List BufferCall) (c : BufferCall) (text : List ℕ) → c.ask ≡ open_steady' text → (effect_of (engine_after fresh before) c).answer.number ≡ 0
    → (cs : List BufferCall) → Every (λ (b : BufferCall). OpensNothing (fed b)) cs → let x = left_by (engine_after fresh before) c in process_count (engine_after x cs) ≤ process_count x
steady-few before c text q e cs g =
    let t = call-goes (every-list before).1 c in
    subst (λ (n : ℕ). n ≤ process_count (left_by (engine_after fresh before) c)) (sym (count-is (holds_after _ _ t.left cs)))
    (subst (λ (n : ℕ). processes_in (after (calls (after closed (map fed before)) (fed c)).machine (map fed cs)) ≤ n) (sym (count-is t.left))
    (subst (λ (k : Call). let z = (calls (after closed (map fed before)) k).machine in processes_in (after z (map fed cs)) ≤ processes_in z) (fed-is c q)
    (steady-within (after closed (map fed before)) text (lent_lengths c) (length c.output)
    (ap (λ (k : Call). (calls (after closed (map fed before)) k).answer.number) (fed-is c q) ∙ ap (λ (a : Answer). a.number) (sym t.answer) ∙ e) (map fed cs) (every-fed cs g))))
