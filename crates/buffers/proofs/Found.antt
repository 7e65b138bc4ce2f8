-- A return finds the latest accepted save, in the buffers: from the rule machine's own, by the theorem over every list of calls.
use mathlib.Core.Path.{◌≡◌, sym, ap, ◌∙◌}
use mathlib.Core.List.{List, map}
use Prim.Native.Nat.{ℕ}
use native.Mathlib.Omega.{arith}
use Rattle.machine.specs.State.{state_numbers}
use Rattle.machine.specs.Timed.{Timed}
use Rattle.machine.specs.Machine as machine
use Rattle.machine.specs.Machine.{Answer, Held, Machine, closed, holding, return', on', calls, after}
use Rattle.machine.specs.Results.{Lent}
use Rattle.machine.specs.Latest.{Known}
use Rattle.machine.proofs.Latest.{return-finds, return-known}
use Rattle.buffers.specs.Parts.{Engine, clock_numbers, fresh, numbers_of}
use Rattle.buffers.specs.Calls.{BufferCall, effect_of, left_by, fed, engine_after, Holds, zeros, held}
use Rattle.buffers.specs.Found.{Comes, Found}
use Rattle.buffers.proofs.Every.{Goes, call-goes, every-list}

-- the state buffer and the clock of an engine that holds this
kept_in : (x : Engine) (y : Machine) (h : Held) → Holds x y → y ≡ holding h → (x machine.state ≡ state_numbers h.state) × (x machine.clock ≡ clock_numbers h.clock)
unfolding numbers_of
kept_in x y h (zeros e) q = absurd (let z : ◌≡◌ {A = ℕ} 0 1 = cc in omega arith)
kept_in x y h (held {h = k} text m e g) q = let n : k ≡ h = cc in (e machine.state ∙ ap (λ (k : Held). state_numbers k.state) n, e machine.clock ∙ ap (λ (k : Held). clock_numbers k.clock) n)

module _ (n : List ℕ) (cs : List BufferCall) (c : BufferCall) (a : c.ask ≡ on' (return' n)) where
  goes : Goes (engine_after fresh cs) (after closed (map fed cs)) c
  goes = call-goes (every-list cs).1 c

  same_number : (effect_of (engine_after fresh cs) c).answer.number ≡ (calls (after closed (map fed cs)) (fed c)).answer.number
  same_number = ap (λ (a : Answer). a.number) goes.answer

  comes : (effect_of (engine_after fresh cs) c).answer.number ≡ 0 → Comes n cs c
  unfolding fed
  comes e =
      let f = return-finds n (map fed cs) (fed c) a (sym same_number ∙ e) in
      let k = kept_in (left_by (engine_after fresh cs) c) _ f.then-held goes.left f.machine in
      record { kept = f.kept; latest = f.latest; numbers = k.0 ∙ ap (λ (t : Timed). state_numbers t.state) f.is; clock = k.1 ∙ ap (λ (t : Timed). clock_numbers t.clock) f.is }

  accepts : (s : Timed) → Known n closed (map fed cs) s → Lent (fed c) → (effect_of (engine_after fresh cs) c).answer.number ≡ 0
  unfolding fed
  accepts s k l = same_number ∙ return-known n (map fed cs) (fed c) a s k l

-- 02, note 2
pub found : Found
found = record { comes = comes; accepts = λ n cs c s a k l. accepts n cs c a s k l }
