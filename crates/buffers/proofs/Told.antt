-- What carrying on answers, of the buffers: from the rule machine's own, by the theorem over every list of calls.
use mathlib.Core.Path.{◌≡◌, sym, subst}
use mathlib.Core.List.{List, map}
use mathlib.Core.Option.{none}
use Prim.Native.Nat.{ℕ}
use Rattle.machine.specs.Machine.{Answer, Held, closed, holding, carry', on', after}
use Rattle.machine.specs.Results.{Lent}
use Rattle.machine.specs.Pieces.{in_force, Told}
use Rattle.machine.proofs.Pieces as machine
use Rattle.buffers.specs.Parts.{fresh}
use Rattle.buffers.specs.Calls.{BufferCall, effect_of, fed, engine_after}
use Rattle.buffers.specs.Pieces.{PiecesTold}
use Rattle.buffers.proofs.Every.{call-goes, every-list}

told : (n : ℕ) (cs : List BufferCall) (c : BufferCall) → c.ask ≡ on' (carry' n) → Lent (fed c) → (h : Held) → after closed (map fed cs) ≡ holding h
    → Told n (effect_of (engine_after fresh cs) c).answer (in_force none closed (map fed cs))
unfolding fed
told n cs c a l h e =
    subst (λ (x : Answer). Told n x (in_force none closed (map fed cs))) (sym (call-goes (every-list cs).1 c).answer) (machine.told (map fed cs) (fed c) n h a l e)

-- 02, note 10
pub pieces-told : PiecesTold
pieces-told = record { told = told }
