-- After every list of calls on the fresh engine's buffers, a call that carries a search on answers the count since the beginning in force, whatever lay between, and at the end what one call at the
-- state where it began answers (02, note 10). Definition only.
use Rattle.std.specs.Prelude.{◌≡◌, List, map, ℕ}
use Rattle.std.proofs.Math.Option.{none}
use Rattle.machine.specs.Machine.{Held, closed, holding, carry', on', after}
use Rattle.machine.specs.Results.{Lent}
use Rattle.machine.specs.Pieces.{in_force, Told}
use Rattle.buffers.specs.Parts.{fresh}
use Rattle.buffers.specs.Calls.{BufferCall, effect_of, fed, engine_after}

-- 02, note 10: of every list of calls that leaves a model held, and a call that carries on after it and is lent what it needs: what is told of the beginning in force
pub record PiecesTold : Type 0 where
  pub told : (n : ℕ) (cs : List BufferCall) (c : BufferCall) → c.ask ≡ on' (carry' n) → Lent (fed c) → (h : Held) → after closed (map fed cs) ≡ holding h
      → Told n (effect_of (engine_after fresh cs) c).answer (in_force none closed (map fed cs))
