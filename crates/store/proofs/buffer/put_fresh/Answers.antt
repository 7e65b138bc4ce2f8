-- The header of a fresh engine is zeros over zeros.
use mathlib.Core.Path.{refl, ap, ◌∙◌}
use Prim.Native.Nat.{ℕ}
use lib.IntN.{pos}
use lib.ListN.{replicate}
use native.Mathlib.Omega.{arith}
use Rattle.machine.specs.State.{state_length}
use Rattle.machine.specs.Machine.{model_length}
use Rattle.store.proofs.Bytes.{fresh-header}
use Rattle.store.proofs.buffer.put_fresh.Goals as goal

pub returns : goal.returns
returns c =
    let m = c.fill.ensures.after (λ y e. e) ∙ ap (λ (n : ℕ). replicate n 0) c.requires.0 in
    let s = c.fill-2.ensures.after (λ y e. e) ∙ ap (λ (n : ℕ). replicate n (pos 0)) c.requires.1 in
    let h = c.fresh.ensures in (
      fresh-header model_length _ 0 (omega arith) (c.put_header.ensures.0 ∙ rw (h.0, m) refl),
      fresh-header state_length _ (pos 0) (omega arith) (c.put_header.ensures.1 ∙ rw (h.1, h.2, s) refl),
    )
