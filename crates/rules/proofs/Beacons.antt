-- A transition of one process is a wait or a beacon transition, and no beacon transition is a handshake. By cases.
use mathlib.Core.Path.{◌≡◌, refl}
use mathlib.Core.Logic.{◌⊎◌, inl, inr}
use Prim.Native.Nat.{ℕ}
use native.Mathlib.Omega.{arith}
use Rattle.rules.specs.Offers.{Action}
use Rattle.rules.specs.Kind as kind
use Rattle.rules.specs.Rules.{Alone, waits, launches, kills, receives, binds, checks, Beacon, launch-kind, kill-kind, receive-kind, bind-kind, check-kind}

pub wait-or-beacon : {a : Action} {c : ℕ} → Alone a c → (c ≡ kind.wait) ⊎ Beacon c
wait-or-beacon waits = inl refl
wait-or-beacon launches = inr launch-kind
wait-or-beacon kills = inr kill-kind
wait-or-beacon receives = inr receive-kind
wait-or-beacon binds = inr bind-kind
wait-or-beacon checks = inr check-kind

pub no-wait-no-handshake : {c : ℕ} → Beacon c → (c ≡ kind.wait → ⊥) × (c ≡ kind.handshake → ⊥)
no-wait-no-handshake launch-kind = (λ e. omega arith, λ e. omega arith)
no-wait-no-handshake kill-kind = (λ e. omega arith, λ e. omega arith)
no-wait-no-handshake receive-kind = (λ e. omega arith, λ e. omega arith)
no-wait-no-handshake bind-kind = (λ e. omega arith, λ e. omega arith)
no-wait-no-handshake check-kind = (λ e. omega arith, λ e. omega arith)
