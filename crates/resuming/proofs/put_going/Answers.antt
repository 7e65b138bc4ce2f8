-- Where it stands is written, or zeros.
use mathlib.Core.Path.{sym, ap, ◌∙◌}
use Prim.Native.Nat.{ℕ}
use lib.IntN.{pos}
use lib.ListN.{replicate}
use Rattle.underway.proofs.Written.{cleared-search}
use native.Mathlib.Omega.{arith}
use Rattle.resuming.proofs.Told.{comes-so, on-sound, on-written, on-tells, over-written, over-tells, count-on}
use Rattle.resuming.proofs.put_going.Goals as goal

pub put_carried-requires : goal.put_carried-requires
put_carried-requires c =
    let s = on-sound (comes-so c.in-On.is c.requires.0.1) in
    let a = s.short in
    let b = s.room in
    (c.requires.1, count-on c.in-On.is c.requires.2, omega (arith, a, b))

pub returns-in-On : goal.returns-in-On
returns-in-On c =
    λ m x g fine pass q h.
    let k = comes-so c.in-On.is h in
    (c.put_carried.ensures ∙ on-written m fine c.args.search.now c.requires.1 pass x q g c.in-On.position k, rw c.bare.ensures (on-tells x g c.in-On.position k))

pub ended_as-requires : goal.ended_as-requires
ended_as-requires c =
    (c.requires.0.0, comes-so c.in-Over.is c.requires.0.1)

pub returns-in-Over : goal.returns-in-Over
returns-in-Over c =
    λ m x g fine pass q h.
    let k = comes-so c.in-Over.is h in
    (over-written m fine c.args.search.now c.requires.1 pass x q g c.in-Over.ended _ k (c.fill.ensures.after (λ y e. e) ∙ ap (λ (n : ℕ). replicate n (pos 0)) c.requires.1 ∙ sym cleared-search), over-tells x g c.in-Over.ended c.ended_as.result k c.ended_as.ensures)
