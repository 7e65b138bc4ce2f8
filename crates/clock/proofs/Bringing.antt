-- Two divisions are one, and each answer of `bring` is a case of `waited`.
use Rattle.std.proofs.Common.{◌≡◌, refl, sym, List, ℕ, true, ◌*◌, ◌/◌, ◌≤◌, ◌<◌, arith, Err, Ok}
use native.Mathlib.Nat.{div-div-eq-div-mul, div-le_self}
use borrow.Author.Tests.{le-leb}
use Rattle.waits.specs.declared.Unread.{Unread}
use Rattle.waits.specs.Runs.{wait_limit, wait_of, Within, Wait}
use Rattle.clock.specs.declared.Clock.{Clock}
use Rattle.clock.specs.Clock.{clock_limit, tick_limit, is_in_range, ticks_of, late_of, Brought, forwarded, waited, brought_by}

pub two-divisions : (e total : ℕ) → (e * 1000000000000) / 65536 / total ≡ ticks_of e total
unfolding ticks_of
two-divisions e total = div-div-eq-div-mul (e * 1000000000000) 65536 total

pub few-ticks : (e total : ℕ) → e < wait_limit → (e * 1000000000000) / 65536 / total < tick_limit
few-ticks e total l =
    let s : (e * 1000000000000) / 65536 < tick_limit = omega arith in
    omega (arith, div-le_self ((e * 1000000000000) / 65536) total)

pub e-small : (n : ℕ) (w : Wait) (e u : ℕ) → Within n w → w ≡ Ok (e, u) → e < wait_limit
unfolding Within
e-small n w e u h p = let g = rw p at h in omega arith

pub came : (c : Clock) (ds : List ℕ) (total : ℕ) (w : Wait) (e u t : ℕ) (r : Brought) → w ≡ wait_of ds → w ≡ Ok (e, u) → t ≡ ticks_of e total → r ≡ forwarded c t u → r ≡ brought_by c ds total
unfolding brought_by waited
came c ds total w e u t r q p k f = rw (← q, p) (rw k at f)

pub unread : (c : Clock) (ds : List ℕ) (total : ℕ) (w : Wait) (u : Unread) → w ≡ wait_of ds → w ≡ Err u → Err (late_of u) ≡ brought_by c ds total
unfolding brought_by waited
unread c ds total w u q p = rw (← q, p) refl

-- question 11
pub both-in : (c : Clock) → c.ticks ≤ clock_limit → c.draws ≤ clock_limit → true ≡ is_in_range c
unfolding is_in_range
both-in c h l = sym (rw (le-leb c.ticks clock_limit h, le-leb c.draws clock_limit l) refl)
