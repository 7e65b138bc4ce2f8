-- The three tests of a draw within a run, each a case of `next_in_run`.
use native.Mathlib.Omega.{arith}
use Rattle.waits.proofs.Reading.{goes_on, ends-odd, ends_last, ends-even}
use Rattle.waits.proofs.next_in_run.Goals as goal

pub returns-then-draw-last : goal.returns-then-draw-last
returns-then-draw-last c =
    let r = goes_on _ _ _ _ _ c.requires (omega (arith, c.ranges.first.fits)) c.if-draw-last.true in record { value = r.0; fits = r.1 }

pub returns-then-odd : goal.returns-then-odd
returns-then-odd c =
    let r = (ends-odd _ _ _ _ c.requires (omega (arith, c.ranges.first.fits)) c.if-draw-last.false) in record { value = rw (c.if-odd.true, c.from.ensures) r.0; fits = rw c.from.ensures r.1 }

pub returns-then-next-eq-RUNS : goal.returns-then-next-eq-RUNS
returns-then-next-eq-RUNS c =
    let r = (ends_last _ _ _ _ c.if-draw-last.false c.if-next-eq-RUNS.true) in record { value = rw c.if-odd.false r.0; fits = r.1 }

pub returns : goal.returns
returns c =
    let r = (ends-even _ _ _ _ c.requires c.if-draw-last.false c.if-next-eq-RUNS.false) in record { value = rw c.if-odd.false r.0; fits = r.1 }
