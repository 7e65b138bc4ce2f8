-- The part is zeros; then each entry takes its place.
use mathlib.Core.Path.{◌≡◌, ap, ◌∙◌}
use mathlib.Core.List.{List}
use Prim.Native.Nat.{ℕ}
use native.Mathlib.Omega.{arith}
use lib.IntN.{ℤ, pos}
use lib.ListN.{replicate, take, set, get_or}
use Rattle.value.proofs.Kit.{back}
use Rattle.underway.specs.Buffer.{run_numbers}
use Rattle.underway.proofs.Written.{run-start, run-more}
use Rattle.underway.proofs.put_run.Goals as goal

pub loop-i-init : goal.loop-i-init
loop-i-init c =
    c.fill.ensures.after (λ y e. e) ∙ ap (λ (n : ℕ). replicate n (pos 0)) c.requires.0 ∙ run-start c.args.run.now

pub loop-i-preserved : goal.loop-i-preserved
loop-i-preserved c =
    let x = get_or c.args.run.now c.loop-i.i 0 in
    let w = c.fits-run c.loop-i.i in
    rw (c.from.ensures, back (pos x) (omega (arith, w))) (ap (λ (l : List ℤ). set l c.loop-i.i (pos x)) c.loop-i.invariant ∙ run-more c.args.run.now c.loop-i.i (omega arith) c.told-run)

pub returns : goal.returns
returns c =
    let e : c.loop-i.i ≡ c.args.n = omega arith in c.loop-i.invariant ∙ ap (λ (i : ℕ). run_numbers (take i c.args.run.now)) e
