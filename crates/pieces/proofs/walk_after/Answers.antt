-- What comes after a run: the later runs of its length, then the greater lengths.
use Rattle.walk.proofs.Walking.{stands-kept}
use Rattle.pieces.proofs.Resuming.{spends-so}
use Rattle.pieces.proofs.Lengths.{reaches-as, after-longer, after-follows, after-stops, after-passes}
use mathlib.Core.Path.{◌∙◌}
use Prim.Native.Nat.{◌≤◌}
use native.Mathlib.Omega.{arith}
use lib.ListN.{length}
use Rattle.pieces.proofs.walk_after.Goals as goal

pub returns-then-n-eq0 : goal.returns-then-n-eq0
returns-then-n-eq0 c =
    (λ m s h st f. after-longer m c.args.sought.search.name.now s c.args.sought.named c.args.depth c.args.n c.args.left c.args.run.now c.if-n-eq0.true (c.walk_longer.ensures.0 m s h st), c.walk_longer.ensures.1)

pub returns-in-Err : goal.returns-in-Err
returns-in-Err c =
    let r = c.requires.1.entries in
    let o : 1 ≤ c.args.n = omega arith in
    let w : c.args.n ≤ length c.args.run.now = omega arith in (
      λ m s h st f.
          let u = c.resume.ensures.0 m s h st (after-follows m c.args.sought.search.name.now s c.args.sought.named c.args.depth c.args.n c.args.left c.args.run.now o w f) in
          after-stops m c.args.sought.search.name.now s c.args.sought.named c.args.depth c.args.n c.args.left c.args.run.now o w _ _ (omega arith) (spends-so c.in-Err.is u),
      c.resume.ensures.1,
    )

pub returns-in-Ok : goal.returns-in-Ok
returns-in-Ok c =
    let r = c.requires.1.entries in
    let o : 1 ≤ c.args.n = omega arith in
    let w : c.args.n ≤ length c.args.run.now = omega arith in (
      λ m s h st f.
          let u = c.resume.ensures.0 m s h st (after-follows m c.args.sought.search.name.now s c.args.sought.named c.args.depth c.args.n c.args.left c.args.run.now o w f) in
          reaches-as (after-passes m c.args.sought.search.name.now s c.args.sought.named c.args.depth c.args.n c.args.left c.args.run.now o w _ _ _ (spends-so c.in-Ok.is u)) (c.walk_longer-in-Ok.ensures.0 m s h (stands-kept c.resume.ensures.1 st)),
      c.walk_longer-in-Ok.ensures.1 ∙ c.resume.ensures.1,
    )
