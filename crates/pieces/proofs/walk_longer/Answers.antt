use Rattle.walk.proofs.Walking.{stands-kept}
use Rattle.pieces.proofs.Resuming.{spends-so}
use Rattle.pieces.proofs.Lengths.{reaches-as, longer-passes, longer-stops, longer-over}
use mathlib.Core.Path.{refl, ◌∙◌}
use Prim.Native.Nat.{◌+◌, ◌≤◌}
use native.Mathlib.Omega.{arith}
use borrow.Author.Rules.{rules}
use lib.ListN.{length}
use Rattle.pieces.proofs.walk_longer.Goals as goal

pub loop-more-init : goal.loop-more-init
loop-more-init c =
    (refl, refl, refl, refl, λ m s h st. refl)

pub seek-walked-requires : goal.seek-walked-requires
seek-walked-requires c =
    let p = c.requires.1.states in
    let q = c.requires.1.listings in
    let r = c.requires.1.entries in
    let a = c.loop-more.invariant.1 in
    let b = c.loop-more.invariant.2 in
    let d = c.loop-more.invariant.3 in
    ((c.requires.0.0, c.requires.0.1, c.requires.0.2, stands-kept c.loop-more.invariant.0 c.requires.0.3), record { states = omega arith; listings = omega arith; entries = omega arith })

pub returns-in-Err : goal.returns-in-Err
returns-in-Err c =
    let o : c.loop-more.more + 1 ≤ length c.seek-walked.new.run = omega (arith, c.requires.1.entries, c.loop-more.invariant.3) in (
      λ m s h st.
          let u = c.seek-walked.ensures.0 m s h (stands-kept c.loop-more.invariant.0 st) in
          reaches-as (c.loop-more.invariant.4 m s h st) (longer-stops m c.args.sought.search.name.now s c.args.sought.named c.args.depth c.loop-more.more c.loop-more.budget _ _ c.loop-more-test.true o (spends-so c.in-Err.is u)),
      c.seek-walked.ensures.1 ∙ c.loop-more.invariant.0,
    )

pub loop-more-preserved : goal.loop-more-preserved
loop-more-preserved c = (
  c.seek-walked.ensures.1 ∙ c.loop-more.invariant.0,
  search rules,
  search rules,
  search rules,
  λ m s h st.
      let u = c.seek-walked.ensures.0 m s h (stands-kept c.loop-more.invariant.0 st) in
      c.loop-more.invariant.4 m s h st ∙ longer-passes m c.args.sought.search.name.now s c.args.sought.named c.args.depth c.loop-more.more c.loop-more.budget _ _ _ c.loop-more-test.true (spends-so c.in-Ok.is u),
)

pub returns : goal.returns
returns c =
    (λ m s h st. reaches-as (c.loop-more.invariant.4 m s h st) (longer-over m c.args.sought.search.name.now s c.args.sought.named c.args.depth c.loop-more.more c.loop-more.budget _ (omega arith)), c.loop-more.invariant.0)
