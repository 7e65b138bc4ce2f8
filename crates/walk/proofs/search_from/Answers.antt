use Rattle.walk.proofs.Walking.{longer-start, longer-lost, longer-found, longer-over, stands-kept}
use mathlib.Core.Path.{refl, ◌∙◌}
use Prim.Native.Nat.{◌<◌}
use native.Mathlib.Omega.{arith}
use borrow.Author.Rules.{rules}
use Rattle.walk.proofs.search_from.Goals as goal

pub loop-more-init : goal.loop-more-init
loop-more-init c =
    (refl, refl, refl, refl, λ m s h st. longer-start m c.args.search.name.now s c.args.depth)

pub seek-hit-requires : goal.seek-hit-requires
seek-hit-requires c =
    let p = c.requires.1.states in
    let q = c.requires.1.listings in
    let r = c.requires.1.entries in
    let a = c.loop-more.invariant.1 in
    let b = c.loop-more.invariant.2 in
    let d = c.loop-more.invariant.3 in
    ((c.requires.0.0, c.requires.0.1, c.requires.0.2, stands-kept c.loop-more.invariant.0 c.requires.0.3), record { states = omega arith; listings = omega arith; entries = omega arith })

pub returns-in-Ok : goal.returns-in-Ok
returns-in-Ok c =
    λ m s h st.
    let j : c.loop-more.more < c.args.depth = omega arith in
    let u = c.seek-hit.ensures.0 m s h (stands-kept c.loop-more.invariant.0 st) in
    longer-found m c.args.search.name.now s c.args.depth c.loop-more.more c.loop-more.missed (c.loop-more.invariant.4 m s h st) _ _ (omega (arith, c.requires.1.entries, c.loop-more.invariant.3)) j u c.in-Ok.is

pub loop-more-preserved : goal.loop-more-preserved
loop-more-preserved c = (
  c.seek-hit.ensures.1 ∙ c.loop-more.invariant.0,
  search rules,
  search rules,
  search rules,
  λ m s h st.
      let j : c.loop-more.more < c.args.depth = omega arith in
      let u = c.seek-hit.ensures.0 m s h (stands-kept c.loop-more.invariant.0 st) in
      longer-lost m c.args.search.name.now s c.args.depth c.loop-more.more c.loop-more.missed (c.loop-more.invariant.4 m s h st) _ _ _ _ _ j u c.in-Err.is c.and-missed.ensures,
)

pub returns : goal.returns
returns c =
    λ m s h st. longer-over m c.args.search.name.now s c.args.depth c.loop-more.more c.loop-more.missed (c.loop-more.invariant.4 m s h st) _ (omega arith)
