-- The buffer's search stands where the walk over tables is asked from.
use mathlib.Core.Path.{refl, sym, ap, ◌∙◌, subst}
use native.Mathlib.Omega.{arith}
use lib.ListN.{length}
use Rattle.std.specs.Option.{IsSome}
use Rattle.machine.specs.Machine.{moves_by}
use Rattle.runs.proofs.Marks.{carry-counts, counts-within}
use Rattle.state.specs.Test.{at}
use Rattle.state.proofs.Tests.{below-bound}
use Rattle.step.specs.Enter as enter
use Rattle.underway.specs.Buffer.{wait_of, under_in}
use Rattle.resuming.proofs.Standing.{natural-so, head, stands, count-is, placed-there, start-is, sound, mark-so, carried-so}
use Rattle.resuming.proofs.Told.{count-within}
use Rattle.resuming.proofs.Waits.{waits-long}
use Rattle.resuming.proofs.going_of.Goals as goal

pub position_in-requires : goal.position_in-requires
position_in-requires c =
    let m = c.requires.0.0 in let h = c.requires.0.1 in let w = c.requires.0.2 in let l = c.args.search.now in
    let k = head m h.good l c.requires.1 c.requires.0.3 c.requires.2 in
    (c.requires.1, natural-so _ (at l 2) k.count, natural-so _ (at l 4) k.short)

pub unwrap-position-requires : goal.unwrap-position-requires
unwrap-position-requires c =
    let m = c.requires.0.0 in let h = c.requires.0.1 in let w = c.requires.0.2 in let l = c.args.search.now in
    let p = placed-there m h.good l c.requires.1 c.requires.0.3 c.requires.2 in
    subst IsSome (sym (c.position_in.ensures ∙ p.1)) refl

pub number_at-code-requires : goal.number_at-code-requires
number_at-code-requires c =
    let m = c.requires.0.0 in let h = c.requires.0.1 in let w = c.requires.0.2 in let l = c.args.search.now in
    let k = head m h.good l c.requires.1 c.requires.0.3 c.requires.2 in
    let o = c.requires.1 in
    (omega arith, natural-so _ (at l 1) k.wait)

pub number_at-depth-requires : goal.number_at-depth-requires
number_at-depth-requires c =
    let m = c.requires.0.0 in let h = c.requires.0.1 in let w = c.requires.0.2 in let l = c.args.search.now in
    let k = head m h.good l c.requires.1 c.requires.0.3 c.requires.2 in
    let o = c.requires.1 in
    (omega arith, natural-so _ (at l 0) k.depth)

pub sought_of-sought-requires : goal.sought_of-sought-requires
sought_of-sought-requires c =
    let m = c.requires.0.0 in let h = c.requires.0.1 in let w = c.requires.0.2 in let l = c.args.search.now in
    let k = head m h.good l c.requires.1 c.requires.0.3 c.requires.2 in
    let o = below-bound _ (at l 1) k.wait in
    let e = c.number_at-code.ensures in
    let n = ap length w ∙ sym (waits-long m) in
    ((m, h, w), omega (arith, o, e, n))

pub carry_on-requires : goal.carry_on-requires
carry_on-requires c =
    let m = c.requires.0.0 in let h = c.requires.0.1 in let w = c.requires.0.2 in let l = c.args.search.now in
    let g = c.sought_of-sought.ensures m h w in
    let q = sym c.position_in.ensures ∙ c.unwrap-position.ensures in
    let k = head m h.good l c.requires.1 c.requires.0.3 c.requires.2 in
    let o = below-bound _ (at l 0) k.depth in
    let d = c.number_at-depth.ensures in
    let p = c.unwrap-position.result in
    let r = c.requires.3 in
    let t = count-is l p q in (
      (
        m,
        (under_in m l).start,
        g.0,
        subst (λ z. enter.Stands z m (under_in m l).start) (sym (start-is l)) (stands m h.good l c.requires.1 c.requires.0.3 c.requires.2),
        mark-so m h.good l c.requires.1 c.requires.0.3 c.requires.2 p q _ (g.1 ∙ ap (λ j. moves_by m (wait_of j)) c.number_at-code.ensures) _ d,
      ),
      omega (arith, o, d),
      sound l p q k c.requires.1,
      omega (arith, r, t),
    )

pub returns-clause-within : goal.returns-clause-within
returns-clause-within c =
    let m = c.requires.0.0 in let h = c.requires.0.1 in let w = c.requires.0.2 in let l = c.args.search.now in
    let g = c.sought_of-sought.ensures m h w in
    let q = sym c.position_in.ensures ∙ c.unwrap-position.ensures in
    let p = c.unwrap-position.result in
    let r = c.requires.3 in
    let t = count-is l p q in
    let s = c.carry_on.ensures m (under_in m l).start g.0 (subst (λ z. enter.Stands z m (under_in m l).start) (sym (start-is l)) (stands m h.good l c.requires.1 c.requires.0.3 c.requires.2))
    (mark-so m h.good l c.requires.1 c.requires.0.3 c.requires.2 p q _ (g.1 ∙ ap (λ j. moves_by m (wait_of j)) c.number_at-code.ensures) _ c.number_at-depth.ensures) in
    count-within s (counts-within (omega (arith, r, t)) (carry-counts _ _ _ c.args.number p.count _))

pub returns-clause-going : goal.returns-clause-going
returns-clause-going c =
    λ m h w e.
    let l = c.args.search.now in
    let g = c.sought_of-sought.ensures m h w in
    let q = sym c.position_in.ensures ∙ c.unwrap-position.ensures in
    let p = c.unwrap-position.result in
    let v = g.1 ∙ ap (λ j. moves_by m (wait_of j)) c.number_at-code.ensures in
    let f = c.number_at-depth.ensures in
    carried-so m h.good l c.requires.1 e c.requires.2 p q _ v _ f c.args.number c.carry_on.result
    (c.carry_on.ensures m (under_in m l).start g.0 (subst (λ z. enter.Stands z m (under_in m l).start) (sym (start-is l)) (stands m h.good l c.requires.1 e c.requires.2))
    (mark-so m h.good l c.requires.1 e c.requires.2 p q _ v _ f))
