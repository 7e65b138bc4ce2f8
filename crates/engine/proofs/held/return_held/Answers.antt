-- What is kept under the name, over the state; refused, nothing moves.
use mathlib.Core.Path.{refl, sym, ap, ap₂, ◌∙◌}
use mathlib.Core.List.{[], ◌∷◌}
use native.Mathlib.Omega.{arith}
use lib.IntN.{ℤ}
use lib.ListN.{length-take}
use Rattle.value.proofs.Kit.{back}
use Rattle.state.specs.Test.{at}
use Rattle.saves.specs.Kept.{clock_at}
use Rattle.saves.specs.Change.{number_of}
use Rattle.saves.proofs.Clocks.{last-two}
use Rattle.engine.proofs.Stored.{returned-no, returned-yes, readable, refused-stores, refusal-positive}
use Rattle.engine.proofs.held.return_held.Goals as goal

pub returns-in-Err : goal.returns-in-Err
returns-in-Err c =
    returned-no c.args.name.now c.args.state.now c.args.saves.now c.args.clock _ _ _ _ _ _ c.of.ensures c.from.ensures c.put_kept.ensures (refused-stores refl c.in-Err.is c.return_to.ensures) (refusal-positive c.in-Err.refusal)

pub slice_bounds-copy_from_slice-end : goal.slice_bounds-copy_from_slice-end
slice_bounds-copy_from_slice-end c =
    simp length-take (omega (arith, c.return_to.array_long))

pub copy_from_slice-requires : goal.copy_from_slice-requires
copy_from_slice-requires c =
    simp length-take (omega (arith, c.return_to.array_long, c.requires.0))

pub clock_at-requires : goal.clock_at-requires
clock_at-requires c =
    rw (back _ c.clock_at-arg-1.given, back _ c.clock_at-arg-2-1.given)
    (readable c.args.name.now c.args.state.now c.args.saves.now c.args.clock c.put_kept.ensures c.return_to.ensures (ap number_of c.in_default.is) c.requires.3 c.return_to.array_long)

pub returns : goal.returns
returns c =
    let ks = c.return_to.new.kept in
    let clock = ap₂ (λ (y z : ℤ). clock_at (y ∷ z ∷ [])) (back (at ks 5122) c.clock_at-arg-1.given) (back (at ks 5123) c.clock_at-arg-2-1.given) ∙ ap clock_at (sym (last-two ks 5122 c.return_to.array_long)) in
    returned-yes c.args.name.now c.args.state.now c.args.saves.now c.args.clock _ ks _ _ _ _ _ _ c.of-2.ensures c.bare.ensures c.put_kept.ensures c.return_to.ensures (ap number_of c.in_default.is) (c.clock_at.ensures ∙ clock) c.copy_from_slice.ensures.after
