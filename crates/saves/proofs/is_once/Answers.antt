-- An empty place stands once; others by the search among the later ones.
use mathlib.Core.Path.{ap₂, sym, ◌∙◌}
use mathlib.Core.List.{[], ◌∷◌}
use native.Mathlib.Omega.{arith}
use borrow.Author.Tests.{eq-eqb, ne_eqb}
use lib.IntN.{ℤ, pos}
use lib.ListN.{get_or}
use Rattle.value.proofs.Kit.{back, same_bits, ok-fits}
use Rattle.saves.proofs.Laws.{once-empty, once-found}
use Rattle.saves.proofs.is_once.Goals as goal

pub returns-then-place-eq0 : goal.returns-then-place-eq0
returns-then-place-eq0 c =
    sym (once-empty c.args.place.now c.args.later.now (sym (same_bits (get_or c.args.place.now 0 (pos 0)) (pos 0) (ok-fits _ c.t6-1.given) (ok-fits (pos 0) (omega arith))) ∙ eq-eqb _ _ c.if-place-eq0.true))

pub returns : goal.returns
returns c =
    let e = sym (same_bits (get_or c.args.place.now 0 (pos 0)) (pos 0) (ok-fits _ c.t6-1.given) (ok-fits (pos 0) (omega arith))) ∙ ne_eqb _ _ c.if-place-eq0.false in
    once-found c.args.place.now c.args.later.now e _ (ap₂ (λ (y z : ℤ). y ∷ z ∷ []) (back _ c.key-1.given) (back _ c.key-2-1.given)) c.find_place.result c.is_none.result c.is_none.ensures c.find_place.ensures.place
