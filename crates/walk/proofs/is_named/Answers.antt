-- The bytes at the token's place are its word.
use Rattle.token.specs.Token.{same_bytes}
use Rattle.walk.proofs.Sought.{same-is, word-is}
use mathlib.Core.Path.{ap, ◌∙◌}
use mathlib.Core.List.{List}
use Prim.Native.Nat.{ℕ}
use native.Mathlib.Omega.{arith}
use Rattle.walk.proofs.is_named.Goals as goal

pub overflow_add-to : goal.overflow_add-to
overflow_add-to c =
    let w = c.requires.1.within c.args.token in let a = c.number_at-from.ensures in let b = c.number_at-size.ensures in let g = c.well_formed in omega arith

pub slice_bounds-eq-end : goal.slice_bounds-eq-end
slice_bounds-eq-end c =
    let w = c.requires.1.within c.args.token in let a = c.number_at-from.ensures in let b = c.number_at-size.ensures in let g = c.well_formed in omega arith

pub returns : goal.returns
returns c =
    λ u h.
    c.eq.ensures ∙ same-is _ _ ∙ ap (λ (l : List ℕ). same_bytes l c.args.name.now) (word-is u c.args.written.text.now c.args.written.places.now c.args.written.sizes.now c.args.token c.number_at-from.result c.number_at-size.result h c.number_at-from.ensures c.number_at-size.ensures)
