-- Each answer is a case of the definition; the numbers after the name are copied.
use mathlib.Core.Path.{refl, sym, ap₂, ◌∙◌}
use Prim.Native.Nat.{◌+◌, ◌-◌, ◌*◌, ℕ}
use native.Mathlib.Omega.{arith}
use Rattle.std.proofs.lemmas.Result.{err_from_is_err_and}
use mathlib.Core.List.{List}
use lib.IntN.{ℤ}
use Rattle.machine.specs.Saves.{first_of, save_limit, key_width, timed_length, place_width}
use Rattle.saves.specs.Places.{has_key}
use Rattle.saves.specs.Change.{below}
use Rattle.saves.proofs.Laws.{ok-none, ok-some, below-none, below-some, return-unnamed, return-unknown, return-put}
use Rattle.saves.proofs.return_to.Goals as goal

pub returns-in_err-key : goal.returns-in_err-key
returns-in_err-key c =
    let p = err_from_is_err_and c.from_residual.result c.from_residual.ensures.1 in
    let o = ok-none _ _ _ (sym c.ok_or.ensures.value ∙ c.in_err-key.was) in
    rw (p.1, p.2, o.1) (return-unnamed c.args.name.now c.args.kept.now c.args.saves.now (o.0 ∙ c.key_of.ensures))

pub returns-in_err-at : goal.returns-in_err-at
returns-in_err-at c =
    let p = err_from_is_err_and c.from_residual-in_err-at.result c.from_residual-in_err-at.ensures.1 in
    let o = ok-none _ _ _ (sym c.ok_or-2.ensures.value ∙ c.in_err-at.was) in
    rw (p.1, p.2, o.1) (return-unknown c.args.name.now c.args.kept.now c.args.saves.now _ (ok-some _ _ _ (sym c.ok_or.ensures.value ∙ c.in_ok-key.was) ∙ c.key_of.ensures) _ refl (below-none save_limit _ (o.0 ∙ c.find_place.ensures.place ∙ ap₂ (λ (n : ℕ) (rs : List (List ℤ)). below n (first_of (has_key c.in_ok-key.key) rs)) c.places_in.ensures.1 c.places_in.ensures.0)))

pub returns : goal.returns
returns c =
    let b = below-some save_limit _ _ (ok-some _ _ _ (sym c.ok_or-2.ensures.value ∙ c.in_ok-at.was) ∙ c.find_place.ensures.place ∙ ap₂ (λ (n : ℕ) (rs : List (List ℤ)). below n (first_of (has_key c.in_ok-key.key) rs)) c.places_in.ensures.1 c.places_in.ensures.0) in
    let at = c.in_ok-at.at in
    return-put c.args.name.now c.args.kept.now c.args.saves.now _ (ok-some _ _ _ (sym c.ok_or.ensures.value ∙ c.in_ok-key.was) ∙ c.key_of.ensures) at b.0 b.1 (at * place_width + key_width + timed_length - (at * place_width + key_width)) (omega arith) _ c.copy_from_slice.ensures.after
