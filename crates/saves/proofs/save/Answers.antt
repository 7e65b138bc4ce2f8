-- Each answer is a case of the definition; the row of the place is replaced.
use mathlib.Core.Path.{refl, sym, ◌∙◌}
use native.Mathlib.Omega.{arith}
use Rattle.std.proofs.lemmas.Result.{err_from_is_err_and}
use Rattle.machine.specs.Saves.{save_limit}
use Rattle.saves.proofs.Laws.{ok-none, ok-some, below-none, below-some, save-unnamed, save-full, save-put}
use Rattle.saves.proofs.save.Goals as goal

pub returns-in_err-key : goal.returns-in_err-key
returns-in_err-key c =
    let p = err_from_is_err_and c.from_residual.result c.from_residual.ensures.1 in
    let o = ok-none _ _ _ (sym c.ok_or.ensures.value ∙ c.in_err-key.was) in
    rw (p.1, p.2, o.1) (save-unnamed c.args.name.now c.args.kept.now c.args.saves.now (o.0 ∙ c.key_of.ensures))

pub returns-in_err-at : goal.returns-in_err-at
returns-in_err-at c =
    let p = err_from_is_err_and c.from_residual-in_err-at.result c.from_residual-in_err-at.ensures.1 in
    let o = ok-none _ _ _ (sym c.ok_or-2.ensures.value ∙ c.in_err-at.was) in
    rw (p.1, p.2, o.1) (save-full c.args.name.now c.args.kept.now c.args.saves.now _ (ok-some _ _ _ (sym c.ok_or.ensures.value ∙ c.in_ok-key.was) ∙ c.key_of.ensures) _ refl (below-none save_limit _ (o.0 ∙ c.place_for.ensures.place)))

pub returns : goal.returns
returns c =
    let b = below-some save_limit _ _ (ok-some _ _ _ (sym c.ok_or-2.ensures.value ∙ c.in_ok-at.was) ∙ c.place_for.ensures.place) in
    let at = c.in_ok-at.at in
    save-put c.args.name.now c.args.kept.now c.args.saves.now _ (ok-some _ _ _ (sym c.ok_or.ensures.value ∙ c.in_ok-key.was) ∙ c.key_of.ensures) at b.0 b.1 c.requires _ _ c.copy_from_slice.ensures.after c.copy_from_slice-2.ensures.after _ _ (omega arith) (omega arith)
