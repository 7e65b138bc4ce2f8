-- `listing::Filling::judge` meets its contract: 13, then 14 by the total. From the laws of the finished buffer.
use mathlib.Core.Path.{refl, sym, ◌∙◌}
use native.Mathlib.Omega.{arith}
use Rattle.std.proofs.lemmas.Result.{err_from_is_err_and}
use Rattle.listing.proofs.Finished.{none-of, some-of, many, heavy, fine}
use Rattle.listing.proofs.Filling.judge.Goals as goal

pub returns-then-self-gt-ENTRIES : goal.returns-then-self-gt-ENTRIES
returns-then-self-gt-ENTRIES c =
    λ z es is cuts. many z _ es _ is cuts c.if-self-gt-ENTRIES.true

pub returns-in_err-total : goal.returns-in_err-total
returns-in_err-total c =
    let p = err_from_is_err_and c.from_residual.result c.from_residual.ensures.1 in
    let q = none-of _ _ _ (sym c.ok_or.ensures.value ∙ c.in_err-total.was) in
    λ z es is cuts. rw (p.1, p.2, q.1) (heavy z _ es _ is cuts (omega (arith, c.if-self-gt-ENTRIES.false)) (sym c.total_of.ensures ∙ q.0))

pub returns : goal.returns
returns c =
    λ z es is cuts. fine z _ es _ is cuts (omega (arith, c.if-self-gt-ENTRIES.false)) _ refl (sym c.total_of.ensures ∙ some-of _ _ _ (sym c.ok_or.ensures.value ∙ c.in_ok-total.was))
