-- Each answer is a case of the test.
use mathlib.Core.Path.{ap₂, sym, ◌∙◌}
use native.Mathlib.Omega.{arith}
use borrow.Author.Tests.{eq-eqb, ne_eqb}
use lib.IntN.{pos}
use lib.ListN.{get_or}
use Rattle.value.proofs.Kit.{back, same_bits, ok-fits}
use Rattle.saves.specs.Keys.{is_key_of}
use Rattle.saves.proofs.Laws.{place-empty, place-bad, place-full}
use Rattle.saves.proofs.is_place.Goals as goal

pub returns-then-row-eq0 : goal.returns-then-row-eq0
returns-then-row-eq0 c =
    c.all_zero.ensures ∙ sym (place-empty c.args.shape.scopes.now c.args.shape.channels c.args.row.now (sym (same_bits (get_or c.args.row.now 0 (pos 0)) (pos 0) (ok-fits _ c.t5-1.given) (ok-fits (pos 0) (omega arith))) ∙ eq-eqb _ _ c.if-row-eq0.true))

pub returns-else-is_key : goal.returns-else-is_key
returns-else-is_key c =
    c.if-is_key.false ∙ sym (place-bad c.args.shape.scopes.now c.args.shape.channels c.args.row.now (sym (same_bits (get_or c.args.row.now 0 (pos 0)) (pos 0) (ok-fits _ c.t5-1.given) (ok-fits (pos 0) (omega arith))) ∙ ne_eqb _ _ c.if-row-eq0.false) (ap₂ is_key_of (sym (back (get_or c.args.row.now 0 (pos 0)) c.is_key-arg-1.given)) (sym (back (get_or c.args.row.now 1 (pos 0)) c.is_key-arg-2-1.given)) ∙ sym c.is_key.ensures ∙ c.if-is_key.false))

pub returns-then-is_key : goal.returns-then-is_key
returns-then-is_key c =
    c.is_kept.ensures ∙ sym (place-full c.args.shape.scopes.now c.args.shape.channels c.args.row.now (sym (same_bits (get_or c.args.row.now 0 (pos 0)) (pos 0) (ok-fits _ c.t5-1.given) (ok-fits (pos 0) (omega arith))) ∙ ne_eqb _ _ c.if-row-eq0.false) (ap₂ is_key_of (sym (back (get_or c.args.row.now 0 (pos 0)) c.is_key-arg-1.given)) (sym (back (get_or c.args.row.now 1 (pos 0)) c.is_key-arg-2-1.given)) ∙ sym c.is_key.ensures ∙ c.if-is_key.true))
