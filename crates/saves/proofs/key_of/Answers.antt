-- A name's words, each of which fits.
use mathlib.Core.Path.{sym, ◌∙◌}
use Rattle.state.proofs.Tests.{refused, passed}
use Rattle.saves.proofs.Laws.{no-key, no-words, low-fits, high-fits, key-words}
use Rattle.saves.proofs.key_of.Goals as goal

pub returns-then-not-is_name : goal.returns-then-not-is_name
returns-then-not-is_name c =
    no-key c.args.name.now (sym c.is_name.ensures ∙ refused _ c.if-not-is_name.true-raw)

pub returns-in_err-low : goal.returns-in_err-low
returns-in_err-low c =
    absurd (no-words c.args.name.now (sym c.is_name.ensures ∙ passed _ c.if-not-is_name.false-raw) (sym c.in_err-low.was ∙ c.packed.ensures))

pub overflow_cast-result : goal.overflow_cast-result
overflow_cast-result c =
    record { sfits = low-fits c.args.name.now (sym c.is_name.ensures ∙ passed _ c.if-not-is_name.false-raw) _ c.in_ok-low.high (sym c.in_ok-low.was ∙ c.packed.ensures) }

pub overflow_cast-result-2 : goal.overflow_cast-result-2
overflow_cast-result-2 c =
    record { sfits = high-fits c.args.name.now (sym c.is_name.ensures ∙ passed _ c.if-not-is_name.false-raw) c.in_ok-low.low _ (sym c.in_ok-low.was ∙ c.packed.ensures) }

pub returns : goal.returns
returns c =
    key-words c.args.name.now (sym c.is_name.ensures ∙ passed _ c.if-not-is_name.false-raw) _ _ (sym c.in_ok-low.was ∙ c.packed.ensures)
