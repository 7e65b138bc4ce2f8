-- The test of a model buffer, in the order in which it is asked.
use mathlib.Core.Path.{sym, ◌∙◌}
use native.Mathlib.Omega.{arith}
use Rattle.store.proofs.Bytes.{too_long, not-clear, text-found}
use Rattle.store.proofs.buffer.find_text.Goals as goal

pub returns-then-n-gt-MOST : goal.returns-then-n-gt-MOST
returns-then-n-gt-MOST c =
    too_long c.args.model.now c.text_length-n.result c.text_length-n.ensures.0 (omega arith)

pub returns-then-is_clear : goal.returns-then-is_clear
returns-then-is_clear c =
    text-found c.args.model.now c.text_length-n.result c.text_length-n.ensures.0 c.requires (omega arith) (sym c.is_clear.ensures ∙ c.if-is_clear.true)

pub returns : goal.returns
returns c =
    not-clear c.args.model.now c.text_length-n.result c.text_length-n.ensures.0 (omega arith) (sym c.is_clear.ensures ∙ c.if-is_clear.false)
