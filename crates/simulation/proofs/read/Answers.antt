-- The text that the buffer holds, and its model; or none.
use mathlib.Core.Path.{sym, ◌∙◌}
use Rattle.store.specs.Text.{TextOf}
use Rattle.simulation.specs.Comes.{Reads}
use Rattle.simulation.proofs.Held.{none-read, read-model, whole}
use Rattle.simulation.proofs.read.Goals as goal

pub returns-in_err-text : goal.returns-in_err-text
unfolding Reads
returns-in_err-text c =
    rw c.from_residual.ensures (rw c.in_err-text.was at c.find_text.ensures)

pub returns-in_err-read : goal.returns-in_err-read
unfolding Reads
returns-in_err-read c =
    let h : TextOf c.args.model.now c.in_ok-text.text.now = rw c.in_ok-text.was at c.find_text.ensures in
    rw c.from_residual-in_err-read.ensures (h.holds ∙ none-read _ _ _ _ _ c.read_model.ensures.model_read (sym c.ok.ensures.value ∙ c.in_err-read.was))

pub returns : goal.returns
unfolding Reads
returns c =
    let h : TextOf c.args.model.now c.in_ok-text.text.now = rw c.in_ok-text.was at c.find_text.ensures in
    let o = read-model _ _ _ _ _ c.read_model.ensures.model_read (sym c.ok.ensures.value ∙ c.in_ok-read.was) in
    let t = c.tables.ensures in
    (o.model, h.holds ∙ o.holds, rw (t.0, t.1, t.2, t.3, t.4) (whole _ _ _ _ o))
