-- The node of the action tells whether the branch waits.
use Rattle.std.proofs.Common.{sym, ap, ◌∙◌, ℕ, get_or, set, true, arith}
use Rattle.tree.specs.Node.{left_of}
use Rattle.naming.proofs.Marking.{token-fits, marks-one, marks-none}
use Rattle.naming.proofs.mark_branch.Goals as goal

pub bounds-marks-token_of : goal.bounds-marks-token_of
bounds-marks-token_of c =
    let n = c.args.nodes.now in
    let is = c.cell_at-action.ensures ∙ ap (λ (j : ℕ). get_or n j 0) (c.left_of.ensures ∙ ap left_of c.cell_at-prefix.ensures) in
    let f = token-fits n _ _ is c.requires.0 (c.past_gate-offer.ensures c.requires.0 c.requires.1) 4096 c.requires.2 (sym c.kind_of.ensures ∙ c.if-kind_of-eq-WAIT.true) in
    omega (arith, c.token_of.ensures, f)

pub returns-then-kind_of-eq-WAIT : goal.returns-then-kind_of-eq-WAIT
returns-then-kind_of-eq-WAIT c =
    λ b h.
    let n = c.args.nodes.now in
    let is = c.cell_at-action.ensures ∙ ap (λ (j : ℕ). get_or n j 0) (c.left_of.ensures ∙ ap left_of c.cell_at-prefix.ensures) in
    ap (λ (j : ℕ). set c.args.marks.now j true) c.token_of.ensures ∙ marks-one n _ _ is b (c.past_gate-offer.ensures b h) c.args.marks.now (sym c.kind_of.ensures ∙ c.if-kind_of-eq-WAIT.true)

pub returns-else-kind_of-eq-WAIT : goal.returns-else-kind_of-eq-WAIT
returns-else-kind_of-eq-WAIT c =
    λ b h.
    let n = c.args.nodes.now in
    let is = c.cell_at-action.ensures ∙ ap (λ (j : ℕ). get_or n j 0) (c.left_of.ensures ∙ ap left_of c.cell_at-prefix.ensures) in
    marks-none n _ _ is b (c.past_gate-offer.ensures b h) c.args.marks.now (λ e. c.if-kind_of-eq-WAIT.false (c.kind_of.ensures ∙ e))
