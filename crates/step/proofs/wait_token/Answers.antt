-- The branch that is found, behind its gate, has the action of which the node keeps the token.
use Rattle.tree.specs.Node.{token_of, left_of}
use Rattle.step.proofs.Chain.{token-of-wait}
use mathlib.Core.Path.{ap, ◌∙◌}
use Prim.Native.Nat.{ℕ}
use lib.ListN.{get_or}
use Rattle.step.proofs.wait_token.Goals as goal

pub past_gate-k-requires : goal.past_gate-k-requires
past_gate-k-requires c =
    let a = c.requires in (a.branch, (c.find_branch-found.ensures.0 a.model a.state a.process a.branch a.guard a.acts).1)

pub returns : goal.returns
returns c =
    λ m s p b g n h e.
    let o = c.past_gate-k.ensures b (c.find_branch-found.ensures.0 m s p b g h).1 in
    c.token_of.ensures ∙ (ap token_of (c.cell_at-action.ensures ∙ ap (λ (k : ℕ). get_or c.args.tables.nodes.now k 0) (c.left_of.ensures ∙ ap left_of c.cell_at-prefix.ensures)) ∙ token-of-wait c.args.tables.nodes.now c.past_gate-k.result n b o e)
