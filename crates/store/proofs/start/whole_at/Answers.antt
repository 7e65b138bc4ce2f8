-- `store::start::whole_at` meets its contract: a whole number evaluates to itself.
use mathlib.Core.Path.{ap, ◌∙◌}
use lib.IntN.{ℤ, pos}
use Rattle.std.specs.Prelude.{Option}
use Rattle.std.specs.Option.{unwrap_or}
use Rattle.model.specs.Good.{Every}
use Rattle.value.proofs.Kit.{back}
use Rattle.store.proofs.Nodes.{whole-held, whole_is}
use Rattle.store.proofs.start.whole_at.Goals as goal

pub invariant_of-context : goal.invariant_of-context
unfolding Every
invariant_of-context c =
    record { in_range = tt }

pub eval_node_lent-requires : goal.eval_node_lent-requires
eval_node_lent-requires c =
    whole-held c.args.nodes.now c.args.k c.requires

pub returns : goal.returns
returns c =
    λ z n.
    let e = whole_is c.args.nodes.now c.args.k c.eval_node_lent.result c.eval_node_lent.ensures z n in
    back c.unwrap_or.result c.unwrap_or.type_inv ∙ c.unwrap_or.ensures ∙ ap (λ (r : Option ℤ). unwrap_or r (pos 0)) e
