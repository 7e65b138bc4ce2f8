-- `walk::set_count` meets its contract: by the kind of the root.
use Rattle.names.proofs.Acts.{two-sets, one_set}
use mathlib.Core.Path.{sym, ◌∙◌}
use Rattle.names.proofs.walk.set_count.Goals as goal

pub returns-then-kind_of-eq-PAIR : goal.returns-then-kind_of-eq-PAIR
returns-then-kind_of-eq-PAIR c =
    λ s lo h. two-sets c.args.nodes.now s lo c.args.root (sym c.kind_of.ensures ∙ c.if-kind_of-eq-PAIR.true) h

pub returns : goal.returns
returns c =
    λ s lo h. one_set c.args.nodes.now s lo c.args.root (λ e. c.if-kind_of-eq-PAIR.false (c.kind_of.ensures ∙ e)) h
