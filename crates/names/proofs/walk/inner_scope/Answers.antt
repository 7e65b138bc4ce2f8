-- `walk::inner_scope` meets its contract: the two fields of the node.
use Rattle.names.proofs.walk.inner_scope.Goals as goal

pub with_locals-requires : goal.with_locals-requires
with_locals-requires c =
    rw (c.token_of.ensures, c.third_of.ensures) c.requires.1

pub returns : goal.returns
returns c =
    rw (c.token_of.ensures, c.third_of.ensures) at c.with_locals.ensures
