-- An entry of a wait's kind is some process's wait, whose token is found.
use Rattle.walk.proofs.Sought.{seen-acting, sought-other, sought-named}
use mathlib.Core.Path.{sym}
use Rattle.walk.proofs.is_sought.Goals as goal

pub returns-then-entry-ne-WAIT : goal.returns-then-entry-ne-WAIT
returns-then-entry-ne-WAIT c =
    λ m s k n q w h. sym (sought-other h c.args.search.name.now c.if-entry-ne-WAIT.true)

pub wait_token-token-requires : goal.wait_token-token-requires
wait_token-token-requires c =
    seen-acting c.requires.6 c.if-entry-ne-WAIT.false

pub is_named-requires : goal.is_named-requires
is_named-requires c =
    (c.requires.0.words, c.requires.6.spells)

pub returns : goal.returns
returns c =
    λ m s k n q w h. sought-named h c.args.search.name.now c.wait_token-token.result c.is_named.result c.if-entry-ne-WAIT.false c.wait_token-token.ensures c.is_named.ensures
