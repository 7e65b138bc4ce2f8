-- A case for each return, from System.antt; a name with a count has two tokens before it.
use Rattle.opening.proofs.System.{name-first, count-first}
use Rattle.opening.proofs.item_token.Goals as goal

pub returns-then-kind_of-lt-COUNTED : goal.returns-then-kind_of-lt-COUNTED
returns-then-kind_of-lt-COUNTED c =
    name-first _ _ _ c.kind_of.ensures c.token_of-name.ensures c.if-kind_of-lt-COUNTED.true

pub returns : goal.returns
returns c =
    count-first _ _ _ c.kind_of.ensures c.token_of-name.ensures c.if-kind_of-lt-COUNTED.false
