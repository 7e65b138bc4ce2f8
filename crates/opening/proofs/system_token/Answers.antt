-- The line stands below the definitions, and its first item holds its token: from System.antt.
use borrow.Author.Rules.{rules}
use Rattle.opening.proofs.System.{line-room, line-inside, item-inside, item-counted, item-is}
use Rattle.opening.proofs.system_token.Goals as goal

pub line-requires : goal.line-requires
line-requires c =
    let g = c.lists_of-lists.ensures c.requires.0 c.requires.1 c.requires.2 in rw g.root_is (line-room c.args.nodes.now c.requires.0 c.requires.1 c.args.root c.requires.2 g)

pub first_item-first-requires : goal.first_item-first-requires
first_item-first-requires c =
    let g = c.lists_of-lists.ensures c.requires.0 c.requires.1 c.requires.2 in rw (c.line.ensures, g.root_is) (line-inside c.args.nodes.now c.requires.0 c.requires.1 c.args.root c.requires.2 g)

pub offset_bounds-nodes-first : goal.offset_bounds-nodes-first
offset_bounds-nodes-first c =
    let g = c.lists_of-lists.ensures c.requires.0 c.requires.1 c.requires.2 in let l = item-inside c.args.nodes.now c.requires.0 c.requires.1 c.args.root c.requires.2 g (rw (c.line.ensures, g.root_is) at c.first_item-first.ensures) in search rules

pub bounds-nodes-first : goal.bounds-nodes-first
bounds-nodes-first c =
    let g = c.lists_of-lists.ensures c.requires.0 c.requires.1 c.requires.2 in item-inside c.args.nodes.now c.requires.0 c.requires.1 c.args.root c.requires.2 g (rw (c.line.ensures, g.root_is) at c.first_item-first.ensures)

pub item_token-requires : goal.item_token-requires
item_token-requires c =
    let g = c.lists_of-lists.ensures c.requires.0 c.requires.1 c.requires.2 in item-counted c.args.nodes.now c.requires.0 c.requires.1 c.args.root c.requires.2 g (rw (c.line.ensures, g.root_is) at c.first_item-first.ensures)

pub returns : goal.returns
returns c =
    λ m lo h. let g = c.lists_of-lists.ensures m lo h in item-is c.args.nodes.now m lo c.args.root h g (rw (c.line.ensures, g.root_is) at c.first_item-first.ensures) c.item_token.ensures
