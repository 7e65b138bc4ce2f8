-- The item leads to its definition, and that to its body: from Counting.antt.
use native.Mathlib.Omega.{arith}
use borrow.Author.Rules.{rules}
use Rattle.opening.proofs.Counting.{item_of, body-at, left-above, body-sums, product_small, product_is}
use Rattle.opening.proofs.count.item_processes.Goals as goal

pub offset_bounds-nodes-k : goal.offset_bounds-nodes-k
offset_bounds-nodes-k c =
    let l = (item_of c.args.nodes.now c.requires.2).inside in search rules

pub bounds-nodes-k : goal.bounds-nodes-k
bounds-nodes-k c =
    (item_of c.args.nodes.now c.requires.2).inside

pub offset_bounds-nodes-d : goal.offset_bounds-nodes-d
offset_bounds-nodes-d c =
    let l = (body-at c.args.nodes.now c.requires.2 c.token_of.ensures).inside in search rules

pub bounds-nodes-d : goal.bounds-nodes-d
bounds-nodes-d c =
    (body-at c.args.nodes.now c.requires.2 c.token_of.ensures).inside

pub overflow_sub-body : goal.overflow_sub-body
overflow_sub-body c =
    let l = left-above c.args.nodes.now c.requires.2 c.token_of.ensures c.left_of-body.ensures in omega arith

pub count_sums-requires : goal.count_sums-requires
count_sums-requires c =
    ((body-at c.args.nodes.now c.requires.2 c.token_of.ensures).sums, body-sums c.args.nodes.now c.requires.2 c.token_of.ensures c.left_of-body.ensures)

pub overflow_mul-result : goal.overflow_mul-result
overflow_mul-result c =
    let l = product_small c.args.nodes.now c.requires.2 c.token_of.ensures c.left_of-body.ensures c.left_of.ensures c.count_sums.ensures.upper_bound in omega arith

pub returns : goal.returns
returns c =
    record { value = λ ds s h. product_is c.args.nodes.now h c.token_of.ensures c.left_of-body.ensures c.left_of.ensures (c.count_sums.ensures.value (body-at c.args.nodes.now h c.token_of.ensures).sums (body-sums c.args.nodes.now h c.token_of.ensures c.left_of-body.ensures)); upper_bound = product_small c.args.nodes.now c.requires.2 c.token_of.ensures c.left_of-body.ensures c.left_of.ensures c.count_sums.ensures.upper_bound }
