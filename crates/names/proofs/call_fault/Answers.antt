-- `names::call_fault` meets its contract: by the question; only 9 asks about calls.
use Rattle.token.specs.Contents.{lows_in, highs_in}
use Rattle.names.proofs.Uses.{given-call, call-asked, call-free}
use Rattle.names.proofs.call_fault.Goals as goal

pub is_callable-requires : goal.is_callable-requires
is_callable-requires c =
    rw c.parsed.ensures (given-call (lows_in c.args.context.now.contents.now) (highs_in c.args.context.now.contents.now) c.args.context.now.nodes.now c.args.context.now.lists c.args.k c.args.n c.in-Given.is c.requires)

pub returns-in-Limits : goal.returns-in-Limits
returns-in-Limits c =
    call-free (lows_in c.args.context.now.contents.now) (highs_in c.args.context.now.contents.now) c.args.context.now.nodes.now c.args.context.now.lists c.args.k c.args.n c.in-Limits.is

pub returns-in-Given : goal.returns-in-Given
returns-in-Given c =
    call-asked (lows_in c.args.context.now.contents.now) (highs_in c.args.context.now.contents.now) c.args.context.now.nodes.now c.args.context.now.lists c.args.k c.args.n (rw c.parsed.ensures at c.is_callable.ensures) c.in-Given.is c.then_some.ensures
