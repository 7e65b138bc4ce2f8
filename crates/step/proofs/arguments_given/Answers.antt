-- The root or nothing: the laws of Continue.
use Rattle.step.proofs.Continue.{given-asks, given_is, given-none}
use Rattle.step.proofs.arguments_given.Goals as goal

pub arguments_given_lent-requires : goal.arguments_given_lent-requires
arguments_given_lent-requires c =
    given-asks c.args.nodes.now c.args.locals.now c.args.next c.in-Some.k c.in-Some.is c.requires

pub invariant_of-context : goal.invariant_of-context
invariant_of-context c =
    record { in_range = c.requires.fit.values }

pub returns-in-Some : goal.returns-in-Some
returns-in-Some c =
    given_is c.args.nodes.now c.args.locals.now c.args.next c.in-Some.k c.in-Some.is c.arguments_given_lent.result c.arguments_given_lent.ensures

pub returns-in-None : goal.returns-in-None
returns-in-None c =
    given-none c.args.nodes.now c.args.locals.now c.args.next c.in-None.is
