-- `names::leaf_fault` meets its contract: by the question.
use native.Mathlib.Omega.{arith}
use Rattle.token.specs.Contents.{lows_in, highs_in}
use Rattle.token.proofs.Columns.{length-lows}
use Rattle.names.proofs.Settled.{root_in}
use Rattle.names.proofs.Judges.{whole-there, leaf-limits, leaf-fresh, given-leaf, leaf-given}
use Rattle.names.proofs.leaf_fault.Goals as goal

pub offset_bounds-context-i : goal.offset_bounds-context-i
offset_bounds-context-i c =
    omega (arith, root_in c.requires.0.world, c.requires.1)

pub bounds-context-i : goal.bounds-context-i
bounds-context-i c =
    omega (arith, root_in c.requires.0.world, c.requires.1)

pub number_fault-requires : goal.number_fault-requires
number_fault-requires c =
    λ e. let r = whole-there (lows_in c.args.context.now.contents.now) (highs_in c.args.context.now.contents.now) c.args.context.now.nodes.now c.args.context.now.lists c.args.i c.requires.1 c.kind_of-kind.result c.token_of-k.result c.kind_of-kind.ensures c.token_of-k.ensures c.requires.0.world e in (omega (arith, length-lows c.args.context.now.contents.now), r.1)

pub used_fault-requires : goal.used_fault-requires
used_fault-requires c =
    rw c.parsed.ensures (given-leaf (lows_in c.args.context.now.contents.now) (highs_in c.args.context.now.contents.now) c.args.context.now.nodes.now c.args.context.now.lists c.args.i c.requires.1 c.kind_of-kind.result c.token_of-k.result c.kind_of-kind.ensures c.token_of-k.ensures c.args.context.now.scope c.in-Given.is c.requires.0)

pub returns-in-Limits : goal.returns-in-Limits
returns-in-Limits c =
    leaf-limits (lows_in c.args.context.now.contents.now) (highs_in c.args.context.now.contents.now) c.args.context.now.nodes.now c.args.context.now.lists c.args.i c.requires.1 c.kind_of-kind.result c.token_of-k.result c.kind_of-kind.ensures c.token_of-k.ensures c.args.context.now.scope c.in-Limits.is c.number_fault.ensures

pub returns-in-Fresh : goal.returns-in-Fresh
returns-in-Fresh c =
    leaf-fresh (lows_in c.args.context.now.contents.now) (highs_in c.args.context.now.contents.now) c.args.context.now.nodes.now c.args.context.now.lists c.args.i c.requires.1 c.kind_of-kind.result c.token_of-k.result c.kind_of-kind.ensures c.token_of-k.ensures c.args.context.now.scope c.in-Fresh.is

pub returns-in-Given : goal.returns-in-Given
returns-in-Given c =
    leaf-given (lows_in c.args.context.now.contents.now) (highs_in c.args.context.now.contents.now) c.args.context.now.nodes.now c.args.context.now.lists c.args.i c.requires.1 c.kind_of-kind.result c.token_of-k.result c.kind_of-kind.ensures c.token_of-k.ensures c.args.context.now.scope c.in-Given.is (rw c.parsed.ensures at c.used_fault.ensures)
