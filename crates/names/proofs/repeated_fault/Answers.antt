use native.Mathlib.Omega.{arith}
use Rattle.token.specs.Contents.{lows_in, highs_in}
use Rattle.model.specs.Lists.{every_other}
use Rattle.names.proofs.Scopes.{every_more, extended_none, extended-more, every-inside}
use Rattle.names.proofs.Repeats.{seen-setting, repeated-none, repeated-on, repeated-end}
use Rattle.names.proofs.repeated_fault.Goals as goal

pub loop-j-init : goal.loop-j-init
unfolding every_other
loop-j-init c =
    (extended_none c.args.scope c.requires.0.0.scoped.full, repeated-none (lows_in c.args.parsed.now.contents.now) (highs_in c.args.parsed.now.contents.now) c.args.parsed.now.nodes.now c.args.parsed.now.lists c.args.scope c.args.first c.args.n)

pub overflow_add-k : goal.overflow_add-k
overflow_add-k c =
    omega (arith, every-inside c.requires.0.0.world.kinds c.args.first c.args.n c.requires.0.1 (omega arith), c.requires.0.0.world.few)

pub taken_fault-requires : goal.taken_fault-requires
taken_fault-requires c =
    seen-setting (lows_in c.args.parsed.now.contents.now) (highs_in c.args.parsed.now.contents.now) c.args.parsed.now.nodes.now c.args.parsed.now.lists c.args.scope c.args.first c.args.n (omega arith) c.loop-j.invariant.0 c.requires.1 c.requires.0.0 c.requires.0.1

pub with_local-seen-requires : goal.with_local-seen-requires
with_local-seen-requires c =
    omega (arith, every-inside c.requires.0.0.world.kinds c.args.first c.args.n c.requires.0.1 (omega arith), c.requires.0.0.world.few)

pub loop-j-preserved : goal.loop-j-preserved
loop-j-preserved c =
    (rw (every_more c.args.first c.loop-j.j) (extended-more c.loop-j.invariant.0 c.with_local-seen.ensures), repeated-on (lows_in c.args.parsed.now.contents.now) (highs_in c.args.parsed.now.contents.now) c.args.parsed.now.nodes.now c.args.parsed.now.lists c.args.scope c.args.first c.args.n (omega arith) c.loop-j.invariant.0 c.requires.1 c.loop-j.found c.taken_fault.ensures c.earlier-found.ensures c.loop-j.invariant.1)

pub returns : goal.returns
returns c =
    repeated-end (lows_in c.args.parsed.now.contents.now) (highs_in c.args.parsed.now.contents.now) c.args.parsed.now.nodes.now c.args.parsed.now.lists c.args.scope c.args.first c.args.n (omega arith) c.loop-j.invariant.1
