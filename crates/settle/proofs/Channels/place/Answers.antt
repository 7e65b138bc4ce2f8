use mathlib.Core.Path.{refl, sym}
use Rattle.token.proofs.Columns.{low_at, high_at, length-lows}
use Rattle.settle.proofs.Kids.{name-inside, search-begins, sought-first, case-found, case-new, case-on, case-less}
use native.Mathlib.Omega.{arith}
use Rattle.settle.proofs.Channels.place.Goals as goal

pub returns-then-n-eq0 : goal.returns-then-n-eq0
returns-then-n-eq0 c =
    λ seen g. rw c.node.ensures (sought-first g c.if-n-eq0.true)

pub bounds-contents-k : goal.bounds-contents-k
bounds-contents-k c =
    omega (arith, c.requires.1.name-low, length-lows c.args.contents.now)

pub bounds-contents-k-2 : goal.bounds-contents-k-2
bounds-contents-k-2 c =
    omega (arith, c.requires.1.name-low, length-lows c.args.contents.now)

pub loop-k-init : goal.loop-k-init
loop-k-init c =
    (search-begins _ _ _ _ c.args.k _ _ _ c.if-n-eq0.false (sym (low_at c.args.contents.now c.args.k)) (sym (high_at c.args.contents.now c.args.k)) c.hash_of-bits.ensures (omega arith), refl)

pub same_name-requires : goal.same_name-requires
same_name-requires c =
    let z = name-inside c.requires c.loop-k.invariant.0 c.token_of.result c.token_of.ensures in
    (omega (arith, z.0, length-lows c.args.contents.now), omega (arith, z.1, length-lows c.args.contents.now))

pub returns-then-same_name : goal.returns-then-same_name
returns-then-same_name c =
    rw c.loop-k.invariant.1 (case-found c.requires c.loop-k.invariant.0 c.token_of.result c.token_of.ensures c.same_name.result c.same_name.ensures c.if-same_name.true)

pub returns-in_default : goal.returns-in_default
returns-in_default c =
    rw (c.hang.ensures.count, c.loop-k.invariant.1) (case-new c.requires c.loop-k.invariant.0 c.token_of.result c.token_of.ensures c.same_name.result c.same_name.ensures c.if-same_name.false c.kid_of.ensures c.in_default.is _ (rw c.loop-k.invariant.1 at c.hang.ensures.nodes))

pub loop-k-preserved : goal.loop-k-preserved
loop-k-preserved c =
    (case-on c.requires c.loop-k.invariant.0 c.token_of.result c.token_of.ensures c.same_name.result c.same_name.ensures c.if-same_name.false c.kid_of.ensures c.in-Some.is, c.loop-k.invariant.1)

pub loop-k-smaller : goal.loop-k-smaller
loop-k-smaller c =
    let d = (c.loop-k.invariant.0.seeking c.requires.0 c.requires.1).inside in
    let l = case-less c.requires c.loop-k.invariant.0 c.token_of.result c.token_of.ensures c.same_name.result c.same_name.ensures c.if-same_name.false c.kid_of.ensures c.in-Some.is in
    omega (arith, c.requires.1.count)
