-- `receiving` meets its contract: each return is a law of Deeds.antt.
use Rattle.grammar.proofs.Follows.{inside, same, isnt}
use Rattle.syntax.proofs.Answers.{raised}
use Rattle.syntax.proofs.Naming.{listed_of}
use Rattle.syntax.proofs.Deeds.{receiving-fault, receiving-plain, receiving-unnamed, receiving-named}
use native.Mathlib.Omega.{arith}
use Rattle.syntax.proofs.action.receiving.Goals as goal

pub returns-then-peek-ne40 : goal.returns-then-peek-ne40
returns-then-peek-ne40 c =
    let r = receiving-plain c.args.kind c.args.toks.now c.args.nodes.now _ c.args.at c.args.left (c.entries_at.ensures.follows, c.entries_at.ensures.parsed) c.in_ok-n.was c.requires.nonzero (isnt c.peek.ensures c.if-peek-ne40.true) (record { written = c.pair.ensures; token-fits = omega arith; left-fits = omega (arith, c.requires.ready.room, c.requires.ready.few, inside c.args.toks.now c.args.at c.requires.nonzero); third-fits = omega arith }) in record { follows = r.0; extended = r.1 }

pub returns-in_err-n : goal.returns-in_err-n
returns-in_err-n c =
    rw (raised c.from_residual.ensures.1) (let r = receiving-fault c.args.kind c.args.toks.now c.args.nodes.now _ c.args.at c.args.left (c.entries_at.ensures.follows, c.entries_at.ensures.parsed) c.in_err-n.was in record { follows = r.0; extended = r.1 })

pub returns-in_err-m : goal.returns-in_err-m
returns-in_err-m c =
    rw (raised c.from_residual-in_err-m.ensures.1) (let r = receiving-unnamed c.args.kind c.args.toks.now c.args.nodes.now _ c.args.at c.args.left (c.entries_at.ensures.follows, c.entries_at.ensures.parsed) c.in_ok-n.was (same c.peek.ensures c.if-peek-ne40.false) (c.names.ensures.follows, c.names.ensures.listing) c.in_err-m.was in record { follows = r.0; extended = r.1 })

pub returns : goal.returns
returns c =
    let l = listed_of c.in_ok-m.was (c.names.ensures.listing) in let r = receiving-named c.args.kind c.args.toks.now c.args.nodes.now _ c.args.at c.args.left (c.entries_at.ensures.follows, c.entries_at.ensures.parsed) c.in_ok-n.was (same c.peek.ensures c.if-peek-ne40.false) (c.names.ensures.follows, c.names.ensures.listing) c.requires.nonzero c.in_ok-m.was (record { written = c.node.ensures; token-fits = omega (arith, c.requires.ready.room, l.fewer, l.within); left-fits = omega (arith, c.requires.ready.room, c.requires.ready.few, inside c.args.toks.now c.args.at c.requires.nonzero); third-fits = omega (arith, c.requires.ready.room, l.fewer, l.within) }) in record { follows = r.0; extended = r.1 }
