-- `thirds` meets its contract: each return is a law of Channels.antt.
use Rattle.grammar.proofs.Follows.{same, isnt}
use Rattle.syntax.proofs.Answers.{raised}
use Rattle.syntax.proofs.Channels.{thirds-none, thirds-fault, thirds-three}
use native.Mathlib.Omega.{arith}
use Rattle.syntax.proofs.channel.thirds.Goals as goal

pub returns-then-peek-ne44 : goal.returns-then-peek-ne44
returns-then-peek-ne44 c =
    let r = thirds-none c.args.toks.now c.args.nodes.now c.args.at c.args.left c.args.mid c.requires.ready.inside (isnt c.peek.ensures c.if-peek-ne44.true) (record { written = c.pair.ensures; token-fits = omega arith; left-fits = omega (arith, c.requires.ready.room, c.requires.ready.few, c.requires.ready.inside, c.requires.left_le_mid); third-fits = omega arith }) in record { follows = r.0; items = r.1 }

pub returns-in_err-n : goal.returns-in_err-n
returns-in_err-n c =
    rw (raised c.from_residual.ensures.1) (let r = thirds-fault c.args.toks.now c.args.nodes.now c.args.at c.args.left c.args.mid (same c.peek.ensures c.if-peek-ne44.false) _ (c.expr.ensures.follows, c.expr.ensures.parsed) c.in_err-n.was in record { follows = r.0; items = r.1 })

pub returns : goal.returns
returns c =
    let r = thirds-three c.args.toks.now c.args.nodes.now c.args.at c.args.left c.args.mid (same c.peek.ensures c.if-peek-ne44.false) _ (c.expr.ensures.follows, c.expr.ensures.parsed) c.requires.left_le_mid c.in_ok-n.was (record { written = c.node.ensures; token-fits = omega arith; left-fits = omega (arith, c.requires.ready.room, c.requires.ready.few, c.requires.ready.inside, c.requires.left_le_mid); third-fits = omega (arith, c.requires.ready.room, c.requires.ready.few, c.requires.ready.inside) }) in record { follows = r.0; items = r.1 }
