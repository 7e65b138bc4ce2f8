-- `lone_minus_lent` meets its contract: each return is a law of Lone.antt.
use Rattle.grammar.proofs.Follows.{same, isnt}
use Rattle.tree.specs.Node.{number_kind}
use Rattle.syntax.proofs.Lone.{either-negative, lone-negative, lone-negative-decimal, lone-signless}
use Prim.Native.Nat.{◌+◌}
use native.Mathlib.Omega.{arith}
use Rattle.syntax.proofs.braced.lone_minus_lent.Goals as goal

pub undecided_lent-requires : goal.undecided_lent-requires
unfolding number_kind
undecided_lent-requires c =
    record { either = either-negative c.args.named.now.spot.toks.now (c.args.named.now.spot.at + 1 + 1) c.requires.at_value_2 (same c.peek.ensures c.in-2.is) }

pub returns-in-2 : goal.returns-in-2
returns-in-2 c =
    let r = lone-negative c.args.named.now.spot.toks.now c.args.nodes.now c.args.named.now.spot.at c.args.named.now.spot.used (c.args.named.now.name, c.args.named.now.sign) _ _ c.requires.at_value_2 (same c.peek.ensures c.in-2.is) (c.undecided_lent.ensures.follows, c.undecided_lent.ensures.inside) in record { follows = r.0; inside = r.1 }

pub returns-in-3 : goal.returns-in-3
returns-in-3 c =
    let r = lone-negative-decimal c.args.named.now.spot.toks.now c.args.nodes.now c.args.named.now.spot.at c.args.named.now.spot.used (c.args.named.now.name, c.args.named.now.sign) (record { written = c.leaf.ensures; token-fits = omega (arith, c.args.named.now.spot.ready.room, c.args.named.now.spot.ready.few, c.args.named.now.spot.ready.inside); left-fits = omega arith; third-fits = omega arith }) _ _ (rw c.after.ensures.1 at c.closed_lent.ensures.follows, (rw c.after.ensures.1 at c.closed_lent.ensures.tallied, (rw c.after.ensures.1 at c.closed_lent.ensures.spare))) c.requires.at_value_2 (same c.peek.ensures c.in-3.is) in record { follows = r.0; inside = r.1 }

pub returns-in_default : goal.returns-in_default
returns-in_default c =
    let r = lone-signless c.args.named.now.spot.toks.now c.args.nodes.now c.args.named.now.spot.at c.args.named.now.spot.used (c.args.named.now.name, c.args.named.now.sign) c.requires.at_value_2 (isnt c.peek.ensures (omega arith)) (isnt c.peek.ensures (omega arith)) in record { follows = r.0; inside = r.1 }
