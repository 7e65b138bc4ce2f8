-- `lone_lent` meets its contract: each return is a law of Lone.antt.
use Rattle.grammar.proofs.Follows.{same, isnt}
use Rattle.tree.specs.Node.{number_kind}
use mathlib.Core.Logic.{inl, inr}
use Rattle.syntax.proofs.Answers.{raised}
use Rattle.syntax.proofs.Lone.{either-name, either-whole, lone-undecided, lone-decimal, lone-fault, lone-done}
use Prim.Native.Nat.{◌+◌}
use native.Mathlib.Omega.{arith}
use Rattle.syntax.proofs.braced.lone_lent.Goals as goal

pub undecided_lent-requires : goal.undecided_lent-requires
undecided_lent-requires c =
    record { either = either-name c.args.named.now.spot.toks.now (c.args.named.now.spot.at + 1 + 1) (same c.peek.ensures c.in-1.is) }

pub returns-in-1 : goal.returns-in-1
returns-in-1 c =
    let r = lone-undecided c.args.named.now.spot.toks.now c.args.nodes.now c.args.named.now.spot.at c.args.named.now.spot.used (c.args.named.now.name, c.args.named.now.sign) _ _ (inr (same c.peek.ensures c.in-1.is)) (c.undecided_lent.ensures.follows, c.undecided_lent.ensures.inside) in record { follows = r.0; inside = r.1 }

pub undecided_lent-requires-in-2 : goal.undecided_lent-requires-in-2
unfolding number_kind
undecided_lent-requires-in-2 c =
    record { either = either-whole c.args.named.now.spot.toks.now (c.args.named.now.spot.at + 1 + 1) (same c.peek.ensures c.in-2.is) }

pub returns-in-2 : goal.returns-in-2
returns-in-2 c =
    let r = lone-undecided c.args.named.now.spot.toks.now c.args.nodes.now c.args.named.now.spot.at c.args.named.now.spot.used (c.args.named.now.name, c.args.named.now.sign) _ _ (inl (same c.peek.ensures c.in-2.is)) (c.undecided_lent-in-2.ensures.follows, c.undecided_lent-in-2.ensures.inside) in record { follows = r.0; inside = r.1 }

pub returns-in-45 : goal.returns-in-45
returns-in-45 c =
    record { follows = c.lone_minus_lent.ensures.follows; inside = c.lone_minus_lent.ensures.inside }

pub returns-in-3 : goal.returns-in-3
returns-in-3 c =
    let r = lone-decimal c.args.named.now.spot.toks.now c.args.nodes.now c.args.named.now.spot.at c.args.named.now.spot.used (c.args.named.now.name, c.args.named.now.sign) (record { written = c.leaf.ensures; token-fits = omega (arith, c.args.named.now.spot.ready.room, c.args.named.now.spot.ready.few, c.args.named.now.spot.ready.inside); left-fits = omega arith; third-fits = omega arith }) _ _ (rw c.after.ensures.1 at c.closed_lent.ensures.follows, (rw c.after.ensures.1 at c.closed_lent.ensures.tallied, (rw c.after.ensures.1 at c.closed_lent.ensures.spare))) (same c.peek.ensures c.in-3.is) in record { follows = r.0; inside = r.1 }

pub returns-in_err-m-in_default : goal.returns-in_err-m-in_default
returns-in_err-m-in_default c =
    rw (raised c.from_residual.ensures.1) (let r = lone-fault c.args.named.now.spot.toks.now c.args.nodes.now c.args.named.now.spot.at c.args.named.now.spot.used (c.args.named.now.name, c.args.named.now.sign) (isnt c.peek.ensures (omega arith)) (isnt c.peek.ensures (omega arith)) (isnt c.peek.ensures (omega arith)) (isnt c.peek.ensures (omega arith)) (record { written = c.leaf-in_default.ensures; token-fits = omega (arith, c.args.named.now.spot.ready.room, c.args.named.now.spot.ready.few, c.args.named.now.spot.ready.inside); left-fits = omega arith; third-fits = omega arith }) _ (c.expr.ensures.follows, c.expr.ensures.parsed) c.in_err-m-in_default.was in record { follows = r.0; inside = r.1 })

pub returns-in_ok-m-in_default : goal.returns-in_ok-m-in_default
returns-in_ok-m-in_default c =
    let r = lone-done c.args.named.now.spot.toks.now c.args.nodes.now c.args.named.now.spot.at c.args.named.now.spot.used (c.args.named.now.name, c.args.named.now.sign) (isnt c.peek.ensures (omega arith)) (isnt c.peek.ensures (omega arith)) (isnt c.peek.ensures (omega arith)) (isnt c.peek.ensures (omega arith)) (record { written = c.leaf-in_default.ensures; token-fits = omega (arith, c.args.named.now.spot.ready.room, c.args.named.now.spot.ready.few, c.args.named.now.spot.ready.inside); left-fits = omega arith; third-fits = omega arith }) _ (c.expr.ensures.follows, c.expr.ensures.parsed) c.in_ok-m-in_default.was _ _ (rw c.after-in_default.ensures.1 at c.second_lent.ensures.follows, rw c.after-in_default.ensures.1 at c.second_lent.ensures.seconds) in record { follows = r.0; inside = r.1 }
