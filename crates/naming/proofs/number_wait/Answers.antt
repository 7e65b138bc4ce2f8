-- A token whose name is known, and one with a new name.
use Rattle.std.proofs.Common.{arith}
use Rattle.naming.proofs.Places.{place-most, found-known, found-new}
use Rattle.naming.proofs.number_wait.Goals as goal

pub overflow_cast-numbers : goal.overflow_cast-numbers
overflow_cast-numbers c =
    let w = c.requires.0.0 in
    let e = c.place_of-n.ensures w c.requires.0.1 in
    let m = place-most w c.args.k c.args.tokens.now c.args.count (omega arith) in
    omega (arith, e, m)

pub returns-then-n-count : goal.returns-then-n-count
returns-then-n-count c = record {
  found = λ w marks h e f. found-known w marks _ _ _ _ f (omega arith) (omega arith) c.place_of-n.result e (c.place_of-n.ensures w h) c.if-n-count.true;
  few = omega arith;
}

pub returns : goal.returns
returns c = record {
  found = λ w marks h e f. found-new w marks _ _ _ _ f (omega arith) (omega arith) c.place_of-n.result e (c.place_of-n.ensures w h) c.if-n-count.false (omega arith);
  few = omega arith;
}
