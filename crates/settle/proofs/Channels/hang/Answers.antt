-- The new node and its parent are written, one cell each. From the fields of a cell.
use mathlib.Core.Path.{refl}
use Rattle.settle.proofs.Kids.{hang-first, hang-second, fields_fit}
use Rattle.settle.proofs.Channels.hang.Goals as goal

pub node-requires-then-bit-eq0 : goal.node-requires-then-bit-eq0
node-requires-then-bit-eq0 c =
    (rw c.token_of-name.ensures (fields_fit _).0, c.requires.1, rw c.third_of.ensures (fields_fit _).2)

pub returns-then-bit-eq0 : goal.returns-then-bit-eq0
returns-then-bit-eq0 c =
    record { nodes = hang-first c.args.self.now.nodes.now c.args.i c.args.bit c.args.self.now.count c.args.k c.node.ensures c.token_of-name.ensures c.if-bit-eq0.true c.third_of.ensures c.node-then-bit-eq0.ensures; count = refl }

pub node-requires-2 : goal.node-requires-2
node-requires-2 c =
    (rw c.token_of-name.ensures (fields_fit _).0, rw c.left_of.ensures (fields_fit _).1, c.requires.1)

pub returns : goal.returns
returns c =
    record { nodes = hang-second c.args.self.now.nodes.now c.args.i c.args.bit c.args.self.now.count c.args.k c.node.ensures c.token_of-name.ensures c.if-bit-eq0.false c.left_of.ensures c.node-2.ensures; count = refl }
