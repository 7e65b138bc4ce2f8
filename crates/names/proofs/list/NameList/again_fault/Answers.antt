-- `NameList::again_fault` meets its contract: by what is found among the names before.
use mathlib.Core.Path.{◌∙◌}
use Prim.Native.Nat.{◌-◌}
use native.Mathlib.Omega.{arith}
use Rattle.token.proofs.Columns.{length-lows}
use Rattle.names.specs.Lists.{packed_in, name_at, names_down}
use Rattle.names.proofs.Titles.{again}
use Rattle.names.proofs.list.NameList.again_fault.Goals as goal

pub place_of-requires : goal.place_of-requires
place_of-requires c =
    let r = c.args.self.reach.each c.args.j (omega arith) in
    rw (c.head.ensures.0, c.name-k.ensures, ← length-lows c.args.self.contents.now) r.in-low

pub returns : goal.returns
returns c =
    let l = c.args.self in
    let e = c.head.ensures in
    c.then_some.ensures ∙ rw c.is_some.ensures (again (packed_in l.contents.now) (names_down l.nodes.now l.first c.args.j) c.name-k.result (name_at l.nodes.now (l.first - c.args.j)) c.name-k.ensures c.place_of.result (rw (e.0, e.1, e.2, e.3) at c.place_of.ensures))
