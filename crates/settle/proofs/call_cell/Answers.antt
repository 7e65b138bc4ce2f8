use Rattle.token.proofs.Columns.{low_at, length-lows}
use Rattle.settle.proofs.Leaves.{calls-name, call-fields, call-done, start-done, count-told, counted-done}
use Prim.Native.Nat.{◌-◌}
use native.Mathlib.Omega.{arith}
use Rattle.settle.proofs.call_cell.Goals as goal

pub definition_named-d-requires : goal.definition_named-d-requires
definition_named-d-requires c =
    (c.requires.at, rw c.token_of-k.ensures (calls-name c.requires))

pub cell-requires : goal.cell-requires
cell-requires c =
    let q = c.definition_named-d.ensures c.requires.at (rw c.token_of-k.ensures (calls-name c.requires)) in
    (rw (q, c.token_of-k.ensures) (call-fields c.requires).0, rw c.left_of.ensures (call-fields c.requires).1, rw c.third_of-third.ensures (call-fields c.requires).2)

pub returns-then-kind-lt-START : goal.returns-then-kind-lt-START
returns-then-kind-lt-START c =
    λ h p. let q = c.definition_named-d.ensures h.at (rw c.token_of-k.ensures (calls-name h)) in
    call-done h _ p (omega (arith, c.kind_of-kind.ensures)) cc

pub cell-requires-then-kind-lt-COUNTED : goal.cell-requires-then-kind-lt-COUNTED
cell-requires-then-kind-lt-COUNTED c =
    let q = c.definition_named-d.ensures c.requires.at (rw c.token_of-k.ensures (calls-name c.requires)) in
    (rw (q, c.token_of-k.ensures) (call-fields c.requires).0, omega arith, rw c.third_of-third.ensures (call-fields c.requires).2)

pub returns-then-kind-lt-COUNTED : goal.returns-then-kind-lt-COUNTED
returns-then-kind-lt-COUNTED c =
    λ h p. let q = c.definition_named-d.ensures h.at (rw c.token_of-k.ensures (calls-name h)) in
    start-done h _ p (omega (arith, c.kind_of-kind.ensures)) (omega (arith, c.kind_of-kind.ensures)) cc

pub overflow_sub-count : goal.overflow_sub-count
overflow_sub-count c =
    omega (arith, c.token_of-k.ensures, (count-told c.requires (omega (arith, c.kind_of-kind.ensures))).0)

pub offset_bounds-parsed-k : goal.offset_bounds-parsed-k
offset_bounds-parsed-k c =
    omega (arith, c.token_of-k.ensures, (count-told c.requires (omega (arith, c.kind_of-kind.ensures))).1, length-lows c.args.parsed.contents.now)

pub bounds-parsed-k : goal.bounds-parsed-k
bounds-parsed-k c =
    rw (c.token_of-k.ensures, ← length-lows c.args.parsed.contents.now) (count-told c.requires (omega (arith, c.kind_of-kind.ensures))).1

pub cell-requires-2 : goal.cell-requires-2
cell-requires-2 c =
    let q = c.definition_named-d.ensures c.requires.at (rw c.token_of-k.ensures (calls-name c.requires)) in
    (rw (q, c.token_of-k.ensures) (call-fields c.requires).0, rw (← low_at c.args.parsed.contents.now (c.token_of-k.result - 2), c.token_of-k.ensures) (count-told c.requires (omega (arith, c.kind_of-kind.ensures))).3, rw c.third_of-third.ensures (call-fields c.requires).2)

pub returns : goal.returns
returns c =
    λ h p. let q = c.definition_named-d.ensures h.at (rw c.token_of-k.ensures (calls-name h)) in
    let v = low_at c.args.parsed.contents.now (c.token_of-k.result - 2) in
    counted-done h (omega (arith, c.kind_of-kind.ensures)) _ p cc
