-- `walk::count_fault` meets its contract: by the kind of the node.
use Rattle.names.proofs.Lines.{counted-sort, counted-judged, uncounted}
use mathlib.Core.Path.{ap}
use Prim.Native.Nat.{ℕ, ◌-◌}
use native.Mathlib.Omega.{arith}
use Rattle.names.proofs.walk.count_fault.Goals as goal

pub overflow_sub-token_of : goal.overflow_sub-token_of
overflow_sub-token_of c =
    omega (arith, c.token_of.ensures, (c.requires (counted-sort c.args.node c.kind_of.result c.kind_of.ensures c.is_counted.result c.is_counted.ensures c.if-is_counted.true)).0)

pub over_count-requires : goal.over_count-requires
over_count-requires c =
    omega (arith, c.token_of.ensures, (c.requires (counted-sort c.args.node c.kind_of.result c.kind_of.ensures c.is_counted.result c.is_counted.ensures c.if-is_counted.true)).1)

pub returns-then-is_counted : goal.returns-then-is_counted
returns-then-is_counted c =
    λ w e. counted-judged c.args.node c.kind_of.result c.kind_of.ensures c.is_counted.result c.is_counted.ensures c.if-is_counted.true (c.token_of.result - 2) (ap (λ (x : ℕ). x - 2) c.token_of.ensures) w c.over_count.result (c.over_count.ensures w (rw c.token_of.ensures (e (counted-sort c.args.node c.kind_of.result c.kind_of.ensures c.is_counted.result c.is_counted.ensures c.if-is_counted.true))))

pub returns : goal.returns
returns c =
    λ w e. uncounted c.args.node c.kind_of.result c.kind_of.ensures c.is_counted.result c.is_counted.ensures c.if-is_counted.false w
