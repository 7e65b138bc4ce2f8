use Prim.Native.Nat.{◌+◌, ◌-◌, ◌*◌}
use Rattle.model.specs.Scope.{scope_width}
use Rattle.settle.proofs.Meets.{marked-sum, marked-none}
use Rattle.settle.proofs.mark_sum.Goals as goal

pub returns-then-kind_of-eq-SUM : goal.returns-then-kind_of-eq-SUM
returns-then-kind_of-eq-SUM c =
    record { roots_after = marked-sum c.args.node c.kind_of.result c.token_of-n.result (c.args.i - 1) c.args.roots.now c.kind_of.ensures c.if-kind_of-eq-SUM.true c.token_of-n.ensures; scopes_after = marked-sum c.args.node c.kind_of.result c.token_of-n.result (c.args.walk.scope.count + c.args.walk.definitions * scope_width) c.args.scopes.now c.kind_of.ensures c.if-kind_of-eq-SUM.true c.token_of-n.ensures }

pub returns-else-kind_of-eq-SUM : goal.returns-else-kind_of-eq-SUM
returns-else-kind_of-eq-SUM c =
    record { roots_after = marked-none c.args.node c.kind_of.result 0 (c.args.i - 1) c.args.roots.now c.kind_of.ensures c.if-kind_of-eq-SUM.false; scopes_after = marked-none c.args.node c.kind_of.result 0 (c.args.walk.scope.count + c.args.walk.definitions * scope_width) c.args.scopes.now c.kind_of.ensures c.if-kind_of-eq-SUM.false }
