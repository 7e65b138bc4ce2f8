-- `names::used_fault` meets its contract: by the kind of the node.
use mathlib.Core.Logic.{inl, inr}
use Rattle.names.proofs.Judges.{name-sort, value-used, scale-used, not-used}
use native.Mathlib.Omega.{arith}
use Rattle.names.proofs.used_fault.Goals as goal

pub value_fault-requires : goal.value_fault-requires
value_fault-requires c =
    (c.requires.0, c.requires.1 (name-sort c.args.kind c.args.k (inl c.in-3.is)))

pub scale_fault-requires : goal.scale_fault-requires
scale_fault-requires c =
    (c.requires.0, c.requires.1 (name-sort c.args.kind c.args.k (inr c.in-33.is)))

pub returns-in-3 : goal.returns-in-3
returns-in-3 c =
    λ h n. value-used c.args.kind c.args.k h c.in-3.is (c.value_fault.ensures h (n (name-sort c.args.kind c.args.k (inl c.in-3.is))))

pub returns-in-33 : goal.returns-in-33
returns-in-33 c =
    λ h n. scale-used c.args.kind c.args.k h c.in-33.is (c.scale_fault.ensures h (n (name-sort c.args.kind c.args.k (inr c.in-33.is))))

pub returns-in_default : goal.returns-in_default
returns-in_default c =
    λ h n. not-used c.args.kind c.args.k h (λ e. omega arith) (λ e. omega arith)
