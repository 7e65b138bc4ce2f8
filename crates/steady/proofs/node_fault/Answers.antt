-- `steady::node_fault` meets its contract: by the kind of the node.
use mathlib.Core.Path.{ap, sym, ◌∙◌}
use mathlib.Core.Logic.{inl, inr}
use native.Mathlib.Omega.{arith}
use Rattle.model.specs.Sites.{definitions}
use Rattle.profile.specs.Unsteady.{several_sums}
use Rattle.steady.proofs.Faults.{call-kinds, no_call, call-name, group-offends, call-offends, no-offender, before-group, inside}
use Prim.Native.Nat.{ℕ}
use lib.Dec.{eqb}
use Rattle.names.proofs.Earliest.{told}
use Rattle.steady.proofs.node_fault.Goals as goal

pub offset_bounds-parsed-i : goal.offset_bounds-parsed-i
offset_bounds-parsed-i c =
    omega (arith, inside c.requires.0 c.args.i c.requires.1)

pub bounds-parsed-i : goal.bounds-parsed-i
bounds-parsed-i c =
    inside c.requires.0 c.args.i c.requires.1

pub overflow_sub-i : goal.overflow_sub-i
overflow_sub-i c =
    omega (arith, before-group c.requires.0 c.args.i c.requires.1 (sym c.kind_of-kind.ensures ∙ c.in-53.is))

pub offset_bounds-parsed-i-in-53 : goal.offset_bounds-parsed-i-in-53
offset_bounds-parsed-i-in-53 c =
    omega (arith, inside c.requires.0 c.args.i c.requires.1)

pub bounds-parsed-i-in-53 : goal.bounds-parsed-i-in-53
bounds-parsed-i-in-53 c =
    let l = inside c.requires.0 c.args.i c.requires.1 in omega arith

pub has_several-requires : goal.has_several-requires
has_several-requires c =
    (c.requires.0, call-name c.args.parsed.nodes.now c.args.i c.kind_of-kind.result c.token_of-k.result c.kind_of-kind.ensures c.token_of-k.ensures c.requires.0 c.requires.1 (call-kinds c.kind_of-kind.result (omega arith) (omega arith)))

pub returns-in-53 : goal.returns-in-53
returns-in-53 c =
    λ h. c.then_some.ensures ∙ told _ c.token_of-k.result ∙ group-offends c.args.parsed.nodes.now c.args.i c.kind_of-kind.result c.token_of-k.result c.kind_of-kind.ensures c.token_of-k.ensures (several_sums h.word (definitions h.model)) c.in-53.is _ (ap (λ (κ : ℕ). eqb κ 54) (sym c.kind_of.ensures))

pub returns-in-50 : goal.returns-in-50
returns-in-50 c =
    λ h. c.then_some-in-50.ensures ∙ told _ c.token_of-k.result ∙ call-offends c.args.parsed.nodes.now c.args.i c.kind_of-kind.result c.token_of-k.result c.kind_of-kind.ensures c.token_of-k.ensures (several_sums h.word (definitions h.model)) (call-kinds c.kind_of-kind.result (omega arith) (omega arith)) _ (sym (c.has_several.ensures h (call-name c.args.parsed.nodes.now c.args.i c.kind_of-kind.result c.token_of-k.result c.kind_of-kind.ensures c.token_of-k.ensures h c.requires.1 (call-kinds c.kind_of-kind.result (omega arith) (omega arith)))))

pub returns-in_default : goal.returns-in_default
returns-in_default c =
    λ h. no-offender c.args.parsed.nodes.now c.args.i c.kind_of-kind.result c.token_of-k.result c.kind_of-kind.ensures c.token_of-k.ensures (several_sums h.word (definitions h.model)) (λ e. omega arith) (no_call c.kind_of-kind.result (inl (omega arith)))

pub returns-in_default-2 : goal.returns-in_default-2
returns-in_default-2 c =
    λ h. no-offender c.args.parsed.nodes.now c.args.i c.kind_of-kind.result c.token_of-k.result c.kind_of-kind.ensures c.token_of-k.ensures (several_sums h.word (definitions h.model)) (λ e. omega arith) (no_call c.kind_of-kind.result (inr (omega arith)))
