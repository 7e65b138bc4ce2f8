-- `names::number_fault` meets its contract: by the kind of the node, and since a number and its cap are beyond the range alike.
use mathlib.Core.Path.{sym, ◌∙◌}
use Prim.Native.Nat.{◌≤◌}
use native.Mathlib.Omega.{arith}
use lib.ListN.{get_or}
use Rattle.word.specs.Number.{cap}
use Rattle.token.specs.Contents.{none}
use Rattle.token.proofs.Columns.{low_at}
use Rattle.names.proofs.Wholes.{has_room, without, whole-negated, whole_plain}
use Rattle.names.proofs.Judges.{plain-sort, negated-sort, plain-number, negated-number, no_number}
use Rattle.names.proofs.number_fault.Goals as goal
use Rattle.names.proofs.number_fault.Goals.{in-1, in-2}

pub offset_bounds-contents-k : goal.offset_bounds-contents-k
offset_bounds-contents-k c =
    omega (arith, (c.requires (plain-sort c.args.kind c.args.k c.in-1.is)).0)

pub bounds-contents-k : goal.bounds-contents-k
bounds-contents-k c =
    (c.requires (plain-sort c.args.kind c.args.k c.in-1.is)).0

pub overflow_cast-contents : goal.overflow_cast-contents
overflow_cast-contents c =
    omega (arith, (c.requires (plain-sort c.args.kind c.args.k c.in-1.is)).1, low_at c.args.contents.now c.args.k)

pub offset_bounds-contents-k-in-2 : goal.offset_bounds-contents-k-in-2
offset_bounds-contents-k-in-2 c =
    omega (arith, (c.requires (negated-sort c.args.kind c.args.k c.in-2.is)).0)

pub bounds-contents-k-in-2 : goal.bounds-contents-k-in-2
bounds-contents-k-in-2 c =
    (c.requires (negated-sort c.args.kind c.args.k c.in-2.is)).0

pub overflow_cast-contents-in-2 : goal.overflow_cast-contents-in-2
overflow_cast-contents-in-2 c =
    omega (arith, (c.requires (negated-sort c.args.kind c.args.k c.in-2.is)).1, low_at c.args.contents.now c.args.k)

pub neg_value-value-requires : goal.neg_value-value-requires
neg_value-value-requires c =
    has_room (get_or c.args.contents.now c.args.k none).low (rw (low_at c.args.contents.now c.args.k) at (c.requires (negated-sort c.args.kind c.args.k c.in-2.is)).1)

pub returns-in_default : goal.returns-in_default
returns-in_default c =
    λ w sc h. no_number c.args.kind c.args.k w sc (λ e. omega arith) (λ e. omega arith)

pub returns : goal.returns
returns c =
    let x = (get_or c.args.contents.now c.args.k none).low in
    let f = c.then_some.ensures ∙ without c.match-kind.value _ c.args.k c.is_none.ensures in
    λ w sc h. elim c.match-kind.branch [
      | in-1 v ↦
          let q = plain-sort c.args.kind c.args.k v.in-1.is in
          let s : x ≤ cap = rw (low_at c.args.contents.now c.args.k) at (c.requires q).1 in
          plain-number c.args.kind c.args.k w sc v.in-1.is (whole_plain x s w c.args.k (sym (low_at c.args.contents.now c.args.k) ∙ h q) f (v.value-is ∙ v.value_of-value.ensures))
      | in-2 v ↦
          let q = negated-sort c.args.kind c.args.k v.in-2.is in
          let s : x ≤ cap = rw (low_at c.args.contents.now c.args.k) at (c.requires q).1 in
          negated-number c.args.kind c.args.k w sc v.in-2.is (whole-negated x s w c.args.k (sym (low_at c.args.contents.now c.args.k) ∙ h q) f (v.value-is ∙ v.neg_value-value.ensures))
    ]
