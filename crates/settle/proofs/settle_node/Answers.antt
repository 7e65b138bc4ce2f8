use Rattle.settle.proofs.Roles.{name-kind}
use Rattle.settle.proofs.Meets.{here, leaf, leaf-settled, name-fits, heard-inside, value-settled, channel-settled, place-small}
use mathlib.Core.Path.{refl, sym, ◌∙◌}
use native.Mathlib.Omega.{arith}
use Rattle.settle.proofs.settle_node.Goals as goal

pub leaf_cell-cell-requires : goal.leaf_cell-cell-requires
leaf_cell-cell-requires c =
    leaf c.requires (name-kind _ (λ q. c.if-kind_of-ne-NAMED.true (c.kind_of.ensures ∙ q)))

pub walk_after-requires : goal.walk_after-requires
walk_after-requires c =
    (_, _, c.requires, name-kind _ (λ q. c.if-kind_of-ne-NAMED.true (c.kind_of.ensures ∙ q)))

pub returns-then-kind_of-ne-NAMED : goal.returns-then-kind_of-ne-NAMED
returns-then-kind_of-ne-NAMED c =
    λ h. let n = name-kind _ (λ q. c.if-kind_of-ne-NAMED.true (c.kind_of.ensures ∙ q)) in leaf-settled h n _ _ c.leaf_cell-cell.ensures (c.walk_after.ensures _ _ h n)

pub value_named-requires : goal.value_named-requires
value_named-requires c =
    (here c.requires, rw c.token_of-k.ensures (name-fits c.requires (sym c.kind_of.ensures ∙ c.if-kind_of-ne-NAMED.false)))

pub returns-in-Some : goal.returns-in-Some
returns-in-Some c =
    λ h. let e = sym c.kind_of.ensures ∙ c.if-kind_of-ne-NAMED.false in
    value-settled h e _ _ c.in-Some.is (rw c.token_of-k.ensures at (c.value_named.ensures (here h) h.point.seen (rw c.token_of-k.ensures (name-fits h e))))

pub place-c-requires : goal.place-c-requires
place-c-requires c =
    (c.requires.point.seen, rw c.token_of-k.ensures (heard-inside c.requires (sym c.kind_of.ensures ∙ c.if-kind_of-ne-NAMED.false)))

pub cell-requires : goal.cell-requires
cell-requires c =
    let g = heard-inside c.requires (sym c.kind_of.ensures ∙ c.if-kind_of-ne-NAMED.false) in
    let s = rw c.token_of-k.ensures at (c.place-c.ensures c.requires.point.seen) in
    (place-small g (s g), omega arith, omega arith)

pub returns : goal.returns
returns c =
    λ h. let e = sym c.kind_of.ensures ∙ c.if-kind_of-ne-NAMED.false in
    let v = rw c.token_of-k.ensures at (c.value_named.ensures (here h) h.point.seen (rw c.token_of-k.ensures (name-fits h e))) in
    let s = (rw c.token_of-k.ensures at (c.place-c.ensures h.point.seen)) (heard-inside h e) in
    channel-settled h e c.place-c.result c.cell.result _ _ _ _ c.in_default.is v s c.cell.ensures refl refl refl
