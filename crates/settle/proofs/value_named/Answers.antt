use Rattle.token.specs.Contents.{lows_in}
use Rattle.token.proofs.Columns.{low_at, length-lows}
use Rattle.settle.proofs.Finds.{look_up, a-local}
use Rattle.settle.proofs.Meets.{found-node, none-found, not-known, is-whole, no-value, negated-is, value-local, value-whole}
use lib.Dec.{eqb}
use Rattle.tree.specs.Node as node
use Rattle.tree.specs.Node.{number_kind}
use Rattle.tables.specs.Settled.{number_cell}
use Rattle.settle.specs.Places.{signed, word_in, meaning_at}
use Rattle.settle.proofs.Cells.{whole_is}
use mathlib.Core.Path.{◌≡◌, refl, ap, ap₂, sym, ◌∙◌}
use mathlib.Core.List.{[]}
use mathlib.Core.Bool.{Bool, ◌||◌}
use Prim.Native.Nat.{ℕ}
use native.Mathlib.Omega.{arith}
use lib.ListN.{get_or}
use Rattle.settle.proofs.value_named.Goals as goal

pub local_named-requires : goal.local_named-requires
local_named-requires c =
    look_up c.requires.0 c.args.k c.requires.1

pub cell-requires : goal.cell-requires
cell-requires c =
    (omega (arith, (a-local c.requires.0 c.args.k c.requires.1 c.local_named.ensures c.in-Some.is).1), omega arith, omega arith)

pub returns-in-Some : goal.returns-in-Some
returns-in-Some c =
    λ h s e. value-local h c.args.k s _ (a-local h c.args.k e c.local_named.ensures c.in-Some.is).0 c.cell.ensures

pub returns-in_err-number : goal.returns-in_err-number
returns-in_err-number c =
    λ h s e. rw c.from_residual.ensures (not-known h c.args.k s e c.local_named.ensures c.in_default.is (none-found _ _ _ (c.number_named.ensures h.at e) c.in_err-number.was))

pub returns : goal.returns
returns c =
    λ h s e. no-value h c.args.k s e c.local_named.ensures c.in_default.is _ _ (found-node _ _ _ (c.number_named.ensures h.at e) c.in_ok-number.was) c.kind_of-kind.ensures c.is_whole.ensures c.if-is_whole.false

pub bounds-parsed-token_of : goal.bounds-parsed-token_of
bounds-parsed-token_of c =
    let g = is-whole c.requires.0 c.args.k [] c.requires.1 c.local_named.ensures c.in_default.is _ _ (found-node _ _ _ (c.number_named.ensures c.requires.0.at c.requires.1) c.in_ok-number.was) c.kind_of-kind.ensures c.is_whole.ensures c.if-is_whole.true in
    rw (c.token_of.ensures, g.token-is, ← length-lows c.args.parsed.contents.now) g.told.inside

pub offset_bounds-parsed-token_of : goal.offset_bounds-parsed-token_of
offset_bounds-parsed-token_of c =
    let g = is-whole c.requires.0 c.args.k [] c.requires.1 c.local_named.ensures c.in_default.is _ _ (found-node _ _ _ (c.number_named.ensures c.requires.0.at c.requires.1) c.in_ok-number.was) c.kind_of-kind.ensures c.is_whole.ensures c.if-is_whole.true in
    omega (arith, c.token_of.ensures, g.token-is, g.told.inside, length-lows c.args.parsed.contents.now)

pub number_cell-requires : goal.number_cell-requires
number_cell-requires c =
    let g = is-whole c.requires.0 c.args.k [] c.requires.1 c.local_named.ensures c.in_default.is _ _ (found-node _ _ _ (c.number_named.ensures c.requires.0.at c.requires.1) c.in_ok-number.was) c.kind_of-kind.ensures c.is_whole.ensures c.if-is_whole.true in
    rw (← low_at c.args.parsed.contents.now c.token_of.result, c.token_of.ensures, g.token-is) (omega (arith, (whole_is (word_in c.requires.0.at) g.negated g.token (get_or (lows_in c.args.parsed.contents.now) g.token 0) g.told.safe (g.told.wholes refl)).0))

pub returns-then-is_whole : goal.returns-then-is_whole
unfolding number_kind
returns-then-is_whole c =
    λ h s e. let g = is-whole h c.args.k s e c.local_named.ensures c.in_default.is _ _ (found-node _ _ _ (c.number_named.ensures h.at e) c.in_ok-number.was) c.kind_of-kind.ensures c.is_whole.ensures c.if-is_whole.true in
    let z : c.is_negative.result ≡ g.negated = negated-is (lows_in c.args.parsed.contents.now) (word_in h.at) c.in_ok-number.number c.is_negative.result (c.is_negative.ensures ∙ ap (λ (κ : ℕ). eqb κ 30 || eqb κ 32) c.kind_of-kind.ensures) (meaning_at h c.args.k) g in
    let v = low_at c.args.parsed.contents.now c.token_of.result in
    value-whole h c.args.k s c.in_ok-number.number c.number_cell.result g (c.number_cell.ensures ∙ ap₂ (λ (b : Bool) (n : ℕ). number_cell node.literal (signed b n)) z (sym v ∙ ap (λ (j : ℕ). get_or (lows_in c.args.parsed.contents.now) j 0) (c.token_of.ensures ∙ g.token-is)))
