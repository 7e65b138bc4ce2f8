use Rattle.token.specs.Contents.{lows_in}
use Rattle.settle.proofs.Finds.{look_up, a-local, no_local}
use Rattle.settle.proofs.Meets.{found-node, no-node, number-of-name, scale-local, scale-number}
use Rattle.grammar.specs.Syntax
use Rattle.model.specs.Given.{variable_named}
use Rattle.model.specs.Resolved
use Rattle.model.specs.Resolved.{number_scale}
use Rattle.settle.specs.Walks.{scale_cell}
use Rattle.settle.specs.Places.{word_in, variables_in, meaning_at}
use mathlib.Core.Path.{ap, ◌∙◌}
use mathlib.Core.List.{[]}
use Prim.Native.Nat.{ℕ}
use native.Mathlib.Omega.{arith}
use Rattle.settle.proofs.scale_named.Goals as goal

pub local_named-requires : goal.local_named-requires
local_named-requires c =
    look_up c.requires.0 c.args.k c.requires.1

pub cell-requires : goal.cell-requires
cell-requires c =
    (omega (arith, (a-local c.requires.0 c.args.k c.requires.1 c.local_named.ensures c.in-Some.is).1), omega arith, omega arith)

pub returns-in-Some : goal.returns-in-Some
returns-in-Some c =
    λ h e g. scale-local h c.args.k _ (a-local h c.args.k e c.local_named.ensures c.in-Some.is).0 c.cell.ensures

pub unreachable-requires : goal.unreachable-requires
unreachable-requires c =
    let h = c.requires.0 in
    let m = no_local h c.args.k c.requires.1 c.local_named.ensures c.in_default.is in
    no-node _ _ _ (c.number_named.ensures h.at c.requires.1) c.in_default-number_named.is (rw (← m) c.requires.2)

pub scale_cell-requires : goal.scale_cell-requires
scale_cell-requires c =
    let h = c.requires.0 in
    let m = no_local h c.args.k c.requires.1 c.local_named.ensures c.in_default.is in
    let g = number-of-name (lows_in c.args.parsed.contents.now) (word_in h.at) c.in-Some-number_named.number (variable_named (word_in h.at) c.args.k (variables_in h.at)) (found-node _ _ _ (c.number_named.ensures h.at c.requires.1) c.in-Some-number_named.is) (rw (← m) c.requires.2) in
    (word_in h.at, g.negated, g.decimal, rw (c.kind_of.ensures, c.token_of.ensures, g.token-is) g.told)

pub returns : goal.returns
returns c =
    λ h e g. let m = no_local h c.args.k e c.local_named.ensures c.in_default.is in
    let x = number-of-name (lows_in c.args.parsed.contents.now) (word_in h.at) c.in-Some-number_named.number (meaning_at h c.args.k) (rw m (found-node _ _ _ (c.number_named.ensures h.at e) c.in-Some-number_named.is)) g in
    scale-number h c.args.k c.in-Some-number_named.number c.scale_cell.result x (c.scale_cell.ensures (word_in h.at) x.negated x.decimal (rw (c.kind_of.ensures, c.token_of.ensures, x.token-is) x.told) ∙ ap (λ (j : ℕ). scale_cell (Resolved.fixed (number_scale (word_in h.at) [] [] [] (Syntax.number x.negated x.decimal j)))) (c.token_of.ensures ∙ x.token-is))
