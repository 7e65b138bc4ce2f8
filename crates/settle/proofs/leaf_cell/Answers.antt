use Rattle.token.specs.Contents.{lows_in}
use Rattle.token.proofs.Columns.{low_at, length-lows}
use mathlib.Core.Logic.{inl, inr}
use lib.Dec.{eqb}
use Rattle.tables.specs.Settled.{number_cell}
use Rattle.settle.specs.Places.{signed}
use Rattle.settle.proofs.Leaves.{whole-inside, whole-done, number-asked, number-answered, scale-leaf, scale-done, leaf-calls, leaf-called, leaf-none}
use mathlib.Core.Path.{ap, sym, ◌∙◌}
use Prim.Native.Nat.{ℕ}
use native.Mathlib.Omega.{arith}
use lib.ListN.{get_or}
use Rattle.settle.proofs.leaf_cell.Goals as goal

pub offset_bounds-parsed-k : goal.offset_bounds-parsed-k
offset_bounds-parsed-k c =
    omega (arith, c.token_of-k.ensures, (whole-inside c.requires _ (omega arith, omega arith) c.kind_of-kind.ensures).0, length-lows c.args.parsed.contents.now)

pub bounds-parsed-k : goal.bounds-parsed-k
bounds-parsed-k c =
    rw (c.token_of-k.ensures, ← length-lows c.args.parsed.contents.now) (whole-inside c.requires _ (omega arith, omega arith) c.kind_of-kind.ensures).0

pub number_cell-requires : goal.number_cell-requires
number_cell-requires c =
    rw (← low_at c.args.parsed.contents.now c.token_of-k.result, c.token_of-k.ensures) (omega (arith, (whole-inside c.requires _ (omega arith, omega arith) c.kind_of-kind.ensures).1))

pub returns-in-1 : goal.returns-in-1
returns-in-1 c =
    λ h. whole-done h _ (omega arith, omega arith) c.kind_of-kind.ensures c.number_cell.result (c.number_cell.ensures ∙ ap (λ (n : ℕ). number_cell 1 (signed (eqb c.kind_of-kind.result 2) n)) (sym (low_at c.args.parsed.contents.now c.token_of-k.result)) ∙ ap (λ (j : ℕ). number_cell 1 (signed (eqb c.kind_of-kind.result 2) (get_or (lows_in c.args.parsed.contents.now) j 0))) c.token_of-k.ensures)

pub scale_cell-requires : goal.scale_cell-requires
scale_cell-requires c =
    number-asked c.requires (omega (arith, c.kind_of-kind.ensures)) (omega (arith, c.kind_of-kind.ensures)) c.kind_of-kind.result c.token_of-k.result c.kind_of-kind.ensures c.token_of-k.ensures

pub returns-in-29-to-32 : goal.returns-in-29-to-32
returns-in-29-to-32 c =
    λ h. number-answered h (omega (arith, c.kind_of-kind.ensures)) (omega (arith, c.kind_of-kind.ensures)) c.scale_cell.result c.kind_of-kind.result c.token_of-k.result c.kind_of-kind.ensures c.token_of-k.ensures c.scale_cell.ensures

pub scale_named-requires : goal.scale_named-requires
scale_named-requires c =
    let e = scale-leaf c.requires (sym c.kind_of-kind.ensures ∙ c.in-33.is) in
    (c.requires.place, rw c.token_of-k.ensures e.0, rw c.token_of-k.ensures e.1)

pub returns-in-33 : goal.returns-in-33
returns-in-33 c =
    λ h.
    let s = sym c.kind_of-kind.ensures ∙ c.in-33.is in
    let e = scale-leaf h s in
    scale-done h s _ (rw c.token_of-k.ensures at (c.scale_named.ensures h.place (rw c.token_of-k.ensures e.0) (rw c.token_of-k.ensures e.1)))

pub call_cell-requires : goal.call_cell-requires
call_cell-requires c =
    leaf-calls c.requires (inl (omega (arith, c.kind_of-kind.ensures), omega (arith, c.kind_of-kind.ensures)))

pub returns-in-50 : goal.returns-in-50
returns-in-50 c =
    λ h. leaf-called h (inl (omega (arith, c.kind_of-kind.ensures), omega (arith, c.kind_of-kind.ensures))) _ c.call_cell.ensures

pub call_cell-requires-in-57-to-60 : goal.call_cell-requires-in-57-to-60
call_cell-requires-in-57-to-60 c =
    leaf-calls c.requires (inr (omega (arith, c.kind_of-kind.ensures), omega (arith, c.kind_of-kind.ensures)))

pub returns-in-57-to-60 : goal.returns-in-57-to-60
returns-in-57-to-60 c =
    λ h. leaf-called h (inr (omega (arith, c.kind_of-kind.ensures), omega (arith, c.kind_of-kind.ensures))) _ c.call_cell-in-57-to-60.ensures

pub returns-in_default : goal.returns-in_default
returns-in_default c =
    λ h. leaf-none h (λ l u. omega (arith, c.kind_of-kind.ensures)) (λ l u. omega (arith, c.kind_of-kind.ensures)) (λ e. omega (arith, c.kind_of-kind.ensures)) (λ l u. omega (arith, c.kind_of-kind.ensures)) (λ l u. omega (arith, c.kind_of-kind.ensures))

pub returns-in_default-2 : goal.returns-in_default-2
returns-in_default-2 c =
    λ h. leaf-none h (λ l u. omega (arith, c.kind_of-kind.ensures)) (λ l u. omega (arith, c.kind_of-kind.ensures)) (λ e. omega (arith, c.kind_of-kind.ensures)) (λ l u. omega (arith, c.kind_of-kind.ensures)) (λ l u. omega (arith, c.kind_of-kind.ensures))

pub returns-in_default-3 : goal.returns-in_default-3
returns-in_default-3 c =
    λ h. leaf-none h (λ l u. omega (arith, c.kind_of-kind.ensures)) (λ l u. omega (arith, c.kind_of-kind.ensures)) (λ e. omega (arith, c.kind_of-kind.ensures)) (λ l u. omega (arith, c.kind_of-kind.ensures)) (λ l u. omega (arith, c.kind_of-kind.ensures))

pub returns-in_default-4 : goal.returns-in_default-4
returns-in_default-4 c =
    λ h. leaf-none h (λ l u. omega (arith, c.kind_of-kind.ensures)) (λ l u. omega (arith, c.kind_of-kind.ensures)) (λ e. omega (arith, c.kind_of-kind.ensures)) (λ l u. omega (arith, c.kind_of-kind.ensures)) (λ l u. omega (arith, c.kind_of-kind.ensures))

pub returns-in_default-5 : goal.returns-in_default-5
returns-in_default-5 c =
    λ h. leaf-none h (λ l u. omega (arith, c.kind_of-kind.ensures)) (λ l u. omega (arith, c.kind_of-kind.ensures)) (λ e. omega (arith, c.kind_of-kind.ensures)) (λ l u. omega (arith, c.kind_of-kind.ensures)) (λ l u. omega (arith, c.kind_of-kind.ensures))
