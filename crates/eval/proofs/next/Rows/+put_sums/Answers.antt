use mathlib.Core.Path.{ap, sym, ◌∙◌}
use Prim.Native.Nat.{ℕ}
use native.Mathlib.Omega.{arith}
use lib.ListN.{get_or}
use Rattle.tree.specs.Node.{kind_of, token_of, left_of}
use Rattle.eval.proofs.Rows.{sums-inside, sums-more, last-below, first_below, token-small, rows-size, last_sum, more-sums}
use Rattle.eval.proofs.next.Rows.+put_sums.Goals as goal

pub put_row-requires : goal.put_row-requires
put_row-requires t c =
    let s = c in
    let T = s.args.tables.nodes.now in
    let k = s.args.k in
    let o = c.token_of.ensures ∙ ap token_of c.cell_at-cell.ensures in
    let is = c.kind_of.ensures ∙ ap kind_of c.cell_at-cell.ensures in
    (rw o (token-small _), s.requires.1, sums-inside T _ k _ _ s.requires.0, rw o (last-below T _ k _ _ s.requires.0 (λ x. c.if-kind_of-ne-BESIDE.true (is ∙ x))))

pub returns-then-kind_of-ne-BESIDE-clause-written : goal.returns-then-kind_of-ne-BESIDE-clause-written
returns-then-kind_of-ne-BESIDE-clause-written t c =
    let s = c in
    let T = s.args.tables.nodes.now in
    let k = s.args.k in
    let r = s.args.self.now in
    let is = c.kind_of.ensures ∙ ap kind_of c.cell_at-cell.ensures in
    let o = c.token_of.ensures ∙ ap token_of c.cell_at-cell.ensures in
    last_sum T s.args.tables.scopes.now k r.next s.args.locals.now r.fresh.now _ _ (λ x. c.if-kind_of-ne-BESIDE.true (is ∙ x)) (rw o at c.put_row.ensures.written)

pub put_row-requires-2 : goal.put_row-requires-2
put_row-requires-2 t c =
    let s = c in
    let T = s.args.tables.nodes.now in
    let k = s.args.k in
    let e = c.left_of.ensures ∙ ap left_of c.cell_at-cell.ensures in
    let o = c.token_of-2.ensures ∙ ap token_of (c.cell_at-first.ensures ∙ ap (λ (x : ℕ). get_or T x 0) e) in
    let is = c.kind_of.ensures ∙ ap kind_of c.cell_at-cell.ensures in
    (rw o (token-small _), s.requires.1, sums-inside T _ k _ _ s.requires.0, rw o (first_below T _ k _ _ s.requires.0 (sym is ∙ c.if-kind_of-ne-BESIDE.false)))

pub overflow_sub-k : goal.overflow_sub-k
overflow_sub-k t c =
    let s = c in
    let T = s.args.tables.nodes.now in
    let k = s.args.k in
    let is = c.kind_of.ensures ∙ ap kind_of c.cell_at-cell.ensures in
    (sums-more T _ k _ _ s.requires.0 (sym is ∙ c.if-kind_of-ne-BESIDE.false)).0

pub put_sums-requires : goal.put_sums-requires
put_sums-requires t c =
    let s = c in
    let T = s.args.tables.nodes.now in
    let k = s.args.k in
    let is = c.kind_of.ensures ∙ ap kind_of c.cell_at-cell.ensures in
    let w = c.put_row-2.ensures.written in
    let f = sums-more T _ k _ _ s.requires.0 (sym is ∙ c.if-kind_of-ne-BESIDE.false) in
    (omega (arith, s.decreases, f.0), (rw (rows-size w, w.next) f.1, s.requires.1))

pub returns-clause-written : goal.returns-clause-written
returns-clause-written t c =
    let s = c in
    let T = s.args.tables.nodes.now in
    let k = s.args.k in
    let r = s.args.self.now in
    let is = c.kind_of.ensures ∙ ap kind_of c.cell_at-cell.ensures in
    let e = c.left_of.ensures ∙ ap left_of c.cell_at-cell.ensures in
    let o = c.token_of-2.ensures ∙ ap token_of (c.cell_at-first.ensures ∙ ap (λ (x : ℕ). get_or T x 0) e) in
    more-sums T s.args.tables.scopes.now k r.next s.args.locals.now r.fresh.now _ _ s.requires.1 _ _ (sym is ∙ c.if-kind_of-ne-BESIDE.false) (rw o at c.put_row-2.ensures.written) c.put_sums.ensures.written
