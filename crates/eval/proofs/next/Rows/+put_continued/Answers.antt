use mathlib.Core.Path.{ap, ◌∙◌}
use Prim.Native.Nat.{ℕ, ◌-◌}
use native.Mathlib.Omega.{arith}
use lib.ListN.{length, get_or}
use Rattle.tree.specs.Node.{kind_of, token_of, left_of}
use Rattle.eval.proofs.Continuations.{some-body}
use Rattle.eval.proofs.Rows.{token-small, rows-size}
use Rattle.eval.proofs.Puts.{group-puts, first-spaced, second-spaced, items-put, entered-few, entered_below, sum-spaced, sum-puts, bare-fits, bare-puts, last-kind, call_fits, value-puts}
use Rattle.eval.proofs.next.Rows.+put_continued.Goals as goal

pub returns-then-kind-eq-GROUP-clause-written : goal.returns-then-kind-eq-GROUP-clause-written
returns-then-kind-eq-GROUP-clause-written t c =
    let s = c in
    let T = s.args.tables.nodes.now in
    let R = s.args.tables.root in
    let N = s.args.tables.variables in
    let L = s.args.locals.now in
    let S = s.args.tables.scopes.now in
    let k = s.args.k in
    let is = c.kind_of-kind.ensures ∙ ap kind_of c.cell_at-cell.ensures in
    let r = s.args.self.now in
    let p = s.requires in
    group-puts T R N L p.1 S k c.kind_of-kind.result is (length r.fresh.now) r.next c.if-kind-eq-GROUP.true r.fresh.now _ _ c.put_continued.ensures.written

pub put_continued-requires-then-kind-eq-ITEM : goal.put_continued-requires-then-kind-eq-ITEM
put_continued-requires-then-kind-eq-ITEM t c =
    let s = c in
    let T = s.args.tables.nodes.now in
    let R = s.args.tables.root in
    let N = s.args.tables.variables in
    let L = s.args.locals.now in
    let S = s.args.tables.scopes.now in
    let k = s.args.k in
    let is = c.kind_of-kind.ensures ∙ ap kind_of c.cell_at-cell.ensures in
    let r = s.args.self.now in
    let p = s.requires in
    let e = c.left_of.ensures ∙ ap left_of c.cell_at-cell.ensures in
    let g = first-spaced T R N L p.1 S k c.kind_of-kind.result is (length r.fresh.now) r.next c.if-kind-eq-ITEM.true p.0 in
    (rw (e, ← s.decreases) g.1, (rw e g.2, p.1))

pub put_continued-requires-then-kind-eq-ITEM-2 : goal.put_continued-requires-then-kind-eq-ITEM-2
put_continued-requires-then-kind-eq-ITEM-2 t c =
    let s = c in
    let T = s.args.tables.nodes.now in
    let R = s.args.tables.root in
    let N = s.args.tables.variables in
    let L = s.args.locals.now in
    let S = s.args.tables.scopes.now in
    let k = s.args.k in
    let is = c.kind_of-kind.ensures ∙ ap kind_of c.cell_at-cell.ensures in
    let r = s.args.self.now in
    let p = s.requires in
    let e = c.left_of.ensures ∙ ap left_of c.cell_at-cell.ensures in
    let g = first-spaced T R N L p.1 S k c.kind_of-kind.result is (length r.fresh.now) r.next c.if-kind-eq-ITEM.true p.0 in
    let v = rw e at c.put_continued-then-kind-eq-ITEM.ensures.written in
    let l = rows-size (v g.2.model g.2.parts g.2.holds g.2.scoped) in
    (omega (arith, s.decreases, g.0), (rw l (second-spaced T R N L p.1 S k c.kind_of-kind.result is (length r.fresh.now) r.next c.if-kind-eq-ITEM.true r.fresh.now _ _ p.0 v), p.1))

pub returns-then-kind-eq-ITEM-clause-written : goal.returns-then-kind-eq-ITEM-clause-written
returns-then-kind-eq-ITEM-clause-written t c =
    let s = c in
    let T = s.args.tables.nodes.now in
    let R = s.args.tables.root in
    let N = s.args.tables.variables in
    let L = s.args.locals.now in
    let S = s.args.tables.scopes.now in
    let k = s.args.k in
    let is = c.kind_of-kind.ensures ∙ ap kind_of c.cell_at-cell.ensures in
    let r = s.args.self.now in
    let p = s.requires in
    let e = c.left_of.ensures ∙ ap left_of c.cell_at-cell.ensures in
    let v = rw e at c.put_continued-then-kind-eq-ITEM.ensures.written in
    items-put T R N L p.1 S k c.kind_of-kind.result is (length r.fresh.now) r.next c.if-kind-eq-ITEM.true r.fresh.now _ _ _ _ v c.put_continued-then-kind-eq-ITEM-2.ensures.written

pub put_row-requires : goal.put_row-requires
put_row-requires t c =
    let s = c in
    let T = s.args.tables.nodes.now in
    let R = s.args.tables.root in
    let N = s.args.tables.variables in
    let L = s.args.locals.now in
    let S = s.args.tables.scopes.now in
    let k = s.args.k in
    let is = c.kind_of-kind.ensures ∙ ap kind_of c.cell_at-cell.ensures in
    let r = s.args.self.now in
    let p = s.requires in
    let o = c.token_of-token.ensures ∙ ap token_of c.cell_at-cell.ensures in
    let f = c.kind_of-kind.result in
    let z = length r.fresh.now in
    let a = r.next in
    (rw o (token-small _), entered-few T R N L p.1 S k f is z a c.if-kind-eq-SUM.true p.0, sum-spaced T R N L p.1 S k f is z a c.if-kind-eq-SUM.true p.0, rw o (entered_below T R N L p.1 S k f is z a c.if-kind-eq-SUM.true p.0))

pub returns-then-kind-eq-SUM-clause-written : goal.returns-then-kind-eq-SUM-clause-written
returns-then-kind-eq-SUM-clause-written t c =
    let s = c in
    let T = s.args.tables.nodes.now in
    let R = s.args.tables.root in
    let N = s.args.tables.variables in
    let L = s.args.locals.now in
    let S = s.args.tables.scopes.now in
    let k = s.args.k in
    let is = c.kind_of-kind.ensures ∙ ap kind_of c.cell_at-cell.ensures in
    let r = s.args.self.now in
    let p = s.requires in
    let o = c.token_of-token.ensures ∙ ap token_of c.cell_at-cell.ensures in
    sum-puts T R N L p.1 S k c.kind_of-kind.result is (length r.fresh.now) r.next c.if-kind-eq-SUM.true r.fresh.now _ _ (rw o at c.put_row.ensures.written)

pub body_of-body-requires : goal.body_of-body-requires
body_of-body-requires t c =
    let s = c in
    let T = s.args.tables.nodes.now in
    let R = s.args.tables.root in
    let N = s.args.tables.variables in
    let L = s.args.locals.now in
    let k = s.args.k in
    let is = c.kind_of-kind.ensures ∙ ap kind_of c.cell_at-cell.ensures in
    let p = s.requires in
    let o = c.token_of-token.ensures ∙ ap token_of c.cell_at-cell.ensures in
    let b = some-body T R N k c.kind_of-kind.result is c.if-kind-eq-GROUP.false c.if-kind-eq-ITEM.false c.if-kind-eq-SUM.false (record { locals = length L; model = p.0.model; parts = p.0.parts; holds = p.0.holds }) in
    rw o b.above

pub put_sums-requires : goal.put_sums-requires
put_sums-requires t c =
    let s = c in
    let T = s.args.tables.nodes.now in
    let R = s.args.tables.root in
    let N = s.args.tables.variables in
    let L = s.args.locals.now in
    let S = s.args.tables.scopes.now in
    let k = s.args.k in
    let is = c.kind_of-kind.ensures ∙ ap kind_of c.cell_at-cell.ensures in
    let r = s.args.self.now in
    let p = s.requires in
    let o = c.token_of-token.ensures ∙ ap token_of c.cell_at-cell.ensures in
    let y = c.body_of-body.ensures ∙ ap (λ (x : ℕ). left_of (get_or T (R - N - x) 0) - 1) o in
    (rw y (bare-fits T R N L p.1 S k c.kind_of-kind.result is (length r.fresh.now) r.next c.if-kind-eq-CALL.true p.0), omega arith)

pub returns-then-kind-eq-CALL-clause-written : goal.returns-then-kind-eq-CALL-clause-written
returns-then-kind-eq-CALL-clause-written t c =
    let s = c in
    let T = s.args.tables.nodes.now in
    let R = s.args.tables.root in
    let N = s.args.tables.variables in
    let L = s.args.locals.now in
    let S = s.args.tables.scopes.now in
    let k = s.args.k in
    let is = c.kind_of-kind.ensures ∙ ap kind_of c.cell_at-cell.ensures in
    let r = s.args.self.now in
    let p = s.requires in
    let o = c.token_of-token.ensures ∙ ap token_of c.cell_at-cell.ensures in
    let y = c.body_of-body.ensures ∙ ap (λ (x : ℕ). left_of (get_or T (R - N - x) 0) - 1) o in
    bare-puts T R N L p.1 S k c.kind_of-kind.result is (length r.fresh.now) r.next c.if-kind-eq-CALL.true r.fresh.now _ _ (rw y at c.put_sums.ensures.written)

pub put_call-requires : goal.put_call-requires
put_call-requires t c =
    let s = c in
    let T = s.args.tables.nodes.now in
    let R = s.args.tables.root in
    let N = s.args.tables.variables in
    let L = s.args.locals.now in
    let S = s.args.tables.scopes.now in
    let k = s.args.k in
    let is = c.kind_of-kind.ensures ∙ ap kind_of c.cell_at-cell.ensures in
    let r = s.args.self.now in
    let p = s.requires in
    let o = c.token_of-token.ensures ∙ ap token_of c.cell_at-cell.ensures in
    let y = c.body_of-body.ensures ∙ ap (λ (x : ℕ). left_of (get_or T (R - N - x) 0) - 1) o in
    let h = is ∙ last-kind T p.0.parts k (λ x. c.if-kind-eq-GROUP.false (is ∙ x)) (λ x. c.if-kind-eq-ITEM.false (is ∙ x)) (λ x. c.if-kind-eq-SUM.false (is ∙ x)) (λ x. c.if-kind-eq-CALL.false (is ∙ x)) p.0.holds.at in
    (rw y (call_fits T R N L p.1 S k c.kind_of-kind.result is (length r.fresh.now) r.next h p.0), p.1)

pub returns-clause-written : goal.returns-clause-written
returns-clause-written t c =
    let s = c in
    let T = s.args.tables.nodes.now in
    let R = s.args.tables.root in
    let N = s.args.tables.variables in
    let L = s.args.locals.now in
    let S = s.args.tables.scopes.now in
    let k = s.args.k in
    let is = c.kind_of-kind.ensures ∙ ap kind_of c.cell_at-cell.ensures in
    let r = s.args.self.now in
    let p = s.requires in
    let o = c.token_of-token.ensures ∙ ap token_of c.cell_at-cell.ensures in
    let y = c.body_of-body.ensures ∙ ap (λ (x : ℕ). left_of (get_or T (R - N - x) 0) - 1) o in
    let h = is ∙ last-kind T p.0.parts k (λ x. c.if-kind-eq-GROUP.false (is ∙ x)) (λ x. c.if-kind-eq-ITEM.false (is ∙ x)) (λ x. c.if-kind-eq-SUM.false (is ∙ x)) (λ x. c.if-kind-eq-CALL.false (is ∙ x)) p.0.holds.at in
    value-puts T R N L p.1 S k c.kind_of-kind.result is (length r.fresh.now) r.next h r.fresh.now _ _ (rw y at c.put_call.ensures.written)
