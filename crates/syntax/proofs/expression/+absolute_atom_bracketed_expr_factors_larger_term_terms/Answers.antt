use mathlib.Core.Path.{sym, ap, ◌∙◌}
use native.Mathlib.Omega.{arith}
use Rattle.grammar.proofs.Follows.{inside, same, isnt}
use Rattle.tree.specs.Node.{op_kind}
use Rattle.tree.proofs.Spans.{made_of, ready-token}
use Rattle.syntax.specs.Signs.{sum_signs, product_signs, sign_kind}
use Rattle.syntax.proofs.Answers.{raised}
use Rattle.syntax.proofs.Signs.{hit, apart}
use Rattle.syntax.proofs.Expressions.{factor-sign, term-sign, absolute-stray, absolute-fault, absolute-made, atom-name, atom-bracketed, atom-absolute, atom-maximum, atom-minimum, atom-literal, bracketed-open, bracketed-fault, bracketed-closed, expr-fault, expr-made, term-fault, term_made, factors-none, factors-fault, factors-more, terms-none, terms-fault, terms-more, larger-stray, larger-comma, larger-fault, larger-second, larger-made}
use Rattle.syntax.proofs.expression.+absolute_atom_bracketed_expr_factors_larger_term_terms.Goals as goal

pub absolute-returns-then-peek-ne40 : goal.absolute-returns-then-peek-ne40
absolute-returns-then-peek-ne40 t c =
    let r = absolute-stray _ _ _ _ c.requires.inside (isnt c.peek.ensures c.if-peek-ne40.true) in record { follows = r.0; parsed = r.1 }

pub absolute-returns-in_err-n : goal.absolute-returns-in_err-n
absolute-returns-in_err-n t c =
    rw (raised c.from_residual.ensures.1) (let r = absolute-fault _ _ _ _ _ (same c.peek.ensures c.if-peek-ne40.false) (c.bracketed.ensures.follows, c.bracketed.ensures.parsed) c.in_err-n.was in record { follows = r.0; parsed = r.1 })

pub absolute-returns : goal.absolute-returns
absolute-returns t c =
    let r = absolute-made _ _ _ _ _ (same c.peek.ensures c.if-peek-ne40.false) (c.bracketed.ensures.follows, c.bracketed.ensures.parsed) c.in_ok-n.was (record { written = c.node.ensures; token-fits = omega arith; left-fits = omega arith; third-fits = omega arith }) in record { follows = r.0; parsed = r.1 }

pub atom-returns-in-1 : goal.atom-returns-in-1
atom-returns-in-1 t c =
    let r = atom-name _ _ _ _ _ (same c.peek.ensures c.in-1.is) (record { written = c.leaf.ensures; token-fits = omega (arith, c.requires.inside, c.requires.room, c.requires.few); left-fits = omega arith; third-fits = omega arith }) in record { follows = r.0; parsed = r.1 }

pub atom-returns-in-40 : goal.atom-returns-in-40
atom-returns-in-40 t c =
    let r = atom-bracketed _ _ _ _ _ _ (same c.peek.ensures c.in-40.is) (c.bracketed.ensures.follows, c.bracketed.ensures.parsed) in record { follows = r.0; parsed = r.1 }

pub atom-returns-in-5 : goal.atom-returns-in-5
atom-returns-in-5 t c =
    let r = atom-absolute _ _ _ _ _ _ (same c.peek.ensures c.in-5.is) (c.absolute.ensures.follows, c.absolute.ensures.parsed) in record { follows = r.0; parsed = r.1 }

pub atom-returns-in-6 : goal.atom-returns-in-6
unfolding op_kind
atom-returns-in-6 t c =
    let r = atom-maximum _ _ _ _ _ _ (same c.peek.ensures c.in-6.is) (c.larger.ensures.follows, c.larger.ensures.parsed) in record { follows = r.0; parsed = r.1 }

pub atom-returns-in-7 : goal.atom-returns-in-7
unfolding op_kind
atom-returns-in-7 t c =
    let r = atom-minimum _ _ _ _ _ _ (same c.peek.ensures c.in-7.is) (c.larger-in-7.ensures.follows, c.larger-in-7.ensures.parsed) in record { follows = r.0; parsed = r.1 }

pub atom-returns-in_default : goal.atom-returns-in_default
atom-returns-in_default t c =
    let r = atom-literal _ _ _ _ _ _ (isnt c.peek.ensures (omega arith)) (isnt c.peek.ensures (omega arith)) (isnt c.peek.ensures (omega arith)) (isnt c.peek.ensures (omega arith)) (isnt c.peek.ensures (omega arith)) (c.literal.ensures.follows, c.literal.ensures.parsed) in record { follows = r.0; parsed = r.1 }

pub bracketed-returns-then-peek-ne41 : goal.bracketed-returns-then-peek-ne41
bracketed-returns-then-peek-ne41 t c =
    let r = bracketed-open _ _ _ _ _ (c.expr.ensures.follows, c.expr.ensures.parsed) c.in_ok-n.was (isnt c.peek.ensures c.if-peek-ne41.true) in record { follows = r.0; parsed = r.1 }

pub bracketed-returns-in_err-n : goal.bracketed-returns-in_err-n
bracketed-returns-in_err-n t c =
    rw (raised c.from_residual.ensures.1) (let r = bracketed-fault _ _ _ _ _ (c.expr.ensures.follows, c.expr.ensures.parsed) c.in_err-n.was in record { follows = r.0; parsed = r.1 })

pub bracketed-returns : goal.bracketed-returns
bracketed-returns t c =
    let r = bracketed-closed _ _ _ _ _ (c.expr.ensures.follows, c.expr.ensures.parsed) c.in_ok-n.was (same c.peek.ensures c.if-peek-ne41.false) in record { follows = r.0; parsed = r.1 }

pub expr-returns-in_err-n : goal.expr-returns-in_err-n
expr-returns-in_err-n t c =
    rw (raised c.from_residual.ensures.1) (let r = expr-fault _ _ _ _ _ c.in_err-n.was (c.term.ensures.follows, c.term.ensures.parsed) in record { follows = r.0; parsed = r.1 })

pub expr-returns : goal.expr-returns
expr-returns t c =
    let r = expr-made _ _ _ _ _ _ _ c.in_ok-n.was (c.term.ensures.follows, c.term.ensures.parsed) (c.terms.ensures.follows, c.terms.ensures.extended) in record { follows = r.0; parsed = r.1 }

pub factors-returns-in_default : goal.factors-returns-in_default
unfolding op_kind
factors-returns-in_default t c =
    let r = factors-none _ _ _ _ c.requires.inside (apart product_signs _ (sym c.in_default.is ∙ c.product_kind.ensures ∙ ap (sign_kind product_signs) c.peek.ensures)) in record { follows = r.0; extended = r.1 }

pub factors-atom-requires : goal.factors-atom-requires
factors-atom-requires t c =
    let h = (factor-sign _ _ (hit product_signs _ _ (sym c.in-Some.is ∙ c.product_kind.ensures ∙ ap (sign_kind product_signs) c.peek.ensures))).present in let l = inside c.args.toks.now _ h in (omega arith, ready-token c.requires h)

pub factors-returns-in_err-n : goal.factors-returns-in_err-n
factors-returns-in_err-n t c =
    rw (raised c.from_residual.ensures.1) (let r = factors-fault _ _ _ _ _ _ (hit product_signs _ _ (sym c.in-Some.is ∙ c.product_kind.ensures ∙ ap (sign_kind product_signs) c.peek.ensures)) (c.atom.ensures.follows, c.atom.ensures.parsed) c.in_err-n.was in record { follows = r.0; extended = r.1 })

pub factors-returns : goal.factors-returns
factors-returns t c =
    let r = factors-more _ _ _ _ _ _ _ _ _ (hit product_signs _ _ (sym c.in-Some.is ∙ c.product_kind.ensures ∙ ap (sign_kind product_signs) c.peek.ensures)) (c.atom.ensures.follows, c.atom.ensures.parsed) c.in_ok-n.was (record { written = c.pair.ensures; token-fits = omega arith; left-fits = omega (arith, c.requires.inside, c.requires.room, c.requires.few); third-fits = omega arith }) (c.factors.ensures.follows, c.factors.ensures.extended) in record { follows = r.0; extended = r.1 }

pub larger-returns-then-peek-ne40 : goal.larger-returns-then-peek-ne40
larger-returns-then-peek-ne40 t c =
    let r = larger-stray _ _ _ _ _ c.requires.inside (isnt c.peek.ensures c.if-peek-ne40.true) in record { follows = r.0; parsed = r.1 }

pub larger-returns-then-peek-ne44 : goal.larger-returns-then-peek-ne44
larger-returns-then-peek-ne44 t c =
    let r = larger-comma _ _ _ _ _ _ (same c.peek.ensures c.if-peek-ne40.false) (c.expr.ensures.follows, c.expr.ensures.parsed) c.in_ok-n.was (isnt c.peek-2.ensures c.if-peek-ne44.true) in record { follows = r.0; parsed = r.1 }

pub larger-returns-in_err-n : goal.larger-returns-in_err-n
larger-returns-in_err-n t c =
    rw (raised c.from_residual.ensures.1) (let r = larger-fault _ _ _ _ _ _ (same c.peek.ensures c.if-peek-ne40.false) (c.expr.ensures.follows, c.expr.ensures.parsed) c.in_err-n.was in record { follows = r.0; parsed = r.1 })

pub larger-returns-in_err-m : goal.larger-returns-in_err-m
larger-returns-in_err-m t c =
    rw (raised c.from_residual-in_err-m.ensures.1) (let r = larger-second _ _ _ _ _ _ (same c.peek.ensures c.if-peek-ne40.false) (c.expr.ensures.follows, c.expr.ensures.parsed) c.in_ok-n.was _ (same c.peek-2.ensures c.if-peek-ne44.false) (c.bracketed.ensures.follows, c.bracketed.ensures.parsed) c.in_err-m.was in record { follows = r.0; parsed = r.1 })

pub larger-returns : goal.larger-returns
larger-returns t c =
    let m = made_of c.in_ok-n.was (c.expr.ensures.parsed) in let r = larger-made _ _ _ _ _ _ (same c.peek.ensures c.if-peek-ne40.false) (c.expr.ensures.follows, c.expr.ensures.parsed) c.in_ok-n.was _ (same c.peek-2.ensures c.if-peek-ne44.false) (c.bracketed.ensures.follows, c.bracketed.ensures.parsed) c.in_ok-m.was (record { written = c.pair.ensures; token-fits = omega arith; left-fits = omega (arith, m.span.onward, m.span.within, m.span.more, m.span.fewer, c.requires.inside, c.requires.room, c.requires.few); third-fits = omega arith }) in record { follows = r.0; parsed = r.1 }

pub term-returns-in_err-n : goal.term-returns-in_err-n
term-returns-in_err-n t c =
    rw (raised c.from_residual.ensures.1) (let r = term-fault _ _ _ _ _ c.in_err-n.was (c.atom.ensures.follows, c.atom.ensures.parsed) in record { follows = r.0; parsed = r.1 })

pub term-returns : goal.term-returns
term-returns t c =
    let r = term_made _ _ _ _ _ _ _ c.in_ok-n.was (c.atom.ensures.follows, c.atom.ensures.parsed) (c.factors.ensures.follows, c.factors.ensures.extended) in record { follows = r.0; parsed = r.1 }

pub terms-returns-in_default : goal.terms-returns-in_default
unfolding op_kind
terms-returns-in_default t c =
    let r = terms-none _ _ _ _ c.requires.inside (apart sum_signs _ (sym c.in_default.is ∙ c.sum_kind.ensures ∙ ap (sign_kind sum_signs) c.peek.ensures)) in record { follows = r.0; extended = r.1 }

pub terms-term-requires : goal.terms-term-requires
terms-term-requires t c =
    let h = (term-sign _ _ (hit sum_signs _ _ (sym c.in-Some.is ∙ c.sum_kind.ensures ∙ ap (sign_kind sum_signs) c.peek.ensures))).present in let l = inside c.args.toks.now _ h in (omega arith, ready-token c.requires h)

pub terms-returns-in_err-n : goal.terms-returns-in_err-n
terms-returns-in_err-n t c =
    rw (raised c.from_residual.ensures.1) (let r = terms-fault _ _ _ _ _ _ (hit sum_signs _ _ (sym c.in-Some.is ∙ c.sum_kind.ensures ∙ ap (sign_kind sum_signs) c.peek.ensures)) (c.term.ensures.follows, c.term.ensures.parsed) c.in_err-n.was in record { follows = r.0; extended = r.1 })

pub terms-returns : goal.terms-returns
terms-returns t c =
    let r = terms-more _ _ _ _ _ _ _ _ _ (hit sum_signs _ _ (sym c.in-Some.is ∙ c.sum_kind.ensures ∙ ap (sign_kind sum_signs) c.peek.ensures)) (c.term.ensures.follows, c.term.ensures.parsed) c.in_ok-n.was (record { written = c.pair.ensures; token-fits = omega arith; left-fits = omega (arith, c.requires.inside, c.requires.room, c.requires.few); third-fits = omega arith }) (c.terms.ensures.follows, c.terms.ensures.extended) in record { follows = r.0; extended = r.1 }
