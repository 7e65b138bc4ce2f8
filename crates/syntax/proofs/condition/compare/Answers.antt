-- `syntax::condition::compare` meets its contract: a case for each of its returns, from Conditions.antt.
use mathlib.Core.Path.{sym, ap, ◌∙◌}
use native.Mathlib.Omega.{arith}
use Rattle.tree.specs.Node.{relation_kind}
use Rattle.tree.proofs.Spans.{made_of, ready-after, ready-token}
use Rattle.syntax.specs.Signs.{relation_signs, sign_kind}
use Rattle.syntax.proofs.Answers.{raised}
use Rattle.syntax.proofs.Signs.{hit, apart}
use Rattle.syntax.proofs.Conditions.{relation-sign, sign-present, sign_low, compare-stray, compare-fault, compare-second, compare-made}
use Rattle.syntax.proofs.condition.compare.Goals as goal

pub returns-in_default : goal.returns-in_default
unfolding relation_kind
returns-in_default c =
    let r = compare-stray _ _ _ _ _ _ c.in_ok-n.was (c.expr.ensures.follows, c.expr.ensures.parsed) (apart relation_signs _ (sym c.in_default.is ∙ c.relation_kind.ensures ∙ ap (sign_kind relation_signs) c.peek.ensures)) in record { follows = r.0; parsed = r.1 }

pub expr-requires-2 : goal.expr-requires-2
expr-requires-2 c =
    let m = made_of c.in_ok-n.was c.expr.ensures.parsed in ready-token (ready-after c.requires.ready m.span) (sign-present _ _ (relation-sign _ _ (hit relation_signs _ _ (sym c.in-Some.is ∙ c.relation_kind.ensures ∙ ap (sign_kind relation_signs) c.peek.ensures))))

pub overflow_add-kind : goal.overflow_add-kind
overflow_add-kind c =
    let l = sign_low _ _ (relation-sign _ _ (hit relation_signs _ _ (sym c.in-Some.is ∙ c.relation_kind.ensures ∙ ap (sign_kind relation_signs) c.peek.ensures))) in omega (arith, c.requires.more_le_turned)

pub returns-in_err-n : goal.returns-in_err-n
returns-in_err-n c =
    rw (raised c.from_residual.ensures.1) (let r = compare-fault _ _ _ _ _ _ c.in_err-n.was (c.expr.ensures.follows, c.expr.ensures.parsed) in record { follows = r.0; parsed = r.1 })

pub returns-in_err-m : goal.returns-in_err-m
returns-in_err-m c =
    rw (raised c.from_residual-in_err-m.ensures.1) (let r = compare-second _ _ _ _ _ _ c.in_ok-n.was (c.expr.ensures.follows, c.expr.ensures.parsed) _ _ (relation-sign _ _ (hit relation_signs _ _ (sym c.in-Some.is ∙ c.relation_kind.ensures ∙ ap (sign_kind relation_signs) c.peek.ensures))) (c.expr-2.ensures.follows, c.expr-2.ensures.parsed) c.in_err-m.was in record { follows = r.0; parsed = r.1 })

pub returns : goal.returns
returns c =
    let m = made_of c.in_ok-n.was c.expr.ensures.parsed in let r = compare-made _ _ _ _ _ _ c.in_ok-n.was (c.expr.ensures.follows, c.expr.ensures.parsed) _ _ (relation-sign _ _ (hit relation_signs _ _ (sym c.in-Some.is ∙ c.relation_kind.ensures ∙ ap (sign_kind relation_signs) c.peek.ensures))) (c.expr-2.ensures.follows, c.expr-2.ensures.parsed) c.in_ok-m.was (record { written = c.pair.ensures; token-fits = omega arith; left-fits = omega (arith, m.span.onward, m.span.within, m.span.more, m.span.fewer, c.requires.ready.inside, c.requires.ready.room, c.requires.ready.few); third-fits = omega arith }) in record { follows = r.0; parsed = r.1 }
