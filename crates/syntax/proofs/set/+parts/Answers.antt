use mathlib.Core.Path.{sym, ap, ◌∙◌}
use native.Mathlib.Omega.{arith}
use Rattle.tree.specs.Node.{join_kind}
use Rattle.tree.proofs.Spans.{ready-token}
use Rattle.syntax.specs.Signs.{join_signs, sign_kind}
use Rattle.syntax.proofs.Answers.{raised}
use Rattle.syntax.proofs.Signs.{hit, apart}
use Rattle.syntax.proofs.Sets.{join-sign, parts_none, parts-fault, parts_more}
use Rattle.syntax.proofs.set.+parts.Goals as goal

pub returns-in_default : goal.returns-in_default
unfolding join_kind
returns-in_default t c =
    let r = parts_none _ _ _ _ c.requires.inside (apart join_signs _ (sym c.in_default.is ∙ c.join_kind.ensures ∙ ap (sign_kind join_signs) c.peek.ensures)) in record { follows = r.0; extended = r.1 }

pub part-requires : goal.part-requires
part-requires t c =
    let h = (join-sign _ _ (hit join_signs _ _ (sym c.in-Some.is ∙ c.join_kind.ensures ∙ ap (sign_kind join_signs) c.peek.ensures))).present in ready-token c.requires h

pub returns-in_err-n : goal.returns-in_err-n
returns-in_err-n t c =
    rw (raised c.from_residual.ensures.1) (let r = parts-fault _ _ _ _ _ _ (hit join_signs _ _ (sym c.in-Some.is ∙ c.join_kind.ensures ∙ ap (sign_kind join_signs) c.peek.ensures)) (c.part.ensures.follows, c.part.ensures.parsed) c.in_err-n.was in record { follows = r.0; extended = r.1 })

pub returns : goal.returns
returns t c =
    let r = parts_more _ _ _ _ _ _ _ _ _ (hit join_signs _ _ (sym c.in-Some.is ∙ c.join_kind.ensures ∙ ap (sign_kind join_signs) c.peek.ensures)) (c.part.ensures.follows, c.part.ensures.parsed) c.in_ok-n.was (record { written = c.pair.ensures; token-fits = omega arith; left-fits = omega (arith, c.requires.inside, c.requires.room, c.requires.few); third-fits = omega arith }) (c.parts.ensures.follows, c.parts.ensures.extended) in record { follows = r.0; extended = r.1 }
