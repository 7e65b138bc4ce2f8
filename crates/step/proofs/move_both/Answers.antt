-- Each answer by its law; the later process is told by the places.
use mathlib.Core.Path.{sym, ◌∙◌}
use native.Mathlib.Omega.{arith}
use lib.ListN.{length}
use Rattle.machine.specs.Offer.{next_processes}
use Rattle.step.proofs.Tables.{passed, processes-are}
use Rattle.step.proofs.Moves.{not-true, not-false, cut-both, first-continued, second-continued, first-17, second-17, both-18, both_yes, in_order, turned, turned_same}
use Rattle.step.proofs.move_both.Goals as goal

pub arguments_given-requires : goal.arguments_given-requires
arguments_given-requires c =
    first-continued c.requires.4

pub returns-then-not-arguments_given-clause-answers : goal.returns-then-not-arguments_given-clause-answers
returns-then-not-arguments_given-clause-answers c =
    λ m s ps qs h. first-17 h (sym (c.arguments_given.ensures ps h.first.shows) ∙ not-true _ c.if-not-arguments_given.true-raw)

pub arguments_given-requires-2 : goal.arguments_given-requires-2
arguments_given-requires-2 c =
    second-continued c.requires.4

pub returns-then-not-arguments_given-2-clause-answers : goal.returns-then-not-arguments_given-2-clause-answers
returns-then-not-arguments_given-2-clause-answers c =
    λ m s ps qs h.
    let g = sym (c.arguments_given.ensures ps h.first.shows) ∙ not-false _ c.if-not-arguments_given.false-raw in
    second-17 h g (sym (c.arguments_given-2.ensures qs h.second.shows) ∙ not-true _ c.if-not-arguments_given-2.true-raw)

pub process_count-n-requires : goal.process_count-n-requires
process_count-n-requires c =
    passed c.requires.4.stands

pub count_next-count-requires : goal.count_next-count-requires
count_next-count-requires c =
    (c.requires.0, c.args.x.locals.now, c.requires.2, c.requires.4.first)

pub count_next-also-requires : goal.count_next-also-requires
count_next-also-requires c =
    (c.requires.0, c.args.y.locals.now, c.requires.3, c.requires.4.second)

pub overflow_add-n : goal.overflow_add-n
overflow_add-n c =
    omega (arith, c.process_count-n.ensures.1, c.count_next-count.ensures.1, c.count_next-also.ensures.1)

pub overflow_add-n-2 : goal.overflow_add-n-2
overflow_add-n-2 c =
    omega (arith, c.process_count-n.ensures.1, c.count_next-count.ensures.1, c.count_next-also.ensures.1)

pub returns-then-n-count-clause-answers : goal.returns-then-n-count-clause-answers
returns-then-n-count-clause-answers c =
    λ m s ps qs h.
    let g = sym (c.arguments_given.ensures ps h.first.shows) ∙ not-false _ c.if-not-arguments_given.false-raw in
    let f = sym (c.arguments_given-2.ensures qs h.second.shows) ∙ not-false _ c.if-not-arguments_given-2.false-raw in
    let a = c.process_count-n.ensures.0 ∙ processes-are h.stands in
    let d = c.count_next-count.ensures.0 m c.args.x.locals.now ps h.first in
    let e = c.count_next-also.ensures.0 m c.args.y.locals.now qs h.second in
    let k = cut-both (length s.processes) (length (next_processes m c.args.x.locals.now ps)) (length (next_processes m c.args.y.locals.now qs)) in
    both-18 h g f (k.0 (omega (arith, a, d, e, c.if-n-count.true)))

pub replace_both-requires : goal.replace_both-requires
replace_both-requires c =
    let m = c.requires.0 in
    let s = c.requires.1 in
    let ps = c.requires.2 in
    let qs = c.requires.3 in
    let h = c.requires.4 in
    let a = c.process_count-n.ensures.0 ∙ processes-are h.stands in
    let d = c.count_next-count.ensures.0 m c.args.x.locals.now ps h.first in
    let e = c.count_next-also.ensures.0 m c.args.y.locals.now qs h.second in
    let k = cut-both (length s.processes) (length (next_processes m c.args.x.locals.now ps)) (length (next_processes m c.args.y.locals.now qs)) in
    let l = k.1 (omega (arith, a, d, e, c.if-n-count.false)) in
    (m, s, ps, qs, in_order h l c.if-x-y.true)

pub returns-then-x-y-clause-answers : goal.returns-then-x-y-clause-answers
returns-then-x-y-clause-answers c =
    λ m s ps qs h.
    let g = sym (c.arguments_given.ensures ps h.first.shows) ∙ not-false _ c.if-not-arguments_given.false-raw in
    let f = sym (c.arguments_given-2.ensures qs h.second.shows) ∙ not-false _ c.if-not-arguments_given-2.false-raw in
    let a = c.process_count-n.ensures.0 ∙ processes-are h.stands in
    let d = c.count_next-count.ensures.0 m c.args.x.locals.now ps h.first in
    let e = c.count_next-also.ensures.0 m c.args.y.locals.now qs h.second in
    let k = cut-both (length s.processes) (length (next_processes m c.args.x.locals.now ps)) (length (next_processes m c.args.y.locals.now qs)) in
    let l = k.1 (omega (arith, a, d, e, c.if-n-count.false)) in
    both_yes h g f l _ (c.replace_both.ensures.moves m s ps qs (in_order h l c.if-x-y.true))

pub replace_both-requires-2 : goal.replace_both-requires-2
replace_both-requires-2 c =
    let m = c.requires.0 in
    let s = c.requires.1 in
    let ps = c.requires.2 in
    let qs = c.requires.3 in
    let h = c.requires.4 in
    let a = c.process_count-n.ensures.0 ∙ processes-are h.stands in
    let d = c.count_next-count.ensures.0 m c.args.x.locals.now ps h.first in
    let e = c.count_next-also.ensures.0 m c.args.y.locals.now qs h.second in
    let k = cut-both (length s.processes) (length (next_processes m c.args.x.locals.now ps)) (length (next_processes m c.args.y.locals.now qs)) in
    let l = k.1 (omega (arith, a, d, e, c.if-n-count.false)) in
    (m, s, qs, ps, turned h l (omega (arith, c.if-x-y.false)))

pub returns-clause-answers : goal.returns-clause-answers
returns-clause-answers c =
    λ m s ps qs h.
    let g = sym (c.arguments_given.ensures ps h.first.shows) ∙ not-false _ c.if-not-arguments_given.false-raw in
    let f = sym (c.arguments_given-2.ensures qs h.second.shows) ∙ not-false _ c.if-not-arguments_given-2.false-raw in
    let a = c.process_count-n.ensures.0 ∙ processes-are h.stands in
    let d = c.count_next-count.ensures.0 m c.args.x.locals.now ps h.first in
    let e = c.count_next-also.ensures.0 m c.args.y.locals.now qs h.second in
    let k = cut-both (length s.processes) (length (next_processes m c.args.x.locals.now ps)) (length (next_processes m c.args.y.locals.now qs)) in
    let l = k.1 (omega (arith, a, d, e, c.if-n-count.false)) in
    both_yes h g f l _ (c.replace_both-2.ensures.moves m s qs ps (turned h l (omega (arith, c.if-x-y.false))) ∙ turned_same h)
