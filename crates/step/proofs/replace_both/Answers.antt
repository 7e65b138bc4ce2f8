-- One replacement after the other, in the order that the first count tells.
use mathlib.Core.Path.{sym, ◌∙◌}
use Rattle.step.proofs.Moves.{cut-zero, cut-some, first_goes, second-next, first-both, second-goes, first_next, second-both}
use Rattle.step.proofs.replace_both.Goals as goal

pub count_next-requires : goal.count_next-requires
count_next-requires c =
    (c.requires.0, c.args.x.locals.now, c.requires.2, c.requires.4.first)

pub replace_process-requires : goal.replace_process-requires
replace_process-requires c =
    let m = c.requires.0 in
    let s = c.requires.1 in
    let ps = c.requires.2 in
    let qs = c.requires.3 in
    let h = c.requires.4 in
    let z = cut-zero _ (sym (c.count_next.ensures.0 m c.args.x.locals.now ps h.first) ∙ c.if-count_next-eq0.true) in
    (m, s, ps, first_goes h z)

pub replace_process-requires-then-count_next-eq0 : goal.replace_process-requires-then-count_next-eq0
replace_process-requires-then-count_next-eq0 c =
    let m = c.requires.0 in
    let s = c.requires.1 in
    let ps = c.requires.2 in
    let qs = c.requires.3 in
    let h = c.requires.4 in
    let z = cut-zero _ (sym (c.count_next.ensures.0 m c.args.x.locals.now ps h.first) ∙ c.if-count_next-eq0.true) in
    (m, _, qs, second-next h z _ c.replace_process.ensures.same.1 (c.replace_process.ensures.moves m s ps (first_goes h z)))

pub returns-then-count_next-eq0-clause-moves : goal.returns-then-count_next-eq0-clause-moves
returns-then-count_next-eq0-clause-moves c =
    λ m s ps qs h.
    let z = cut-zero _ (sym (c.count_next.ensures.0 m c.args.x.locals.now ps h.first) ∙ c.if-count_next-eq0.true) in
    c.replace_process-then-count_next-eq0.ensures.moves m _ qs (second-next h z _ c.replace_process.ensures.same.1 (c.replace_process.ensures.moves m s ps (first_goes h z))) ∙ first-both h z

pub replace_process-requires-2 : goal.replace_process-requires-2
replace_process-requires-2 c =
    let m = c.requires.0 in
    let s = c.requires.1 in
    let ps = c.requires.2 in
    let qs = c.requires.3 in
    let h = c.requires.4 in
    let z = cut-some _ (λ e. c.if-count_next-eq0.false (c.count_next.ensures.0 m c.args.x.locals.now ps h.first ∙ e)) in
    (m, s, qs, second-goes h z)

pub replace_process-requires-3 : goal.replace_process-requires-3
replace_process-requires-3 c =
    let m = c.requires.0 in
    let s = c.requires.1 in
    let ps = c.requires.2 in
    let qs = c.requires.3 in
    let h = c.requires.4 in
    let z = cut-some _ (λ e. c.if-count_next-eq0.false (c.count_next.ensures.0 m c.args.x.locals.now ps h.first ∙ e)) in
    (m, _, ps, first_next h z _ c.replace_process-2.ensures.same.1 (c.replace_process-2.ensures.moves m s qs (second-goes h z)))

pub returns-clause-moves : goal.returns-clause-moves
returns-clause-moves c =
    λ m s ps qs h.
    let z = cut-some _ (λ e. c.if-count_next-eq0.false (c.count_next.ensures.0 m c.args.x.locals.now ps h.first ∙ e)) in
    c.replace_process-3.ensures.moves m _ ps (first_next h z _ c.replace_process-2.ensures.same.1 (c.replace_process-2.ensures.moves m s qs (second-goes h z))) ∙ second-both h z
