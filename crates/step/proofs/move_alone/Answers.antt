-- Each answer by its law; the pairs change in the state that the process has left.
use mathlib.Core.Path.{sym, ◌∙◌}
use native.Mathlib.Omega.{arith}
use lib.ListN.{length}
use Rattle.machine.specs.Offer.{next_processes}
use Rattle.step.proofs.Tables.{passed, processes-are}
use Rattle.step.proofs.Continue.{cut-tells}
use Rattle.step.proofs.Moves.{not-true, not-false, continued, changes, replaces, changes-then, no-17, no-18, no-19, yes, room_after}
use Rattle.step.proofs.move_alone.Goals as goal

pub arguments_given-requires : goal.arguments_given-requires
arguments_given-requires c =
    continued c.requires.4

pub returns-then-not-arguments_given-clause-answers : goal.returns-then-not-arguments_given-clause-answers
returns-then-not-arguments_given-clause-answers c =
    λ m s ps n h. no-17 h (sym (c.arguments_given.ensures ps h.defined.shows) ∙ not-true _ c.if-not-arguments_given.true-raw)

pub process_count-n-requires : goal.process_count-n-requires
process_count-n-requires c =
    passed c.requires.4.stands

pub count_next-count-requires : goal.count_next-count-requires
count_next-count-requires c =
    (c.requires.0, c.args.x.locals.now, c.requires.2, c.requires.4.defined)

pub overflow_add-n : goal.overflow_add-n
overflow_add-n c =
    omega (arith, c.process_count-n.ensures.1, c.count_next-count.ensures.1)

pub returns-then-n-count-clause-answers : goal.returns-then-n-count-clause-answers
returns-then-n-count-clause-answers c =
    λ m s ps n h.
    let g = sym (c.arguments_given.ensures ps h.defined.shows) ∙ not-false _ c.if-not-arguments_given.false-raw in
    let a = c.process_count-n.ensures.0 ∙ processes-are h.stands in
    let d = c.count_next-count.ensures.0 m c.args.x.locals.now ps h.defined in
    no-18 h g ((cut-tells (length s.processes) (length (next_processes m c.args.x.locals.now ps))).0 (omega (arith, a, d, c.if-n-count.true)))

pub is_overfull-requires : goal.is_overfull-requires
is_overfull-requires c =
    let h = c.requires.4 in record { model = c.requires.0; state = c.requires.1; change = c.requires.3; changes = changes h }

pub returns-then-is_overfull-clause-answers : goal.returns-then-is_overfull-clause-answers
returns-then-is_overfull-clause-answers c =
    λ m s ps n h.
    let g = sym (c.arguments_given.ensures ps h.defined.shows) ∙ not-false _ c.if-not-arguments_given.false-raw in
    let a = c.process_count-n.ensures.0 ∙ processes-are h.stands in
    let d = c.count_next-count.ensures.0 m c.args.x.locals.now ps h.defined in
    let l = (cut-tells (length s.processes) (length (next_processes m c.args.x.locals.now ps))).1 h.stands.state.few-processes (omega (arith, a, d, c.if-n-count.false)) in
    no-19 h g l (not-true _ (sym (c.is_overfull.ensures m s n (changes h)) ∙ c.if-is_overfull.true))

pub replace_process-requires : goal.replace_process-requires
replace_process-requires c =
    let m = c.requires.0 in
    let s = c.requires.1 in
    let ps = c.requires.2 in
    let n = c.requires.3 in
    let h = c.requires.4 in
    let a = c.process_count-n.ensures.0 ∙ processes-are h.stands in
    let d = c.count_next-count.ensures.0 m c.args.x.locals.now ps h.defined in
    let l = (cut-tells (length s.processes) (length (next_processes m c.args.x.locals.now ps))).1 h.stands.state.few-processes (omega (arith, a, d, c.if-n-count.false)) in
    (m, s, ps, replaces h l)

pub change_pairs-requires : goal.change_pairs-requires
change_pairs-requires c =
    let m = c.requires.0 in
    let s = c.requires.1 in
    let ps = c.requires.2 in
    let n = c.requires.3 in
    let h = c.requires.4 in
    let a = c.process_count-n.ensures.0 ∙ processes-are h.stands in
    let d = c.count_next-count.ensures.0 m c.args.x.locals.now ps h.defined in
    let l = (cut-tells (length s.processes) (length (next_processes m c.args.x.locals.now ps))).1 h.stands.state.few-processes (omega (arith, a, d, c.if-n-count.false)) in
    let f = not-false _ (sym (c.is_overfull.ensures m s n (changes h)) ∙ c.if-is_overfull.false) in
    let e = c.replace_process.ensures.moves m s ps (replaces h l) in
    (m, _, n, changes-then h l _ e, room_after h f)

pub returns-clause-answers : goal.returns-clause-answers
returns-clause-answers c =
    λ m s ps n h.
    let g = sym (c.arguments_given.ensures ps h.defined.shows) ∙ not-false _ c.if-not-arguments_given.false-raw in
    let a = c.process_count-n.ensures.0 ∙ processes-are h.stands in
    let d = c.count_next-count.ensures.0 m c.args.x.locals.now ps h.defined in
    let l = (cut-tells (length s.processes) (length (next_processes m c.args.x.locals.now ps))).1 h.stands.state.few-processes (omega (arith, a, d, c.if-n-count.false)) in
    let f = not-false _ (sym (c.is_overfull.ensures m s n (changes h)) ∙ c.if-is_overfull.false) in
    let e = c.replace_process.ensures.moves m s ps (replaces h l) in
    yes h g l f _ (c.change_pairs.ensures m _ n (changes-then h l _ e) (room_after h f))
