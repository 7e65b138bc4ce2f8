-- What is entered gives the move its parts; its answer is said of the locals with the names bound.
use Rattle.rules.specs.Rules.{unchanged}
use Rattle.rules.specs.Step.{on_action, change_of}
use Rattle.step.proofs.Entry.{acts-of, alone_of, alone-answers}
use Rattle.step.proofs.take_alone.Goals as goal

pub pair_values-values-requires : goal.pair_values-values-requires
pair_values-values-requires c =
    (c.requires.0, c.requires.1, c.requires.5.lent.stands)

pub enter-entered-requires : goal.enter-entered-requires
enter-entered-requires c =
    let m = c.requires.0 in
    let s = c.requires.1 in
    let p = c.requires.2 in
    let b = c.requires.3 in
    let g = c.requires.4 in
    let h = c.requires.5 in
    record { model = m; state = s; process = p; branch = b; guard = g; acts = acts-of h }

pub move_alone-requires : goal.move_alone-requires
move_alone-requires c =
    let m = c.requires.0 in
    let s = c.requires.1 in
    let p = c.requires.2 in
    let b = c.requires.3 in
    let g = c.requires.4 in
    let h = c.requires.5 in
    let w = c.enter-entered.ensures m s p b g (acts-of h) in
    let v = c.pair_values-values.ensures m s h.lent.stands in
    rw c.held.ensures (m, s, b.next, _, alone_of h _ v _ _ w)

pub returns-clause-answers : goal.returns-clause-answers
returns-clause-answers c =
    λ m s p b g h.
    let w = c.enter-entered.ensures m s p b g (acts-of h) in
    let v = c.pair_values-values.ensures m s h.lent.stands in
    alone-answers h _ v _ _ w _ _ ((rw c.held.ensures at c.move_alone.ensures.answers m s b.next (on_action unchanged change_of g)) (alone_of h _ v _ _ w))
