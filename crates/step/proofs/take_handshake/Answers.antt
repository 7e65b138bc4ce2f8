-- What both enter gives the move its parts; its answer is said of their locals.
use Rattle.step.proofs.Offers.{bare}
use Rattle.step.proofs.Entry.{meets-of, meets-answers}
use Rattle.step.proofs.take_handshake.Goals as goal

pub enter-sender-requires : goal.enter-sender-requires
enter-sender-requires c =
    let m = c.requires.0 in
    let s = c.requires.1 in
    let x = c.requires.2 in
    let y = c.requires.3 in
    let h = c.requires.4 in
    record { model = m; state = s; process = x.process; branch = x.branch; guard = x.guard; acts = h.sender }

pub sent_values-values-requires : goal.sent_values-values-requires
sent_values-values-requires c =
    let m = c.requires.0 in
    let s = c.requires.1 in
    let x = c.requires.2 in
    let y = c.requires.3 in
    let h = c.requires.4 in
    let w = c.enter-sender.ensures m s x.process x.branch x.guard h.sender in
    let u = bare in
    record { nodes = c.args.moving.now.tables.nodes.now; locals = x.process.locals; guard = x.guard; shows = w.offer }

pub enter-receiver-requires : goal.enter-receiver-requires
enter-receiver-requires c =
    let m = c.requires.0 in
    let s = c.requires.1 in
    let x = c.requires.2 in
    let y = c.requires.3 in
    let h = c.requires.4 in
    record { model = m; state = s; process = y.process; branch = y.branch; guard = y.guard; acts = h.receiver }

pub move_both-requires : goal.move_both-requires
move_both-requires c =
    let m = c.requires.0 in
    let s = c.requires.1 in
    let x = c.requires.2 in
    let y = c.requires.3 in
    let h = c.requires.4 in
    let w = c.enter-sender.ensures m s x.process x.branch x.guard h.sender in
    let u = bare in
    let v = c.sent_values-values.ensures c.args.moving.now.tables.nodes.now x.process.locals x.guard w.offer in
    let e = c.enter-receiver.ensures m s y.process y.branch y.guard h.receiver in
    rw (c.held.ensures, c.held-2.ensures) (m, s, x.branch.next, y.branch.next, meets-of h _ u _ _ w _ v _ _ e)

pub returns-clause-answers : goal.returns-clause-answers
returns-clause-answers c =
    λ m s x y h.
    let w = c.enter-sender.ensures m s x.process x.branch x.guard h.sender in
    let u = bare in
    let v = c.sent_values-values.ensures c.args.moving.now.tables.nodes.now x.process.locals x.guard w.offer in
    let e = c.enter-receiver.ensures m s y.process y.branch y.guard h.receiver in
    meets-answers h _ u _ _ w _ v _ _ e _ _ ((rw (c.held.ensures, c.held-2.ensures) at c.move_both.ensures.answers m s x.branch.next y.branch.next) (meets-of h _ u _ _ w _ v _ _ e))
