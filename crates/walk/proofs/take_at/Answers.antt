-- The entry is that of the listing; the copy of the state is moved as the step says, or stays.
use Rattle.std.proofs.lemmas.Result.{err_from_is_err_and}
use Rattle.listing.specs.Buffer.{entry_of}
use Rattle.walk.proofs.Rows.{second_is}
use Rattle.walk.proofs.Taking.{entry-fits, row_of, seen, takes-idle, takes-accepted, takes-refused}
use Rattle.walk.proofs.take_at.Goals as goal

pub entry_at-entry-requires : goal.entry_at-entry-requires
entry_at-entry-requires c =
    entry-fits c.requires.0.3 c.requires.0.4 c.requires.0.5 c.args.e c.requires.0.6

pub returns-then-entry-eq0 : goal.returns-then-entry-eq0
returns-then-entry-eq0 c =
    λ m s es h st l i. takes-idle h st l c.args.e i c.entry_at-entry.result c.entry_at-entry.ensures c.args.search.name.now c.args.states.now c.if-entry-eq0.true

pub is_sought-wait-requires : goal.is_sought-wait-requires
is_sought-wait-requires c =
    let y = c.entry_at-entry.result in (c.requires.0.0, c.requires.0.1, y.partner, y.pbranch, y.pair, y.weight, seen c.requires.0.3 c.requires.0.4 c.requires.0.5 c.args.e c.requires.0.6 y c.entry_at-entry.ensures)

pub take_row-requires : goal.take_row-requires
take_row-requires c =
    let y = c.entry_at-entry.result in
    (c.requires.0.0, c.requires.0.1, c.requires.0.2, entry_of y, row_of c.requires.0.3 c.requires.0.4 c.requires.0.5 c.args.e c.requires.0.6 y c.entry_at-entry.ensures (second_is c.args.states.now _ c.requires.1))

pub returns : goal.returns
returns c =
    λ m s es h st l i.
    let y = c.entry_at-entry.result in
    let a = c.take_row.ensures m s es (entry_of y) (row_of h st l c.args.e i y c.entry_at-entry.ensures (second_is c.args.states.now _ c.requires.1)) in
    takes-accepted h st l c.args.e i y c.entry_at-entry.ensures c.args.search.name.now c.args.states.now c.if-entry-eq0.false _ _ c.requires.1 a c.is_sought-wait.result (c.is_sought-wait.ensures m s y.partner y.pbranch y.pair y.weight (seen h st l c.args.e i y c.entry_at-entry.ensures)) c.in_ok-take_row.was

pub returns-in_err-take_row : goal.returns-in_err-take_row
returns-in_err-take_row c =
    λ m s es h st l i.
    let y = c.entry_at-entry.result in
    let a = c.take_row.ensures m s es (entry_of y) (row_of h st l c.args.e i y c.entry_at-entry.ensures (second_is c.args.states.now _ c.requires.1)) in
    let p = err_from_is_err_and c.from_residual.result c.from_residual.ensures.1 in
    rw (p.1, p.2) (takes-refused h st l c.args.e i y c.entry_at-entry.ensures c.args.search.name.now c.args.states.now c.if-entry-eq0.false _ _ c.requires.1 a _ c.in_err-take_row.was)
