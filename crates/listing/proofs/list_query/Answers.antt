-- `listing::list_query` meets its contract: by kind and by whether a pair matches. From the laws of queries.
use Rattle.listing.proofs.Added.{adds_none}
use Rattle.listing.proofs.Ranges.{count-two}
use Rattle.listing.proofs.Queries.{asked, place-values, run_fits, when-yes, when-no, unless-yes, unless-no}
use mathlib.Core.Path.{sym, ◌∙◌}
use Rattle.listing.proofs.list_query.Goals as goal

pub locals_of-locals-requires : goal.locals_of-locals-requires
locals_of-locals-requires c =
    let w = c.requires.0.4 in let A = asked c.requires.1 c.requires.2 c.requires.0.5 in
    ((c.args.tables.nodes.now, c.requires.0.0, c.requires.0.1, c.requires.0.2, w), c.requires.3)

pub invariant_of-context : goal.invariant_of-context
invariant_of-context c =
    let w = c.requires.0.4 in
    rw (c.locals_of-locals.ensures c.args.tables.nodes.now c.requires.0.0 c.requires.0.1 c.requires.0.2 w) (record { in_range = place-values w c.args.a.place c.requires.3 })

pub run_of-run-requires : goal.run_of-run-requires
run_of-run-requires c =
    let w = c.requires.0.4 in let A = asked c.requires.1 c.requires.2 c.requires.0.5 in
    ((c.args.tables.nodes.now, c.requires.0.0, c.args.tables.scopes.now, c.requires.0.1, c.requires.0.2, w), count-two A.shows.sets-are)

pub list_bound-requires : goal.list_bound-requires
list_bound-requires c =
    let w = c.requires.0.4 in let A = asked c.requires.1 c.requires.2 c.requires.0.5 in
    let L = c.locals_of-locals.ensures c.args.tables.nodes.now c.requires.0.0 c.requires.0.1 c.requires.0.2 w in
    let N = c.run_of-run.ensures c.args.tables.nodes.now _ A.query c.args.tables.nodes.now c.requires.0.0 c.args.tables.scopes.now c.requires.0.1 c.requires.0.2 A.shows w in
    ((A.query, rw L A.shows), (c.args.tables.nodes.now, c.requires.0.0, c.args.tables.scopes.now, c.requires.0.1, c.requires.0.2, w), run_fits w _ _ _ N)

pub returns-then-a-eq-BIND-clause-added : goal.returns-then-a-eq-BIND-clause-added
returns-then-a-eq-BIND-clause-added c =
    λ roots m s a w sa. let A = asked c.requires.1 c.requires.2 sa in let L = c.locals_of-locals.ensures c.args.tables.nodes.now roots m s w in let N = c.run_of-run.ensures c.args.tables.nodes.now _ A.query c.args.tables.nodes.now roots c.args.tables.scopes.now m s A.shows w in rw (A.bind_is c.if-a-eq-BIND.true m s c.args.a.place c.args.a.branch c.args.a.offer.rate) (c.list_bound.ensures.added A.query c.args.tables.nodes.now roots c.args.tables.scopes.now m s (rw L A.shows) w N)

pub any_match-lit-requires : goal.any_match-lit-requires
any_match-lit-requires c =
    let w = c.requires.0.4 in let A = asked c.requires.1 c.requires.2 c.requires.0.5 in
    let L = c.locals_of-locals.ensures c.args.tables.nodes.now c.requires.0.0 c.requires.0.1 c.requires.0.2 w in
    let N = c.run_of-run.ensures c.args.tables.nodes.now _ A.query c.args.tables.nodes.now c.requires.0.0 c.args.tables.scopes.now c.requires.0.1 c.requires.0.2 A.shows w in
    ((A.query, rw L A.shows), (c.args.tables.nodes.now, c.requires.0.0, c.args.tables.scopes.now, c.requires.0.1, c.requires.0.2, w), run_fits w _ _ _ N)

pub returns-then-lit-clause-added : goal.returns-then-lit-clause-added
returns-then-lit-clause-added c =
    λ roots m s a w sa. let A = asked c.requires.1 c.requires.2 sa in let L = c.locals_of-locals.ensures c.args.tables.nodes.now roots m s w in let N = c.run_of-run.ensures c.args.tables.nodes.now _ A.query c.args.tables.nodes.now roots c.args.tables.scopes.now m s A.shows w in let M = sym (c.any_match-lit.ensures A.query c.args.tables.nodes.now roots c.args.tables.scopes.now m s (rw L A.shows) w N) in rw (A.receive-is c.if-a-eq-RECEIVE.true m s c.args.a.place c.args.a.branch c.args.a.offer.rate ∙ when-yes _ _ (M ∙ c.if-lit.true)) c.list_alone.ensures.added

pub returns-else-lit-clause-added : goal.returns-else-lit-clause-added
returns-else-lit-clause-added c =
    λ roots m s a w sa. let A = asked c.requires.1 c.requires.2 sa in let L = c.locals_of-locals.ensures c.args.tables.nodes.now roots m s w in let N = c.run_of-run.ensures c.args.tables.nodes.now _ A.query c.args.tables.nodes.now roots c.args.tables.scopes.now m s A.shows w in let M = sym (c.any_match-lit.ensures A.query c.args.tables.nodes.now roots c.args.tables.scopes.now m s (rw L A.shows) w N) in rw (A.receive-is c.if-a-eq-RECEIVE.true m s c.args.a.place c.args.a.branch c.args.a.offer.rate ∙ when-no _ _ (M ∙ c.if-lit.false)) (adds_none _ _ c.args.filling.now.room.1)

pub returns-else-not-lit-clause-added : goal.returns-else-not-lit-clause-added
returns-else-not-lit-clause-added c =
    λ roots m s a w sa. let A = asked c.requires.1 c.requires.2 sa in let L = c.locals_of-locals.ensures c.args.tables.nodes.now roots m s w in let N = c.run_of-run.ensures c.args.tables.nodes.now _ A.query c.args.tables.nodes.now roots c.args.tables.scopes.now m s A.shows w in let M = sym (c.any_match-lit.ensures A.query c.args.tables.nodes.now roots c.args.tables.scopes.now m s (rw L A.shows) w N) in rw (A.check-is c.if-a-eq-BIND.false c.if-a-eq-RECEIVE.false m s c.args.a.place c.args.a.branch c.args.a.offer.rate ∙ unless-yes _ _ (M ∙ c.if-not-lit.false)) (adds_none _ _ c.args.filling.now.room.1)

pub returns-then-not-lit-clause-added : goal.returns-then-not-lit-clause-added
returns-then-not-lit-clause-added c =
    λ roots m s a w sa. let A = asked c.requires.1 c.requires.2 sa in let L = c.locals_of-locals.ensures c.args.tables.nodes.now roots m s w in let N = c.run_of-run.ensures c.args.tables.nodes.now _ A.query c.args.tables.nodes.now roots c.args.tables.scopes.now m s A.shows w in let M = sym (c.any_match-lit.ensures A.query c.args.tables.nodes.now roots c.args.tables.scopes.now m s (rw L A.shows) w N) in rw (A.check-is c.if-a-eq-BIND.false c.if-a-eq-RECEIVE.false m s c.args.a.place c.args.a.branch c.args.a.offer.rate ∙ unless-no _ _ (M ∙ c.if-not-lit.true)) c.list_alone-then-not-lit.ensures.added
