-- `listing::row_matches` meets its contract: channel, then values. From the laws of matching.
use Rattle.value.proofs.Kit.{back}
use Rattle.state.specs.Read.{process_count}
use Rattle.state.proofs.Tests.{refused, passed}
use Rattle.offers.specs.Table.{offer_in}
use Rattle.listing.proofs.Partners.{some-row, row-place, taken}
use Rattle.listing.proofs.Matching.{channels-told}
use Rattle.listing.proofs.Queries.{place-values, other-channel, one-channel, sent-values}
use mathlib.Core.Path.{sym, ◌∙◌}
use Prim.Native.Nat.{◌<◌}
use native.Mathlib.Omega.{arith}
use Rattle.listing.proofs.row_matches.Goals as goal

pub returns-then-ne : goal.returns-then-ne
returns-then-ne c =
    let O = c.offer_in-o.ensures in
    λ roots m s y w x R at sq sp. let q = rw (← O) at sq in other-channel w x (sym (channels-told q.channel-is sp.channel-is) ∙ refused _ (sym c.ne.ensures ∙ c.if-ne.true))

pub locals_of-locals-requires : goal.locals_of-locals-requires
locals_of-locals-requires c =
    let R = c.requires.0.3 in let y = some-row R c.args.row c.requires.2 in let sh = R.holds.shown c.args.row y.0 y.1 in
    let pl : c.place_in-place.result < process_count c.args.from.state.now = omega (arith, c.place_in-place.ensures, row-place R c.args.row y.0 y.1) in
    ((c.args.from.tables.nodes.now, c.requires.0.0, c.requires.0.1, c.requires.0.2, R.world), pl)

pub invariant_of-context : goal.invariant_of-context
invariant_of-context c =
    let R = c.requires.0.3 in let y = some-row R c.args.row c.requires.2 in
    let pl : c.place_in-place.result < process_count c.args.from.state.now = omega (arith, c.place_in-place.ensures, row-place R c.args.row y.0 y.1) in
    rw (c.locals_of-locals.ensures c.args.from.tables.nodes.now c.requires.0.0 c.requires.0.1 c.requires.0.2 R.world) (record { in_range = place-values R.world c.place_in-place.result pl })

pub values_match-requires : goal.values_match-requires
unfolding offer_in
values_match-requires c =
    let O = c.offer_in-o.ensures in
    let R = c.requires.0.3 in let y = some-row R c.args.row c.requires.2 in let sh = R.holds.shown c.args.row y.0 y.1 in
    let L = c.locals_of-locals.ensures c.args.from.tables.nodes.now c.requires.0.0 c.requires.0.1 c.requires.0.2 R.world in let P = c.place_in-place.ensures ∙ sh.place_is in
    let T = taken c.requires.1 sh.shows in rw (L, P, O) (T.query, T.shows)

pub returns : goal.returns
returns c =
    let O = c.offer_in-o.ensures in
    let b₃ = back c.args.sender.list.first (omega arith) in let b₄ = back c.args.sender.list.second (omega arith) in
    λ roots m s y w x R at sq sp. let q = rw (← O) at sq in let C = sym (channels-told q.channel-is sp.channel-is) in let L = c.locals_of-locals.ensures c.args.from.tables.nodes.now roots m s R.world in let P = c.place_in-place.ensures ∙ (R.holds.shown c.args.row y at).place_is in (simp (b₃, b₄) at c.values_match.ensures) w x.values (rw (L, P) q) (sent-values sp.values-are) ∙ one-channel w x (C ∙ passed _ (sym c.ne.ensures ∙ c.if-ne.false))
