-- Both tests, of each place and of the names.
use mathlib.Core.Path.{◌≡◌, sym, ap, ◌∙◌}
use borrow.Author.Tests.{tests}
use Rattle.std.proofs.Common.{rules}
use Rattle.std.proofs.lemmas.Iterator.{YieldsList-from_slice}
use Rattle.std.proofs.lemmas.Iterator.Search.{all_from_yields_List}
use Rattle.state.specs.Test.{every}
use Rattle.state.proofs.Tests.{every_all}
use Rattle.saves.specs.Places.{is_place, are_once, places_of}
use Rattle.saves.proofs.Laws.{saves-fail, saves-rest}
use Rattle.saves.proofs.is_saves.Goals as goal

pub returns-then-all : goal.returns-then-all
returns-then-all c =
    let t = is_place c.args.shape.scopes.now c.args.shape.channels in
    let h : c.all.result ≡ every t (places_of c.args.saves.now) =
    all_from_yields_List t _ _ _ c.all.ensures.ran (YieldsList-from_slice c.places_in-places.result.now cc) (λ x b q k. (search (rules, tests), search (rules, tests)))
    ∙ every_all t c.places_in-places.result.now ∙ ap (every t) c.places_in-places.ensures.0 in
    c.are_once.ensures ∙ ap are_once c.places_in-places.ensures.0 ∙ sym (saves-rest c.args.shape.scopes.now c.args.shape.channels c.args.saves.now (sym h ∙ c.if-all.true))

pub returns-else-all : goal.returns-else-all
returns-else-all c =
    let t = is_place c.args.shape.scopes.now c.args.shape.channels in
    let h : c.all.result ≡ every t (places_of c.args.saves.now) =
    all_from_yields_List t _ _ _ c.all.ensures.ran (YieldsList-from_slice c.places_in-places.result.now cc) (λ x b q k. (search (rules, tests), search (rules, tests)))
    ∙ every_all t c.places_in-places.result.now ∙ ap (every t) c.places_in-places.ensures.0 in
    c.if-all.false ∙ sym (saves-fail c.args.shape.scopes.now c.args.shape.channels c.args.saves.now (sym h ∙ c.if-all.false))
