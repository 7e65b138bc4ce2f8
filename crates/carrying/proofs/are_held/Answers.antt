-- The state's test over the model's scopes, then the search's.
use mathlib.Core.Bool.{Bool, ◌&&◌}
use mathlib.Core.Path.{sym, ap, ap₂, ◌∙◌}
use Rattle.underway.specs.Buffer.{is_search}
use Rattle.searching.proofs.Held.{tables}
use Rattle.carrying.proofs.Held.{state-is}
use Rattle.carrying.proofs.are_held.Goals as goal

pub shape-requires : goal.shape-requires
shape-requires c =
    (c.requires.0.0, tables c.args.settled c.args.written c.requires.0.0 c.requires.0.1)

pub is_search-requires : goal.is_search-requires
is_search-requires c =
    (c.requires.0, c.requires.3, c.requires.2)

pub returns-then-is_state : goal.returns-then-is_state
returns-then-is_state c =
    λ m h w.
    let s = (rw (c.shape.ensures.0, c.shape.ensures.1) at c.is_state.ensures) ∙ state-is c.args.settled c.args.written m h c.args.state.now in
    c.is_search.ensures m h w ∙ ap (λ (b : Bool). b && is_search m c.args.search.now) (sym c.if-is_state.true ∙ s)

pub returns-else-is_state : goal.returns-else-is_state
returns-else-is_state c =
    λ m h w.
    let s = (rw (c.shape.ensures.0, c.shape.ensures.1) at c.is_state.ensures) ∙ state-is c.args.settled c.args.written m h c.args.state.now in
    c.if-is_state.false ∙ ap (λ (b : Bool). b && is_search m c.args.search.now) (sym c.if-is_state.false ∙ s)
