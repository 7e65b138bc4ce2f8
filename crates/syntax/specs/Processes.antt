-- What the parts of a process are written as, and their syntax trees, where the grammar has no one type for them (01, Guarded prefix, Continuation, Sum).
-- Assumes nothing: these are definitions.
use Rattle.std.specs.Prelude.{List, ◌∷◌, ℕ, ◌+◌, ◌<◌, Err, Ok}
use Rattle.tree.specs.Reading.{Counted}
use Rattle.token.specs.Kind as kind
use Rattle.grammar.specs.Grammar.{Action, Rate, Next, Exprs, Args, Prefix, Choices, Item, Items, flat_action, flat_rate, flat_next, flat_exprs, flat_args, flat_prefix, flat_item, flat_items}
use Rattle.grammar.specs.Syntax
use Rattle.grammar.specs.Syntax.{wide, action_at, rate_at, next_at, args_at, branch_at, branches_at, item_at, conts_at, sums_prefix, sums_next, sums_item, sums_items, sums_choices}

-- 01, Guarded prefix: what stands after the gate, from the `{` on: action, rate, and what follows
abbrev pub Offer : Type 0
Offer = Action × Rate × Next

unfoldable pub flat_offer : Offer → List ℕ → List ℕ
flat_offer o ts = kind.open_curly ∷ flat_action o.0 (kind.comma ∷ flat_rate o.1 (kind.close_curly ∷ flat_next o.2 ts))

unfoldable pub sums_offer : Offer → ℕ
sums_offer o = sums_next o.2

-- as a branch with no gate, whose first token is f, with the `{` at token k and n the number of the next sum
unfoldable pub offer_at : ℕ → Offer → ℕ → ℕ → Syntax.Branch
offer_at f o k n =
    let b = k + 1 + wide (flat_action o.0) + 1 in
    Syntax.branch f Syntax.no_gate (action_at o.0 (k + 1)) (rate_at o.1 b) (next_at o.2 (b + wide (flat_rate o.1) + 1) n)

-- 01, Continuation: the values of a call and the `]` after them
unfoldable pub closed_exprs : Exprs → List ℕ → List ℕ
closed_exprs e ts = flat_exprs e (kind.close_square ∷ ts)

-- a call, from its name on
unfoldable pub flat_call : Args → List ℕ → List ℕ
flat_call a ts = kind.name ∷ flat_args a ts

unfoldable pub call_at : Args → ℕ → Syntax.Cont
call_at a k = Syntax.call k (args_at a (k + 1))

-- 01, Continuation: the items of a group, after its `(`
abbrev pub ItemList : Type 0
ItemList = Item × Items

unfoldable pub flat_item_list : ItemList → List ℕ → List ℕ
flat_item_list g ts = flat_item g.0 (flat_items g.1 ts)

unfoldable pub sums_item_list : ItemList → ℕ
sums_item_list g = sums_item g.0 + sums_items g.1

unfoldable pub item_list_at : ItemList → ℕ → ℕ → Syntax.Conts
item_list_at g k n = conts_at (item_at g.0 k n) g.1 (k + wide (flat_item g.0)) (n + sums_item g.0)

-- a group, from its `(` on
unfoldable pub flat_group : ItemList → List ℕ → List ℕ
flat_group g ts = kind.open_round ∷ flat_item_list g ts

unfoldable pub group_at : ItemList → ℕ → ℕ → Syntax.Cont
group_at g k n = Syntax.group k (item_list_at g (k + 1) n)

-- 01, Sum: a prefix and those after `+`, with n the number of the first sum in them
unfoldable pub sums_branches : Prefix × Choices → ℕ
sums_branches x = sums_prefix x.0 + sums_choices x.1

unfoldable pub branches_from : Prefix × Choices → ℕ → ℕ → Syntax.Branches
branches_from x k n = branches_at (branch_at x.0 k n) x.1 (k + wide (flat_prefix x.0)) (n + sums_prefix x.0)

-- what was read has a token more than nodes, and than sums in it: there is room for the node and the number of a sum around it
unfoldable pub Spare : ℕ → ℕ → ℕ → Counted → Type 0
Spare at used c (Ok (n, root, m)) = (root + 1 + at < used + n) × (m + at < c + n)
Spare at used c (Err k) = Unit {0}
