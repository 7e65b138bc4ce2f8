-- What the parts of an action are written as, and what the table holds of them, where the grammar has no one type for them (01, Actions). Assumes
-- nothing: these are definitions.
use Rattle.std.specs.Prelude.{List, ◌∷◌, ℕ, ◌+◌}
use Rattle.token.specs.Kind as kind
use Rattle.grammar.specs.Grammar.{Values, Sets, Names, flat_values, flat_sets, flat_names}
use Rattle.grammar.specs.Syntax
use Rattle.grammar.specs.Syntax.{wide, values_at, sets_at, count_names}
use Rattle.tree.specs.Table

-- 01, Actions: the sign after a channel and the values that are sent
unfoldable pub flat_sent : ℕ → Values → List ℕ → List ℕ
flat_sent sign v ts = sign ∷ flat_values v ts

-- 01, Actions: a receive's sets, perhaps with names that are bound
pub data Hearing : Type 0 where
  plain : Sets → Hearing
  binding : Sets → Names → Hearing

unfoldable pub flat_heard : ℕ → Hearing → List ℕ → List ℕ
flat_heard sign (plain s) ts = sign ∷ flat_sets s ts
flat_heard sign (binding s n) ts = sign ∷ flat_sets s (kind.open_round ∷ flat_names n (kind.close_round ∷ ts))

-- the node of a channel and the values that are sent on it, with the sign at token k
unfoldable pub Sent : ℕ → ℕ → List ℕ → Syntax.Channel × Values → ℕ → ℕ → Type 0
Sent form k t y = Table.Two t form 0 0 (Table.Channel t y.0) (Table.Values t (values_at y.1 (k + 1)))

-- the node of a channel and a receive's sets; one that binds has the next kind, the token of its first name and how many there are
unfoldable pub HeardOn : ℕ → ℕ → List ℕ → Syntax.Channel → Hearing → ℕ → ℕ → Type 0
HeardOn form k t c (plain s) = Table.Two t form 0 0 (Table.Channel t c) (Table.Sets t (sets_at s (k + 1)))
HeardOn form k t c (binding s n) = Table.Two t (form + 1) (k + 1 + wide (flat_sets s) + 1) (count_names n) (Table.Channel t c) (Table.Sets t (sets_at s (k + 1)))

abbrev pub Heard : ℕ → ℕ → List ℕ → Syntax.Channel × Hearing → ℕ → ℕ → Type 0
Heard form k t y = HeardOn form k t y.0 y.1

-- 01, Actions: what is done on a channel, when neither `~` nor `@` stands before it
pub data Deed : Type 0 where
  launching killing : Values → Deed
  hearing : Hearing → Deed

unfoldable pub flat_deed : Deed → List ℕ → List ℕ
flat_deed (launching v) ts = flat_sent kind.bang v ts
flat_deed (killing v) ts = flat_sent kind.hash v ts
flat_deed (hearing h) ts = flat_heard kind.query h ts

-- as an action on the channel c, with the sign at token k
unfoldable pub deed_at : Syntax.Channel → Deed → ℕ → Syntax.Action
deed_at c (launching v) k = Syntax.launch c (values_at v (k + 1))
deed_at c (killing v) k = Syntax.kill c (values_at v (k + 1))
deed_at c (hearing (plain s)) k = Syntax.receive c (sets_at s (k + 1))
deed_at c (hearing (binding s n)) k = Syntax.bind c (sets_at s (k + 1)) (Syntax.names (k + 1 + wide (flat_sets s) + 1) (count_names n))
