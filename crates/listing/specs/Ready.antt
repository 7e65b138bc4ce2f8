-- What the parts of a listing are given: a state's numbers with the table of its offers, and the run of a channel among its pairs. Assumes nothing: these are definitions.
use Rattle.std.specs.Prelude.{◌≡◌, false, ◌⊎◌, List, [], ◌∷◌, ℕ, ◌+◌, ◌≤◌, ◌<◌, ℤ, pos, length, set}
use Rattle.std.proofs.Math.Option.{some}
use Rattle.std.proofs.Math.ListN.{get_elem?}
use Rattle.value.specs.Range.{least}
use Rattle.model.specs.Resolved
use Rattle.rules.specs.Offers as offers
use Rattle.rules.specs.Kind as kind
use Rattle.rules.specs.Rules.{key, rate_weight}
use Rattle.rules.specs.Listing.{Entry, entry, when, matches}
use Rattle.machine.specs.State.{State, channel_width}
use Rattle.eval.specs.Shown.{joined_mark}
use Rattle.offers.specs.declared.row.Row.{Row}
use Rattle.offers.specs.Walk.{slots_of}
use Rattle.offers.specs.Table.{locals_of, Holds}
use Rattle.offers.specs.Collect.{World}

-- the table holds the slots of the state
pub record Ready (t roots scopes : List ℕ) (zs : List ℤ) (rs : List Row) (m : Resolved.Model) (s : State) : Type 0 where
  pub world : World t roots scopes zs m s
  pub holds : Holds t (locals_of s.processes) rs (slots_of m 0 s.processes)
  pub rows_are : length rs ≡ length (slots_of m 0 s.processes)

-- 01, Transitions: the pairs from one number up to another are on the channel of a receive or check, and no other pair matches it
pub record RunIs (xs : List offers.Pair) (w : offers.Query) (from to : ℕ) : Type 0 where
  pub low : from ≤ to
  pub high : to ≤ length xs
  pub on : (q : ℕ) (x : offers.Pair) → get_elem? xs q ≡ some x → from ≤ q → q < to → x.channel ≡ w.channel
  pub off : (q : ℕ) (x : offers.Pair) → get_elem? xs q ≡ some x → (q < from) ⊎ (to ≤ q) → matches w x ≡ false

-- rows that enclose the pairs with k values on the channel of a row, the first of them from a to b
abbrev pub low_row : List ℤ → ℕ → ℤ → List ℤ
low_row row k a = set (set (set row channel_width (pos k)) (channel_width + 1) a) (channel_width + 2) least

abbrev pub high_row : List ℤ → ℕ → ℤ → ℤ → List ℤ
high_row row k a b = set (set (low_row row k a) (channel_width + 1) b) (channel_width + 2) joined_mark

-- 01, Transitions, (12): the entry of a receive with names for pair q
unfoldable pub bound_at : offers.Query → (i j r q : ℕ) → offers.Pair → List Entry
bound_at w i j r q x = when (matches w x) (entry (key kind.bind i j 0 0 q) (rate_weight r) ∷ [])
