-- What a state offers once its branches are evaluated: pairs, sets, actions with rates, gates, branches, and when a pair matches. Definitions only.
use Rattle.std.specs.Prelude.{◌≡◌, List, [], ◌∷◌, Bool, true, not, ◌&&◌, ◌||◌, ℕ, ℤ}
use Rattle.value.specs.Arithmetic.{is_at_most}
use Rattle.value.specs.Items.{Items}

-- 01, State: an item of a channel is a number, or a name by its number
pub data Item : Type 0 where
  number : ℤ → Item
  named : ℕ → Item

-- 02, note 7: a channel has one to three items
abbrev pub Channel : Type 0
Channel = Items Item

-- 01, State: a channel with the values that are lit or sent on it
pub record Pair : Type 0 where
  pub channel : Channel
  pub values : List ℤ

-- 01, Model text, sets: ranges joined by `\`, `union` and `inter`, their ends evaluated; a single value is the range from itself to itself
pub data Set : Type 0 where
  range : ℤ → ℤ → Set
  without union inter : Set → Set → Set

-- 01, Model text, sets: both ends belong to a range, so that `5..4` is empty
unfoldable pub within : Set → ℤ → Bool
within (range a b) v = is_at_most a v && is_at_most v b
within (without x y) v = within x v && not (within y v)
within (union x y) v = within x v || within y v
within (inter x y) v = within x v && within y v

-- 000, (11) to (13), (16), (17): what a receive or a check asks for, c?[Ω]: a channel, and a set for each value
pub record Query : Type 0 where
  pub channel : Channel
  pub sets : List Set

-- 000, S1.2: i ∈ Ω for lists: as many values as sets, each value in its set
pub data Each : List Set → List ℤ → Type 0 where
  done : Each [] []
  more : {x : Set} {xs : List Set} {v : ℤ} {vs : List ℤ} → within x v ≡ true → Each xs vs → Each (x ∷ xs) (v ∷ vs)

-- 01, Transitions: a pair matches on the same channel, a name only with that name, with its values in the sets
pub record Matches (w : Query) (x : Pair) : Type 0 where
  pub same : w.channel ≡ x.channel
  pub each : Each w.sets x.values

-- 01, Model text, actions
pub data Action : Type 0 where
  wait : Action  -- name
  launch kill : Pair → Action  -- c![v], c#[v]
  receive bind : Query → Action  -- c?[s], c?[s](names)
  check : Query → Action  -- ~c?[s]
  send : Pair → Action  -- @c![v]
  take take_bind : Query → Action  -- @c?[s], @c?[s](names)

-- 01, Values: an action and its rate in ten-thousandths, with no gate or behind a gate that is true; behind a false gate nothing is evaluated
pub data Guard : Type 0 where
  bare opened : Action → ℕ → Guard
  shut : Guard

-- 01, Model text: a guarded prefix, and the processes that its continuation becomes with the values that are bound
pub record Branch (Proc : Type 0) : Type 0 where
  pub guard : Guard
  pub next : List ℤ → List Proc

-- 01, State: processes in places from 0, and the lit pairs, ascending (Pairs.antt)
pub record State (Proc : Type 0) : Type 0 where
  pub processes : List Proc
  pub pairs : List Pair
