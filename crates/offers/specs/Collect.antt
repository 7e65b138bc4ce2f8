-- What collecting the offers of a state answers: the table holds the slots, or the first branch without value (01, Listing, 12), or the table has too few rows. Assumes nothing: these are definitions.
use Rattle.std.specs.Prelude.{◌≡◌, false, List, ◌++◌, ℕ, ◌+◌, ◌≤◌, ◌<◌, ℤ, length, set, Result, Err, Ok}
use Rattle.std.proofs.Math.Option.{Option, none, some}
use Rattle.model.specs.Resolved
use Rattle.model.specs.Limits.{branch_limit}
use Rattle.rules.specs.Offers as offers
use Rattle.tables.specs.Settled as Settled
use Rattle.tables.specs.Represents.{Represents}
use Rattle.model.specs.Good.{Every, GoodBranch, GoodModel}
use Rattle.machine.specs.Offer.{Process, is_none, missing_branch, missing}
use Rattle.machine.specs.State.{State, GoodState, state_numbers}
use Rattle.offers.specs.declared.row.Row.{Row}
use Rattle.offers.specs.declared.Stop.{Stop}
use Rattle.offers.specs.declared.Stop.TheVariants.{Missing, Full}
use Rattle.offers.specs.Links.{row_limit}
use Rattle.offers.specs.Slots.{Slot, slot_of}
use Rattle.offers.specs.Walk.{guard_or, slots_from, slots_of}
use Rattle.offers.specs.Table.{locals_of, Holds}

-- good branches stand at k, counted from j on
pub record Branched (t : List ℕ) (n j k : ℕ) : Type 0 where
  pub model : Resolved.Model
  pub branches : List Resolved.Branch
  pub at : Settled.Branches t branches k
  pub fit : Every (GoodBranch model n) branches
  pub few : j + length branches ≤ branch_limit

-- the table rs, which held n slots, holds these ones after them as rs'
pub record Grows (t : List ℕ) (ls : List ℤ) (i n : ℕ) (rs rs' : List Row) (ys : List Slot) (n' : ℕ) : Type 0 where
  pub holds : (L : ℕ → List ℤ) (xs : List Slot) → L i ≡ ls → length xs ≡ n → Holds t L rs xs → Holds t L rs' (xs ++ ys)
  pub rows : n' ≡ n + length ys

-- up to where the rows are filled; or the first branch without value, by its place, or no row is left
abbrev pub Walked : Type 0
Walked = Result ℕ Stop

-- the same of rows that are being filled, which have their count
abbrev pub Filled : Type 0
Filled = Result (Unit {0}) Stop

-- the row r after the first n of rs, if there is one left
pub data Pushes (r : Row) (n : ℕ) (rs : List Row) : (n' : ℕ) (rs' : List Row) → Filled → Type 0 where
  put : n < length rs → Pushes r n rs (n + 1) (set rs n r) (Ok tt)
  full : length rs ≤ n → Pushes r n rs n rs (Err Full)

-- branch j at place i, which offers g; n rows of rs are filled, then n' of rs'
pub data CollectsOne (t : List ℕ) (ls : List ℤ) (i j n : ℕ) (rs : List Row) (n' : ℕ) (rs' : List Row) (g : Option offers.Guard) : Filled → Type 0 where
  lacks : g ≡ none → CollectsOne t ls i j n rs n' rs' g (Err (Missing i j))
  all : is_none g ≡ false → Grows t ls i n rs rs' (slot_of i j (guard_or g)) n' → CollectsOne t ls i j n rs n' rs' g (Ok tt)
  full : length rs' < row_limit → CollectsOne t ls i j n rs n' rs' g (Err Full)

-- branches counted from j on
pub data Collects (t : List ℕ) (ls : List ℤ) (i j n : ℕ) (rs : List Row) (n' : ℕ) (rs' : List Row) (bs : List Resolved.Branch) : Filled → Type 0 where
  lacks : {q : ℕ} → missing_branch ls j bs ≡ some q → Collects t ls i j n rs n' rs' bs (Err (Missing i q))
  all : missing_branch ls j bs ≡ none → Grows t ls i n rs rs' (slots_from ls i j bs) n' → Collects t ls i j n rs n' rs' bs (Ok tt)
  full : length rs' < row_limit → Collects t ls i j n rs n' rs' bs (Err Full)

-- 01, Opening a text, 7: at most 16 branches in a sum
unfoldable pub FewBranches : Resolved.Model → Type 0
FewBranches m = Every (λ (s : Resolved.Sum). length s.branches ≤ branch_limit) m.sums

-- 01, Listing, 11: the settled nodes, roots and scopes of a well-formed model, and the numbers of a state over it
pub record World (t roots scopes : List ℕ) (zs : List ℤ) (m : Resolved.Model) (s : State) : Type 0 where
  pub root : ℕ
  pub variables : ℕ
  pub definitions : ℕ
  pub sums : ℕ
  pub channels : ℕ
  pub represents : Represents t roots scopes root variables definitions sums channels m
  pub good : GoodModel m
  pub few : FewBranches m
  pub state : GoodState m s
  pub numbers : zs ≡ state_numbers s

-- all places: 12's answer
pub data Answers (t : List ℕ) (rs : List Row) (m : Resolved.Model) (ps : List Process) : Walked → Type 0 where
  lacks : {i j : ℕ} → missing m 0 ps ≡ some (i, j) → Answers t rs m ps (Err (Missing i j))
  all : missing m 0 ps ≡ none → Holds t (locals_of ps) rs (slots_of m 0 ps) → length (slots_of m 0 ps) ≤ length rs → Answers t rs m ps (Ok (length (slots_of m 0 ps)))
  full : length rs < row_limit → Answers t rs m ps (Err Full)
