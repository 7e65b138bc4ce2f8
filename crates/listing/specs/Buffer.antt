-- The numbers of the listing buffer (01, Transitions): what it holds while entries are added, and at the end. Assumes nothing: these are definitions.
use Rattle.std.specs.Prelude.{◌≡◌, List, [], ◌∷◌, ◌++◌, cond, ℕ, zero, suc, ◌+◌, ◌*◌, ◌-◌, ◌≤◌, ◌<◌, min, leb, length, get_or, take, drop, replicate, Err, Ok, None, Some, Result}
use Rattle.std.proofs.Math.Option.{Option, none, some}
use Rattle.std.specs.Prelude.{Option as RustOption}
use Rattle.listing.specs.declared.Refusal.{Refusal}
use Rattle.listing.specs.declared.Refusal.TheVariants.{Missing, Entries, Total}
use Rattle.listing.specs.declared.Listed.{Listed}
use Rattle.listing.specs.declared.Stop.{Stop}
use Rattle.listing.specs.declared.Stop.TheVariants.{Refused, Full}
use Rattle.offers.specs.declared.Stop as offers
use Rattle.offers.specs.declared.Stop.TheVariants as offered
use Rattle.rules.specs.Rules.{key}
use Rattle.rules.specs.Listing as rules
use Rattle.rules.specs.Draw.{weights, total}
use Rattle.machine.specs.Machine.{entry_limit, entry_width, listing_length, total_limit, no}
use Rattle.machine.specs.Machine as machine
use Rattle.listing.specs.declared.Entry.{Entry}
use Rattle.offers.specs.Links.{row_limit}

-- 01, Transitions: kind, place, branch, partner, partner branch, pair, weight
abbrev pub numbers_of : Entry → List ℕ
numbers_of e = e.kind ∷ e.place ∷ e.branch ∷ e.partner ∷ e.pbranch ∷ e.pair ∷ e.weight ∷ []

-- 01, Transitions: an entry by its seven numbers
unfoldable pub entry_of : Entry → rules.Entry
entry_of e = rules.entry (key e.kind e.place e.branch e.partner e.pbranch e.pair) e.weight

-- 01, Transitions: entry c in the numbers of a listing
unfoldable pub entry_in : List ℕ → ℕ → rules.Entry
entry_in l c =
    let a = c * entry_width in
    rules.entry (key (get_or l a 0) (get_or l (a + 1) 0) (get_or l (a + 2) 0) (get_or l (a + 3) 0) (get_or l (a + 4) 0) (get_or l (a + 5) 0)) (get_or l (a + 6) 0)

-- 01, Transitions: entries of seven numbers, and what stands after them
unfoldable pub rows : List rules.Entry → List ℕ → List ℕ
rows [] rest = rest
rows (rules.entry (key c i j k m q) w ∷ es) rest = c ∷ i ∷ j ∷ k ∷ m ∷ q ∷ w ∷ rows es rest

-- ---- while entries are added

-- the first 1,024 entries, over what stood there
unfoldable pub image : List ℕ → List rules.Entry → List ℕ
image z es = rows (take entry_limit es) (drop (length (take entry_limit es) * entry_width) z)

-- 01, 13: a count that stops one past the limit
unfoldable pub cut : List rules.Entry → ℕ
cut es = min (suc entry_limit) (length es)

-- the entries es came after those that the buffer held
pub record Adds (es : List rules.Entry) (b : List ℕ) (n : ℕ) (b' : List ℕ) (n' : ℕ) : Type 0 where
  pub adds : (z : List ℕ) (acc : List rules.Entry) → length z ≡ listing_length → b ≡ image z acc → n ≡ cut acc → (b' ≡ image z (acc ++ es)) × (n' ≡ cut (acc ++ es))
  pub size : length b' ≡ length b
  pub most : n' ≤ suc entry_limit

-- ---- at the end

-- 01, Transitions: unused numbers are 0
unfoldable pub filled_numbers : List rules.Entry → List ℕ
filled_numbers es = rows es (replicate (listing_length - length es * entry_width) 0)

-- 01, Listing: 12 to 14 zero the listing
unfoldable pub listing_numbers : machine.Listed → List ℕ
listing_numbers (machine.entries_are es) = filled_numbers es
listing_numbers (machine.refused_with a) = replicate listing_length 0

-- the number of a refusal, and the place and branch that 12 has
abbrev pub refusal_number : Refusal → ℕ
refusal_number (Missing p b) = 12
refusal_number Entries = 13
refusal_number Total = 14

abbrev pub refusal_place : Refusal → ℕ
refusal_place (Missing p b) = p
refusal_place Entries = 0
refusal_place Total = 0

abbrev pub refusal_branch : Refusal → ℕ
refusal_branch (Missing p b) = b
refusal_branch Entries = 0
refusal_branch Total = 0

-- the count of entries and their total, or a refusal
abbrev pub Outcome : Type 0
Outcome = Result Listed Refusal

-- a refusal's number, place and branch are those of an answer
pub record Says (a : machine.Answer) (r : Refusal) : Type 0 where
  pub number : refusal_number r ≡ a.number
  pub place : refusal_place r ≡ a.place
  pub branch : refusal_branch r ≡ a.branch

-- 01, Listing: entry count and total, or a refusal's number, place and branch
pub data Answers : machine.Listed → Outcome → Type 0 where
  counts : {es : List rules.Entry} {x : Listed} → x.count ≡ length es → x.total ≡ total (weights es) → Answers (machine.entries_are es) (Ok x)
  refuses : {a : machine.Answer} {r : Refusal} → Says a r → Answers (machine.refused_with a) (Err r)

-- the answer r and the listing buffer b are those of l
pub record Lists (l : machine.Listed) (r : Outcome) (b : List ℕ) : Type 0 where
  pub answer : Answers l r
  pub numbers : b ≡ listing_numbers l

-- the entries of l, where it has any, stand first in the buffer b
pub data Leading (b : List ℕ) : machine.Listed → Type 0 where
  leading : {es : List rules.Entry} (rest : List ℕ) → b ≡ rows es rest → Leading b (machine.entries_are es)
  nothing : {a : machine.Answer} → Leading b (machine.refused_with a)

-- the answer r is that of l, and its entries stand first in b
pub record Leads (l : machine.Listed) (r : Outcome) (b : List ℕ) : Type 0 where
  pub answer : Answers l r
  pub entries : Leading b l

-- a listing, or too few rows for it
abbrev pub Tried : Type 0
Tried = Result Listed Stop

abbrev pub as_tried : Outcome → Tried
as_tried (Ok x) = Ok x
as_tried (Err r) = Err (Refused r)

-- 01, 12: of a table of offers
abbrev pub of_offers : offers.Stop → Stop
of_offers (offered.Missing i j) = Refused (Missing i j)
of_offers offered.Full = Full

-- where the table of offers has n rows: all of that, or too few rows
pub data TriesOver (n : ℕ) (l : machine.Listed) (b : List ℕ) (t : Tried) : Type 0 where
  led : (r : Outcome) → t ≡ as_tried r → Leads l r b → TriesOver n l b t
  short : t ≡ Err Full → n < row_limit → TriesOver n l b t

-- the same, with zeros after the entries
pub data Tries (n : ℕ) (l : machine.Listed) (b : List ℕ) (t : Tried) : Type 0 where
  done : (r : Outcome) → t ≡ as_tried r → Lists l r b → Tries n l b t
  full : t ≡ Err Full → n < row_limit → Tries n l b t

-- ---- weights in the buffer

-- 01, Transitions: the weights of the first n entries
unfoldable pub weights_in : List ℕ → ℕ → List ℕ
weights_in b zero = []
weights_in b (suc n) = get_or b 6 0 ∷ weights_in (drop entry_width b) n

-- a sum, or none
abbrev pub Sum : Type 0
Sum = RustOption ℕ

-- 01, 14: the total, where it is within its limit
unfoldable pub totalled : List ℕ → Sum
totalled ws = cond (leb (total ws) total_limit) (Some (total ws)) None

-- the number of an entry, or none
abbrev pub Chosen : Type 0
Chosen = RustOption ℕ

-- 01, Transitions: the chosen entry's number
unfoldable pub chosen_answer : Option ℕ → Chosen
chosen_answer (some i) = Some i
chosen_answer none = None
