-- The listing of a state's transitions as a function, in 01's order. Definitions only.
use Rattle.std.specs.Prelude.{◌≡◌, List, [], ◌∷◌, ◌++◌, Bool, true, false, cond, ◌&&◌, ◌||◌, ℕ, zero, suc, ◌*◌, eqb, ℤ, pos}
use Rattle.value.specs.Arithmetic.{is_same}
use Rattle.value.specs.Items.{one_item, two_items, three_items}
use Rattle.rules.specs.Offers.{Item, number, named, Channel, Pair, Set, within, Query, Action, wait, launch, kill, receive, bind, check, send, take, take_bind, Guard, bare, opened, shut, Branch, State}
use Rattle.rules.specs.Order.{less}
use Rattle.rules.specs.Kind as kind
use Rattle.rules.specs.Rules.{Key, key, rate_weight}

-- ---- matching as a test

-- 01, Transitions: a name only with that name
unfoldable pub same_item : Item → Item → Bool
same_item (number x) (number y) = is_same x y
same_item (number x) (named n) = false
same_item (named m) (number y) = false
same_item (named m) (named n) = eqb m n

-- 02, note 7: at equal length, item for item
unfoldable pub same_channel : Channel → Channel → Bool
same_channel (one_item a) (one_item d) = same_item a d
same_channel (two_items a b) (two_items d e) = same_item a d && same_item b e
same_channel (three_items a b c) (three_items d e f) = same_item a d && (same_item b e && same_item c f)
same_channel (one_item a) (two_items d e) = false
same_channel (one_item a) (three_items d e f) = false
same_channel (two_items a b) (one_item d) = false
same_channel (two_items a b) (three_items d e f) = false
same_channel (three_items a b c) (one_item d) = false
same_channel (three_items a b c) (two_items d e) = false

-- 01, Transitions: as many values as sets, each value in its set
unfoldable pub all_within : List Set → List ℤ → Bool
all_within [] [] = true
all_within [] (v ∷ vs) = false
all_within (x ∷ xs) [] = false
all_within (x ∷ xs) (v ∷ vs) = within x v && all_within xs vs

-- 01, Transitions: matching
unfoldable pub matches : Query → Pair → Bool
matches w x = same_channel w.channel x.channel && all_within w.sets x.values

-- 01, Transitions: some lit pair matches
unfoldable pub any_match : Query → List Pair → Bool
any_match w [] = false
any_match w (x ∷ xs) = matches w x || any_match w xs

-- ---- entries

-- 01, Transitions: a line of the listing
pub data Entry : Type 0 where
  entry : Key → (weight : ℕ) → Entry

-- its parts
unfoldable pub key_of : Entry → Key
key_of (entry k w) = k

unfoldable pub weight_of : Entry → ℕ
weight_of (entry k w) = w

-- what f gives of each place and member of a list, in order
unfoldable pub gather : {A B : Type 0} → (ℕ → A → List B) → List A → List B
gather f [] = []
gather f (x ∷ xs) = f zero x ++ gather (λ n. f (suc n)) xs

-- a list where the test passes, and none where it fails
unfoldable pub when : {B : Type 0} → Bool → List B → List B
when b bs = cond b bs []

-- a list where the test fails, and none where it passes
unfoldable pub unless : {B : Type 0} → Bool → List B → List B
unless b bs = cond b [] bs

-- 01, Transitions: the action of branch m at place k as partner of branch j at place i, which sends x with rate r
unfoldable pub partner_action : Pair → (r i j k m r₂ : ℕ) → Action → List Entry
partner_action x r i j k m r₂ (take w) = when (matches w x) (entry (key kind.handshake i j k m 0) (r * r₂) ∷ [])
partner_action x r i j k m r₂ (take_bind w) = when (matches w x) (entry (key kind.handshake i j k m 0) (r * r₂) ∷ [])
partner_action x r i j k m r₂ wait = []
partner_action x r i j k m r₂ (launch y) = []
partner_action x r i j k m r₂ (kill y) = []
partner_action x r i j k m r₂ (receive w) = []
partner_action x r i j k m r₂ (bind w) = []
partner_action x r i j k m r₂ (check w) = []
partner_action x r i j k m r₂ (send y) = []

-- a branch behind a false gate is no partner
unfoldable pub partner : Pair → (r i j k m : ℕ) → Guard → List Entry
partner x r i j k m (bare a r₂) = partner_action x r i j k m r₂ a
partner x r i j k m (opened a r₂) = partner_action x r i j k m r₂ a
partner x r i j k m shut = []

-- 01, Transitions: the partners in the process at place k, by branch; never the sender's own
unfoldable pub partners_in : {Proc : Type 0} → (Proc → List (Branch Proc)) → Pair → (r i j k : ℕ) → Proc → List Entry
partners_in {Proc} branches x r i j k p = unless (eqb k i) (gather (λ (m : ℕ) (b : Branch Proc). partner x r i j k m b.guard) (branches p))

module _ {Proc : Type 0} (branches : Proc → List (Branch Proc)) (s : State Proc) where
  -- 01, Transitions: the entries of branch j at place i with this rate and action; a handshake is listed at its sender, by partner place
  unfoldable pub of_action : (i j r : ℕ) → Action → List Entry
  of_action i j r wait = entry (key kind.wait i j 0 0 0) (rate_weight r) ∷ []
  of_action i j r (launch x) = entry (key kind.launch i j 0 0 0) (rate_weight r) ∷ []
  of_action i j r (kill x) = entry (key kind.kill i j 0 0 0) (rate_weight r) ∷ []
  of_action i j r (receive w) = when (any_match w s.pairs) (entry (key kind.receive i j 0 0 0) (rate_weight r) ∷ [])
  of_action i j r (bind w) = gather (λ (q : ℕ) (x : Pair). when (matches w x) (entry (key kind.bind i j 0 0 q) (rate_weight r) ∷ [])) s.pairs
  of_action i j r (check w) = unless (any_match w s.pairs) (entry (key kind.check i j 0 0 0) (rate_weight r) ∷ [])
  of_action i j r (send x) = gather (partners_in branches x r i j) s.processes
  of_action i j r (take w) = []
  of_action i j r (take_bind w) = []

  -- 01, Values: a false gate hides its branch
  unfoldable pub of_guard : (i j : ℕ) → Guard → List Entry
  of_guard i j (bare a r) = of_action i j r a
  of_guard i j (opened a r) = of_action i j r a
  of_guard i j shut = []

  -- 01, Transitions: the entries of the process at place i, by branch
  unfoldable pub of_process : (i : ℕ) → Proc → List Entry
  of_process i p = gather (λ (j : ℕ) (b : Branch Proc). of_guard i j b.guard) (branches p)

  -- 01, Transitions: the listing, by place
  unfoldable pub entries : List Entry
  entries = gather of_process s.processes

-- ---- the order of entries

-- 01, Transitions: place, branch, pair, partner place, partner branch
unfoldable pub rank : Key → List ℤ
rank (key c i j k m q) = pos i ∷ pos j ∷ pos q ∷ pos k ∷ pos m ∷ []

-- one entry stands before another
abbrev pub Earlier : Entry → Entry → Type 0
Earlier d e = less (rank (key_of d)) (rank (key_of e)) ≡ true
