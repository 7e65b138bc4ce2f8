-- The rules (8) to (18) of document 000, a constructor for each, as 01, Transitions, takes them: over one set of lit pairs, with the places, branches and pair that tell
-- derivations apart. Processes are abstract: `branches` gives the evaluated branches of one. Definitions only.
--
-- (8) wait: rule8        (12) receive with names: rule12   (16) handshake: rule16-left, rule16-right
-- (9) launch: rule9      (13) check: rule13                (17) handshake with names: rule17-left, rule17-right
-- (10) kill: rule10      (14) choice: rule14-this, rule14-other
-- (11) receive: rule11   (15) parallel: rule15-this, rule15-other; around a handshake: rule15-both
-- (18) gate: rule18; what a gate, a rate, a channel, values and sets come to: machine, Offering
use Rattle.std.specs.Prelude.{◌≡◌, ℕ, zero, suc, ◌*◌, ℤ}
use mathlib.Core.List.{List, [], ◌∷◌, ◌++◌, Memᴰ as In}
use Rattle.rules.specs.Offers.{Pair, Query, Matches, Action, wait, launch, kill, receive, bind, check, send, take, take_bind, Guard, bare, opened, Branch, State}
use Rattle.rules.specs.Kind as kind

-- 01, State: x stands at place n of a list, from 0
pub data Nth {A : Type 0} : List A → ℕ → A → Type 0 where
  first : {x : A} {xs : List A} → Nth (x ∷ xs) zero x
  later : {x y : A} {xs : List A} {n : ℕ} → Nth xs n y → Nth (x ∷ xs) (suc n) y

-- 000, (1): what a transition writes on the ledger, of which 01 keeps the set of lit pairs alone
pub data Change : Type 0 where
  unchanged : Change
  launched killed : Pair → Change

-- 000: {a, r} over an arrow; with it the number of the lit pair that (12) receives, what is written on the ledger, and the values that are bound
pub data Label : Type 0 where
  label : (a : Action) (rate pair : ℕ) (change : Change) (bound : List ℤ) → Label

-- a label that receives no pair, writes nothing and binds nothing
abbrev pub plain : Action → ℕ → Label
plain a r = label a r 0 unchanged []

-- 000, Prefix and Gates: what a guarded prefix can do while these pairs are lit. (16) and (17) ask for the two sides of a handshake, for which 000 has no prefix rule:
-- these are `sends`, `takes` and `takes_bind`.
pub data Offered (lit : List Pair) : Guard → Label → Type 0 where
  -- (8): a wait
  rule8 : {r : ℕ} → Offered lit (bare wait r) (plain wait r)
  -- (9): a launch
  rule9 : {x : Pair} {r : ℕ} → Offered lit (bare (launch x) r) (label (launch x) r 0 (launched x) [])
  -- (10): a kill
  rule10 : {x : Pair} {r : ℕ} → Offered lit (bare (kill x) r) (label (kill x) r 0 (killed x) [])
  -- (11): a receive; some lit pair matches
  rule11 : {w : Query} {r : ℕ} (x : Pair) → In x lit → Matches w x → Offered lit (bare (receive w) r) (plain (receive w) r)
  -- (12): a receive with names; the lit pair with number q matches, and its values are bound
  rule12 : {w : Query} {r q : ℕ} {x : Pair} → Nth lit q x → Matches w x → Offered lit (bare (bind w) r) (label (bind w) r q unchanged x.values)
  -- (13): a check; no lit pair matches
  rule13 : {w : Query} {r : ℕ} → ((x : Pair) → In x lit → Matches w x → ⊥) → Offered lit (bare (check w) r) (plain (check w) r)
  -- a handshake's sender, its receiver without names, and its receiver with names, which take the values of a pair that matches
  sends : {x : Pair} {r : ℕ} → Offered lit (bare (send x) r) (plain (send x) r)
  takes : {w : Query} {r : ℕ} → Offered lit (bare (take w) r) (plain (take w) r)
  takes_bind : {w : Query} {r : ℕ} {vs : List ℤ} (x : Pair) → Matches w x → vs ≡ x.values → Offered lit (bare (take_bind w) r) (label (take_bind w) r 0 unchanged vs)
  -- (18): the gate is true
  rule18 : {a : Action} {r : ℕ} {l : Label} → Offered lit (bare a r) l → Offered lit (opened a r) l

-- 000, Choice: branch j of a sum acts, and the process becomes ks
pub data Chooses {Proc : Type 0} (lit : List Pair) : List (Branch Proc) → ℕ → Label → List Proc → Type 0 where
  -- (14): this branch, or one of the others
  rule14-this : {b : Branch Proc} {bs : List (Branch Proc)} {a : Action} {r q : ℕ} {n : Change} {vs : List ℤ}
      → Offered lit b.guard (label a r q n vs) → Chooses lit (b ∷ bs) zero (label a r q n vs) (b.next vs)
  rule14-other : {b : Branch Proc} {bs : List (Branch Proc)} {j : ℕ} {l : Label} {ks : List Proc} → Chooses lit bs j l ks → Chooses lit (b ∷ bs) (suc j) l ks

module _ {Proc : Type 0} (branches : Proc → List (Branch Proc)) where
  -- 000, Parallel Execution: branch j of the process at place i acts, and the processes ps become ps'
  pub data Acts (lit : List Pair) : (ps : List Proc) (i j : ℕ) → Label → (ps' : List Proc) → Type 0 where
    -- (15): this process, or one of the others
    rule15-this : {p : Proc} {ps ks : List Proc} {j : ℕ} {l : Label} → Chooses lit (branches p) j l ks → Acts lit (p ∷ ps) zero j l (ks ++ ps)
    rule15-other : {p : Proc} {ps ps' : List Proc} {i j : ℕ} {l : Label} → Acts lit ps i j l ps' → Acts lit (p ∷ ps) (suc i) j l (p ∷ ps')

  -- 000, Handshake: branch j at place i sends with rate r₁, branch m at place k receives with rate r₂. One of the two stands on the left of ‖ and the other on its right,
  -- so that they are different processes; 01 lets either side send and has (17)'s sender carry values.
  pub data Handshakes (lit : List Pair) : (ps : List Proc) (i j k m r₁ r₂ : ℕ) (ps' : List Proc) → Type 0 where
    -- (16): received without names; the left side sends, or the right
    rule16-left : {p : Proc} {ps ks ps' : List Proc} {j k m r₁ r₂ : ℕ} {x : Pair} {w : Query}
        → Chooses lit (branches p) j (plain (send x) r₁) ks → Acts lit ps k m (plain (take w) r₂) ps' → Matches w x
        → Handshakes lit (p ∷ ps) zero j (suc k) m r₁ r₂ (ks ++ ps')
    rule16-right : {p : Proc} {ps ks ps' : List Proc} {i j m r₁ r₂ : ℕ} {x : Pair} {w : Query}
        → Acts lit ps i j (plain (send x) r₁) ps' → Chooses lit (branches p) m (plain (take w) r₂) ks → Matches w x
        → Handshakes lit (p ∷ ps) (suc i) j zero m r₁ r₂ (ks ++ ps')
    -- (17): received with names, which take the values sent; the left side sends, or the right
    rule17-left : {p : Proc} {ps ks ps' : List Proc} {j k m r₁ r₂ : ℕ} {x : Pair} {w : Query}
        → Chooses lit (branches p) j (plain (send x) r₁) ks → Acts lit ps k m (label (take_bind w) r₂ 0 unchanged x.values) ps' → Matches w x
        → Handshakes lit (p ∷ ps) zero j (suc k) m r₁ r₂ (ks ++ ps')
    rule17-right : {p : Proc} {ps ks ps' : List Proc} {i j m r₁ r₂ : ℕ} {x : Pair} {w : Query}
        → Acts lit ps i j (plain (send x) r₁) ps' → Chooses lit (branches p) m (label (take_bind w) r₂ 0 unchanged x.values) ks → Matches w x
        → Handshakes lit (p ∷ ps) (suc i) j zero m r₁ r₂ (ks ++ ps')
    -- (15) around a handshake
    rule15-both : {p : Proc} {ps ps' : List Proc} {i j k m r₁ r₂ : ℕ} → Handshakes lit ps i j k m r₁ r₂ ps' → Handshakes lit (p ∷ ps) (suc i) j (suc k) m r₁ r₂ (p ∷ ps')

-- 01, Transitions: the kind of an action that is a transition by itself
pub data Alone : Action → ℕ → Type 0 where
  waits : Alone wait kind.wait
  launches : {x : Pair} → Alone (launch x) kind.launch
  kills : {x : Pair} → Alone (kill x) kind.kill
  receives : {w : Query} → Alone (receive w) kind.receive
  binds : {w : Query} → Alone (bind w) kind.bind
  checks : {w : Query} → Alone (check w) kind.check

-- 01, Transitions: launch, kill, receive and check are the beacon transitions
pub data Beacon : (kind : ℕ) → Type 0 where
  launch-kind : Beacon kind.launch
  kill-kind : Beacon kind.kill
  receive-kind : Beacon kind.receive
  bind-kind : Beacon kind.bind
  check-kind : Beacon kind.check

-- 01, Transitions: what tells derivations apart; unused numbers are 0
pub data Key : Type 0 where
  key : (kind place branch partner partner_branch pair : ℕ) → Key

-- 01, Transitions: a rate of ten-thousandths as a weight of hundred-millionths
abbrev pub rate_weight : ℕ → ℕ
rate_weight r = r * 10000

-- 01, Transitions: a state's transitions, with key, weight, what is written on the ledger, and the processes after it. A handshake writes nothing.
pub data Moves {Proc : Type 0} (branches : Proc → List (Branch Proc)) (s : State Proc) : Key → (weight : ℕ) → Change → List Proc → Type 0 where
  alone : {a : Action} {c i j r q : ℕ} {n : Change} {vs : List ℤ} {ps : List Proc}
      → Alone a c → Acts branches s.pairs s.processes i j (label a r q n vs) ps → Moves branches s (key c i j 0 0 q) (rate_weight r) n ps
  together : {i j k m r₁ r₂ : ℕ} {ps : List Proc}
      → Handshakes branches s.pairs s.processes i j k m r₁ r₂ ps → Moves branches s (key kind.handshake i j k m 0) (r₁ * r₂) unchanged ps

-- 01, Transitions: the rules derive a transition with this key and this weight
unfoldable pub Derivable : {Proc : Type 0} → (Proc → List (Branch Proc)) → State Proc → Key → ℕ → Type 0
Derivable {Proc} branches s k w = (n : Change) × (ps : List Proc) × Moves branches s k w n ps
