-- What a state's open branches offer, in order: by place, then branch. Assumes nothing: these are definitions.
use Rattle.std.specs.Prelude.{List, [], ◌∷◌, ◌++◌, ℕ, zero, suc, eqb}
use Rattle.std.proofs.Math.Option.{Option-elim}
use Rattle.std.proofs.Math.ListN.{get_elem?}
use Rattle.rules.specs.Offers.{Pair, Action, Guard, bare, opened, shut, Branch, State}
use Rattle.rules.specs.Listing.{Entry, gather, unless, partner_action, of_action}

-- 01, Values: what a branch offers whose gate is true or absent, with its place and number
pub record Slot : Type 0 where
  pub place : ℕ
  pub branch : ℕ
  pub action : Action
  pub rate : ℕ

-- 01, Values: a false gate hides its branch
unfoldable pub slot_of : (i j : ℕ) → Guard → List Slot
slot_of i j (bare a r) = record { place = i; branch = j; action = a; rate = r } ∷ []
slot_of i j (opened a r) = record { place = i; branch = j; action = a; rate = r } ∷ []
slot_of i j shut = []

-- 01, Transitions: by place, then branch
unfoldable pub slots : {Proc : Type 0} → (Proc → List (Branch Proc)) → List Proc → List Slot
slots {Proc} branches ps = gather (λ (i : ℕ) (p : Proc). gather (λ (j : ℕ) (b : Branch Proc). slot_of i j b.guard) (branches p)) ps

-- 01, Transitions: a slot as partner of branch j at place i, which sends x with rate r
unfoldable pub partner_of : Pair → (r i j : ℕ) → Slot → List Entry
partner_of x r i j y = unless (eqb y.place i) (partner_action x r i j y.place y.branch y.rate y.action)

-- 01, Transitions: the entries of a slot
unfoldable pub of_slot : {Proc : Type 0} → (Proc → List (Branch Proc)) → State Proc → Slot → List Entry
of_slot branches s y = of_action branches s y.place y.branch y.rate y.action

-- ---- lists by number

-- what f gives of number k and the member there, if there is one
unfoldable pub at_number : {A B : Type 0} → (ℕ → A → List B) → List A → ℕ → List B
at_number f xs k = Option-elim (get_elem? xs k) [] (f k)

-- g 0 ++ .. ++ g (n - 1)
unfoldable pub up_to : {B : Type 0} → (ℕ → List B) → ℕ → List B
up_to g zero = []
up_to g (suc n) = up_to g n ++ g n
