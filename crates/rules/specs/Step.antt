-- The step that an entry stands for, as a function. Definitions only.
use Rattle.std.specs.Prelude.{List, [], ◌∷◌, ◌++◌, cond, ℕ, zero, suc, eqb, ℤ}
use Rattle.std.proofs.Math.Option.{Option-elim}
use Rattle.std.proofs.Math.ListN.{get_elem?}
use Rattle.rules.specs.Offers.{Pair, Action, wait, launch, kill, receive, bind, check, send, take, take_bind, Guard, bare, opened, shut, Branch, State}
use Rattle.rules.specs.Kind as kind
use Rattle.rules.specs.Rules.{Change, unchanged, launched, killed, Key, key}
use Rattle.rules.specs.Pairs.{pairs_after}

-- ---- places

-- 01, State, step: the process at place i replaced by ks; later places move
unfoldable pub replace : {A : Type 0} → ℕ → List A → List A → List A
replace zero ks [] = []
replace zero ks (p ∷ ps) = ks ++ ps
replace (suc i) ks [] = []
replace (suc i) ks (p ∷ ps) = p ∷ replace i ks ps

-- 01, State, step: of a handshake both, at once
unfoldable pub replace_both : {A : Type 0} → ℕ → List A → ℕ → List A → List A → List A
replace_both zero ks zero ls ps = ps
replace_both zero ks (suc k) ls [] = []
replace_both zero ks (suc k) ls (p ∷ ps) = ks ++ replace k ls ps
replace_both (suc i) ks zero ls [] = []
replace_both (suc i) ks zero ls (p ∷ ps) = ls ++ replace i ks ps
replace_both (suc i) ks (suc k) ls [] = []
replace_both (suc i) ks (suc k) ls (p ∷ ps) = p ∷ replace_both i ks k ls ps

-- ---- actions

-- 01, State, step: launch adds its pair, kill takes it away, nothing else alters pairs
unfoldable pub change_of : Action → Change
change_of wait = unchanged
change_of (launch x) = launched x
change_of (kill x) = killed x
change_of (receive w) = unchanged
change_of (bind w) = unchanged
change_of (check w) = unchanged
change_of (send x) = unchanged
change_of (take w) = unchanged
change_of (take_bind w) = unchanged

-- 01, State, step: names bound take the values received, the pair's or those sent
unfoldable pub bound_by : List ℤ → Action → List ℤ
bound_by vs (bind w) = vs
bound_by vs (take_bind w) = vs
bound_by vs wait = []
bound_by vs (launch x) = []
bound_by vs (kill x) = []
bound_by vs (receive w) = []
bound_by vs (check w) = []
bound_by vs (send x) = []
bound_by vs (take w) = []

-- the values of the pair with number q
unfoldable pub values_at : List Pair → ℕ → List ℤ
values_at L q = Option-elim (get_elem? L q) [] (λ (x : Pair). x.values)

-- the values sent
unfoldable pub sent_by : Action → List ℤ
sent_by (send x) = x.values
sent_by wait = []
sent_by (launch x) = []
sent_by (kill x) = []
sent_by (receive w) = []
sent_by (bind w) = []
sent_by (check w) = []
sent_by (take w) = []
sent_by (take_bind w) = []

-- f of a guard's action; d behind a false gate
unfoldable pub on_action : {B : Type 0} → B → (Action → B) → Guard → B
on_action d f (bare a r) = f a
on_action d f (opened a r) = f a
on_action d f shut = d

-- ---- the step

-- what becomes of a state: nothing, or a change of its pairs and its processes afterwards
pub data Outcome (Proc : Type 0) : Type 0 where
  stays : Outcome Proc
  goes : Change → List Proc → Outcome Proc

-- 01, State, step: the state afterwards
unfoldable pub state_after : {Proc : Type 0} → State Proc → Outcome Proc → State Proc
state_after s stays = s
state_after s (goes n ps) = record { processes = ps; pairs = pairs_after n s.pairs }

module _ {Proc : Type 0} (branches : Proc → List (Branch Proc)) (s : State Proc) where
  -- f of branch j of the process at place i
  unfoldable pub at_branch : (i j : ℕ) → (Branch Proc → Outcome Proc) → Outcome Proc
  at_branch i j f = Option-elim (get_elem? s.processes i) stays (λ p. Option-elim (get_elem? (branches p) j) stays f)

  -- 01, State, step: the acting process is replaced at its place by its continuation
  unfoldable pub one_acts : (i q : ℕ) → Branch Proc → Outcome Proc
  one_acts i q b = goes (on_action unchanged change_of b.guard) (replace i (b.next (on_action [] (bound_by (values_at s.pairs q)) b.guard)) s.processes)

  -- 01, State, step: a handshake does so to both processes, judged from the state before
  unfoldable pub both_act : (i k : ℕ) → Branch Proc → Branch Proc → Outcome Proc
  both_act i k b b' = goes unchanged (replace_both i (b.next []) k (b'.next (on_action [] (bound_by (on_action [] sent_by b.guard)) b'.guard)) s.processes)

  -- 01, State, step: what the entry with this key does
  unfoldable pub step : Key → Outcome Proc
  step (key c i j k m q) = at_branch i j (λ b. cond (eqb c kind.handshake) (at_branch k m (λ b'. both_act i k b b')) (one_acts i q b))
