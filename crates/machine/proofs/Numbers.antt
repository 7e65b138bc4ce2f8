-- A state's numbers are 5,122, and over a good model they tell the state: from the widths of processes and pairs, and since a list is told by what is padded.
use mathlib.Core.Path.{◌≡◌, refl, sym, ap, ap₂, ◌∙◌}
use mathlib.Core.List.{List, [], ◌∷◌, ◌++◌}
use Prim.Native.Nat.{ℕ, ◌+◌, ◌*◌, ◌≤◌}
use native.Mathlib.Nat.{suc-mul}
use native.Mathlib.Omega.{arith}
use lib.IntN.{ℤ, pos}
use lib.ListN.{length, replicate, get_or, get_elem?, length-append, length-replicate, replicate-append-replicate}
use Rattle.model.specs.Limits.{local_limit}
use Rattle.model.specs.Opening.{process_limit}
use Rattle.model.specs.Resolved
use Rattle.rules.specs.Offers as offers
use Rattle.rules.specs.Pairs.{numbers}
use Rattle.rules.proofs.Channels.{channel-length, channel-eighth}
use Rattle.rules.proofs.Before.{told}
use Rattle.model.specs.Good.{Every, GoodSum, GoodModel}
use Rattle.machine.specs.Offer.{Process}
use Rattle.machine.specs.State.{pair_limit, process_width, pair_width, state_length, State, GoodPair, GoodProcess, GoodState, padded, process_numbers, pair_numbers, flatten, state_numbers, empty_state}
use Rattle.machine.proofs.Branches.{get_nth}
use Rattle.machine.proofs.Everys.{every-nth}
use Rattle.machine.proofs.Parts.{some_is}

-- ---- lists that are joined or padded
split : {A : Type 0} (a b c d : List A) → length a ≡ length b → a ++ c ≡ b ++ d → (a ≡ b) × (c ≡ d)
split [] [] c d l e = (refl, e)
split [] (y ∷ b) c d l e = absurd (omega arith)
split (x ∷ a) [] c d l e = absurd (omega arith)
split {A} (x ∷ a) (y ∷ b) c d l e =
    let p : x ≡ y = cc in
    let q : a ++ c ≡ b ++ d = cc in
    let r = split a b c d (omega arith) q in
    (ap₂ (λ (u : A) (us : List A). u ∷ us) p r.0, r.1)

padded-length : (n : ℕ) (zs : List ℤ) → length zs ≤ n → length (padded n zs) ≡ n
unfolding padded
padded-length n zs l = simp (length-append, length-replicate) (omega arith)

padded-told : (n : ℕ) (xs ys : List ℤ) → length xs ≡ length ys → padded n xs ≡ padded n ys → xs ≡ ys
unfolding padded
padded-told n xs ys l e = (split xs ys _ _ l e).0

-- ---- one after the other
module _ {A : Type 0} (P : A → Type 0) (f : A → List ℤ) (w : ℕ) (wide : (x : A) → P x → length (f x) ≡ w) where
  flatten-length : (xs : List A) → Every P xs → length (flatten f xs) ≡ length xs * w
  unfolding flatten Every
  flatten-length [] h = omega arith
  flatten-length (x ∷ xs) h = omega (arith, length-append (f x) (flatten f xs), wide x h.0, flatten-length xs h.1, suc-mul (length xs) w)

  flatten-told : ((x y : A) → P x → P y → f x ≡ f y → x ≡ y) → (xs ys : List A) → Every P xs → Every P ys → length xs ≡ length ys → flatten f xs ≡ flatten f ys → xs ≡ ys
  unfolding flatten Every
  flatten-told t [] [] h g l e = refl
  flatten-told t [] (y ∷ ys) h g l e = absurd (omega arith)
  flatten-told t (x ∷ xs) [] h g l e = absurd (omega arith)
  flatten-told t (x ∷ xs) (y ∷ ys) h g l e =
      let r = split (f x) (f y) (flatten f xs) (flatten f ys) (wide x h.0 ∙ sym (wide y g.0)) e in
      ap₂ (λ (u : A) (us : List A). u ∷ us) (t x y h.0 g.0 r.0) (flatten-told t xs ys h.1 g.1 (omega arith) r.1)

-- ---- pairs
numbers-length : (x : offers.Pair) → length (numbers x) ≡ length x.values + 8
unfolding numbers
numbers-length x = omega (arith, channel-length x.channel (pos (length x.values) ∷ x.values))

pair-count : (x : offers.Pair) → get_or (pair_numbers x) 7 (pos 0) ≡ pos (length x.values)
unfolding pair_numbers padded numbers
pair-count x = channel-eighth x.channel _ x.values _

pair-length : (m : Resolved.Model) (x : offers.Pair) → GoodPair m x → length (pair_numbers x) ≡ pair_width
unfolding pair_numbers
pair-length m x g = padded-length pair_width (numbers x) (omega (arith, numbers-length x, g.number.two))

pub pair-told : (x y : offers.Pair) → pair_numbers x ≡ pair_numbers y → x ≡ y
unfolding pair_numbers
pair-told x y e =
    let c : pos (length x.values) ≡ pos (length y.values) = sym (pair-count x) ∙ ap (λ (l : List ℤ). get_or l 7 (pos 0)) e ∙ pair-count y in
    let n : length x.values ≡ length y.values = cc in
    told x y (padded-told pair_width (numbers x) (numbers y) (omega (arith, numbers-length x, numbers-length y)) e)

-- ---- the two tables of a state
abbrev process_rows : State → List ℤ
process_rows s = padded (process_limit * process_width) (flatten process_numbers s.processes)

abbrev pair_rows : State → List ℤ
pair_rows s = padded (pair_limit * pair_width) (flatten pair_numbers s.pairs)

-- 01, Fresh: no process and no pair are zeros
pub empty-zeros : state_numbers empty_state ≡ replicate state_length (pos 0)
unfolding state_numbers empty_state padded flatten
empty-zeros = ap (λ (l : List ℤ). pos 0 ∷ pos 0 ∷ l) (replicate-append-replicate (process_limit * process_width) (pair_limit * pair_width) (pos 0))

-- ---- processes
module _ (m : Resolved.Model) (good : GoodModel m) where
  few-locals : (p : Process) → GoodProcess m p → length p.locals ≤ local_limit
  few-locals p g = omega (arith, (every-nth (GoodSum m) good.sums (get_nth m.sums p.sum g.sum.exists)).few, g.sum.scope)

  process-length : (p : Process) → GoodProcess m p → length (process_numbers p) ≡ process_width
  unfolding process_numbers
  process-length p g = omega (arith, length-append (padded local_limit p.locals) (pos p.definition ∷ []), padded-length local_limit p.locals (few-locals p g))

  pub process-told : (p q : Process) → GoodProcess m p → GoodProcess m q → process_numbers p ≡ process_numbers q → p ≡ q
  unfolding process_numbers
  process-told p q g h e =
      let a : p.sum ≡ q.sum = cc in
      let b : padded local_limit p.locals ++ pos p.definition ∷ [] ≡ padded local_limit q.locals ++ pos q.definition ∷ [] = cc in
      let k = split (padded local_limit p.locals) (padded local_limit q.locals) _ _ (padded-length local_limit p.locals (few-locals p g) ∙ sym (padded-length local_limit q.locals (few-locals q h))) b in
      let d : p.definition ≡ q.definition = cc k.1 in
      let s : g.sum.sum ≡ h.sum.sum = some_is _ _ (sym g.sum.exists ∙ ap (get_elem? m.sums) a ∙ h.sum.exists) in
      let l : length p.locals ≡ length q.locals = sym g.sum.scope ∙ ap (λ (t : Resolved.Sum). t.locals) s ∙ h.sum.scope in
      ap₂ (λ (n : ℕ) (ls : List ℤ). make n ls p.definition) a (padded-told local_limit p.locals q.locals l k.0) ∙ ap (make q.sum q.locals) d
    where
      make : ℕ → List ℤ → ℕ → Process
      make n ls d = record { sum = n; locals = ls; definition = d }

  -- ---- states
  module _ (s : State) (g : GoodState m s) where
    processes-flat : length (flatten process_numbers s.processes) ≡ length s.processes * process_width
    processes-flat = flatten-length (GoodProcess m) process_numbers process_width process-length s.processes g.processes

    pairs-flat : length (flatten pair_numbers s.pairs) ≡ length s.pairs * pair_width
    pairs-flat = flatten-length (GoodPair m) pair_numbers pair_width (pair-length m) s.pairs g.pairs

    processes-length : length (process_rows s) ≡ process_limit * process_width
    processes-length = padded-length (process_limit * process_width) _ (omega (arith, processes-flat, g.few-processes))

    pairs-length : length (pair_rows s) ≡ pair_limit * pair_width
    pairs-length = padded-length (pair_limit * pair_width) _ (omega (arith, pairs-flat, g.few-pairs))

    -- 01, State: 5,122 numbers
    pub state-length : length (state_numbers s) ≡ state_length
    unfolding state_numbers
    state-length = omega (arith, processes-length, pairs-length, length-append (process_rows s) (pair_rows s))

  -- a state is told by its numbers
  pub state-told : (s t : State) → GoodState m s → GoodState m t → state_numbers s ≡ state_numbers t → s ≡ t
  unfolding state_numbers
  state-told s t g h e =
      let a : length s.processes ≡ length t.processes = cc in
      let b : length s.pairs ≡ length t.pairs = cc in
      let c : process_rows s ++ pair_rows s ≡ process_rows t ++ pair_rows t = cc in
      let r = split (process_rows s) (process_rows t) (pair_rows s) (pair_rows t) (processes-length s g ∙ sym (processes-length t h)) c in
      let k : length (flatten process_numbers s.processes) ≡ length (flatten process_numbers t.processes) = omega (arith, processes-flat s g, processes-flat t h) in
      let l : length (flatten pair_numbers s.pairs) ≡ length (flatten pair_numbers t.pairs) = omega (arith, pairs-flat s g, pairs-flat t h) in
      ap₂ make
      (flatten-told (GoodProcess m) process_numbers process_width process-length process-told s.processes t.processes g.processes h.processes a (padded-told _ _ _ k r.0))
      (flatten-told (GoodPair m) pair_numbers pair_width (pair-length m) (λ x y u v. pair-told x y) s.pairs t.pairs g.pairs h.pairs b (padded-told _ _ _ l r.1))
    where
      make : List Process → List offers.Pair → State
      make ps L = record { processes = ps; pairs = L }
