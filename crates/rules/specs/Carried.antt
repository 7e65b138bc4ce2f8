-- Which processes an entry's move replaces and by what, and where the other processes and their entries stand afterwards (01, Step: later places move; 02, note 14). Definitions only.
use Rattle.std.specs.Prelude.{◌≡◌, cond, ℕ, zero, suc, ◌+◌, eqb, ltb, length}
use mathlib.Core.List.{List, [], ◌∷◌, Memᴰ as In}
use Rattle.std.proofs.Math.Option.{Option, none, some, Option-elim}
use Rattle.std.proofs.Math.ListN.{get_elem?}
use Rattle.rules.specs.Offers.{Branch, State}
use Rattle.rules.specs.Kind as kind
use Rattle.rules.specs.Rules.{Key, key}
use Rattle.rules.specs.Step.{bound_by, values_at, sent_by, on_action}

-- 01, Step: the places of the processes that act, a handshake's being two
unfoldable pub places : Key → List ℕ
places (key c i j k m q) = cond (eqb c kind.handshake) (i ∷ k ∷ []) (i ∷ [])

-- 02, note 14: two entries that share no process
pub record Apart (k l : Key) : Type 0 where
  pub none-shared : (n : ℕ) → In n (places k) → In n (places l) → ⊥

-- 02, note 14: neither a launch nor a kill
unfoldable pub Quiet : Key → Type 0
Quiet (key c i j k m q) = (c ≡ kind.launch → ⊥) × (c ≡ kind.kill → ⊥)

-- ---- what a move puts in the place of which process

-- a place, and the processes that its process becomes
abbrev pub Change : Type 0 → Type 0
Change A = ℕ × List A

-- what the process at place n becomes, if it is one that acts
unfoldable pub becomes : {A : Type 0} → List (Change A) → ℕ → Option (List A)
becomes [] n = none
becomes (x ∷ xs) n = cond (eqb n x.0) (some x.1) (becomes xs n)

-- how many processes stand for one afterwards
abbrev pub size : {A : Type 0} → Option (List A) → ℕ
size o = Option-elim o 1 (λ ks. length ks)

-- 01, Step: later places move; a process stands where as many processes are before it as those before it have become
unfoldable pub place_after : (sizes : ℕ → ℕ) → ℕ → ℕ
place_after z zero = 0
place_after z (suc n) = place_after z n + z n

module _ {Proc : Type 0} (branches : Proc → List (Branch Proc)) (s : State Proc) where
  -- f of branch j of the process at place i
  unfoldable pub of_branch : {B : Type 0} → B → (i j : ℕ) → (Branch Proc → B) → B
  of_branch d i j f = Option-elim (get_elem? s.processes i) d (λ p. Option-elim (get_elem? (branches p) j) d f)

  -- 01, Step: each process that acts, and its continuation with the values that its names take
  unfoldable pub becoming : Key → List (Change Proc)
  becoming (key c i j k m q) =
      cond (eqb c kind.handshake)
      ((i, of_branch [] i j (λ b. b.next []))
      ∷ (k, of_branch [] k m (λ b'. b'.next (on_action [] (bound_by (of_branch [] i j (λ b. on_action [] sent_by b.guard))) b'.guard))) ∷ [])
      ((i, of_branch [] i j (λ b. b.next (on_action [] (bound_by (values_at s.pairs q)) b.guard))) ∷ [])

  -- the place of a process after an entry's move, if it isn't one that acts
  unfoldable pub moved : Key → ℕ → ℕ
  moved k n = place_after (λ i. size (becomes (becoming k) i)) n

-- an entry at other places: kind, branches and pair are as before
unfoldable pub placed : (ℕ → ℕ) → Key → Key
placed f (key c i j k m q) = cond (eqb c kind.handshake) (key c (f i) j (f k) m q) (key c (f i) j k m q)

-- 02, note 14: the entry l once k's move has moved its places
unfoldable pub carried : {Proc : Type 0} → (Proc → List (Branch Proc)) → State Proc → Key → Key → Key
carried branches s k l = placed (moved branches s k) l

-- ---- the same by counting

-- how many of the places that act stand before n, each counted as often as f says
unfoldable pub before_it : {A : Type 0} → (List A → ℕ) → List (Change A) → ℕ → ℕ
before_it f [] n = 0
before_it f (x ∷ xs) n = cond (ltb x.0 n) (f x.1) 0 + before_it f xs n
