-- Where a process's branches stand, written and evaluated: from the places of a mapped list, and since a place holds one thing.
use mathlib.Core.Path.{◌≡◌, refl, ap, subst}
use mathlib.Core.List.{List, [], ◌∷◌, ◌++◌, map}
use mathlib.Core.Option.{Option, none, some, Option-elim}
use Prim.Native.Nat.{ℕ, zero, suc, ◌<◌}
use native.Mathlib.Omega.{arith}
use lib.IntN.{ℤ}
use lib.ListN.{length, get_elem?}
use Rattle.model.specs.Resolved
use Rattle.rules.specs.Offers as offers
use Rattle.rules.specs.Rules.{Nth, first, later, Label, Offered}
use Rattle.machine.specs.Evaluate.{eval_branch}
use Rattle.machine.specs.Offer.{Process, next_processes, offered, branches, branches_of}
use Rattle.machine.specs.Questions.{BranchAt}

-- ---- options
pub none-not-some : {A B : Type 0} (o : Option A) (x : A) → o ≡ none → o ≡ some x → B
none-not-some o x e f = let z : ◌≡◌ {A = ℕ} 0 1 = cc in absurd (omega arith)

-- ---- places of a list
pub nth-map : {A B : Type 0} (f : A → B) {xs : List A} {n : ℕ} {x : A} → Nth xs n x → Nth (map f xs) n (f x)
nth-map f first = first
nth-map f (later h) = later (nth-map f h)

-- what stands at a place of a mapped list comes from what stands there
pub record Mapped {A B : Type 0} (f : A → B) (xs : List A) (n : ℕ) (y : B) : Type 0 where
  pub source : A
  pub at : Nth xs n source
  pub is : y ≡ f source

pub map-nth : {A B : Type 0} (f : A → B) (xs : List A) {n : ℕ} {y : B} → Nth (map f xs) n y → Mapped f xs n y
map-nth f [] h = elim h [ ]
map-nth f (x ∷ xs) first = record { source = x; at = first; is = refl }
map-nth f (x ∷ xs) (later h) = let r = map-nth f xs h in record { source = r.source; at = later r.at; is = r.is }

pub nth-get : {A : Type 0} {xs : List A} {n : ℕ} {x : A} → Nth xs n x → get_elem? xs n ≡ some x
nth-get first = refl
nth-get (later h) = nth-get h

pub get_nth : {A : Type 0} (xs : List A) (n : ℕ) {x : A} → get_elem? xs n ≡ some x → Nth xs n x
get_nth [] n e = none-not-some none _ refl e
get_nth (y ∷ xs) zero {x} e = let q : y ≡ x = cc in rw (← q) first
get_nth (y ∷ xs) (suc n) e = later (get_nth xs n e)

pub nth-below : {A : Type 0} (xs : List A) (n : ℕ) → n < length xs → (x : A) × Nth xs n x
nth-below [] n l = absurd (omega arith)
nth-below (x ∷ xs) zero l = (x, first)
nth-below (x ∷ xs) (suc n) l = let r = nth-below xs n (omega arith) in (r.0, later r.1)

-- ---- branches
module _ (m : Resolved.Model) where
  -- where a branch has all its values, the rules go by its own guard
  pub guard-is : (ls : List ℤ) (b : Resolved.Branch) {g : offers.Guard} → eval_branch ls b ≡ some g → (offered m ls b).guard ≡ g
  unfolding offered Option-elim
  guard-is ls b e = rw e

  -- a branch that offers something has all its values
  pub offers-some : {lit : List offers.Pair} {l : Label} (ls : List ℤ) (b : Resolved.Branch)
      → Offered lit (offered m ls b).guard l → (g : offers.Guard) × (eval_branch ls b ≡ some g) × Offered lit g l
  unfolding offered Option-elim
  offers-some {lit} {l} ls b h = go (eval_branch ls b) refl h
    where
      go : (o : Option offers.Guard) → eval_branch ls b ≡ o → Offered lit (Option-elim o offers.shut (λ g. g)) l
          → (g : offers.Guard) × (eval_branch ls b ≡ some g) × Offered lit g l
      go none e f = elim f [ ]
      go (some g) e f = (g, e, f)

  -- what is written where the rules find something offered
  pub record Writes (lit : List offers.Pair) (ps : List Process) (i j : ℕ) (p : Process) (a : offers.Branch Process) (l : Label) : Type 0 where
    pub branch : Resolved.Branch
    pub at : BranchAt m ps i j p branch
    pub guard : offers.Guard
    pub evaluates : eval_branch p.locals branch ≡ some guard
    pub offered : Offered lit guard l
    pub next : (vs : List ℤ) → a.next vs ≡ next_processes m (p.locals ++ vs) branch.next

  pub writes : {lit : List offers.Pair} {ps : List Process} {i j : ℕ} {p : Process} {a : offers.Branch Process} {l : Label}
      → Nth ps i p → Nth (branches m p) j a → Offered lit a.guard l → Writes lit ps i j p a l
  unfolding branches offered
  writes {lit} {p = p} {a = a} {l = l} f g h =
      let r = map-nth (offered m p.locals) (branches_of m p) g in
      let e = r.is in
      let t = offers-some p.locals r.source (subst (λ (x : offers.Branch Process). Offered lit x.guard l) e h) in
      record {
        branch = r.source;
        at = record { place = f; branch = r.at };
        guard = t.0;
        evaluates = t.1;
        offered = t.2;
        next = λ vs. ap (λ (x : offers.Branch Process). x.next vs) e;
      }
