-- No key stands twice in a listing, and the rules give a key one weight: since the keys ascend strictly.
use Prim.Native.Nat.{ℕ, suc}
use mathlib.Core.Path.{◌≡◌, refl, sym, ap, ◌∙◌}
use mathlib.Core.List.{List, Memᴰ as In}
use Rattle.value.proofs.Kit.{true-not-false}
use Rattle.rules.specs.Offers.{Branch, State}
use Rattle.rules.specs.Order.{less, Ascending}
use Rattle.rules.specs.Rules.{Nth, first, later, Key, Derivable}
use Rattle.rules.specs.Listing.{Entry, key_of, weight_of, entries, rank, Earlier}
use Rattle.rules.proofs.Less.{less-irreflexive}
use Rattle.rules.proofs.Listed.{listed}
use Rattle.rules.proofs.Ascends.{ascending}

-- ---- places and members
pub nth_in : {A : Type 0} {xs : List A} {n : ℕ} {x : A} → Nth xs n x → In x xs
nth_in first = In.head refl
nth_in (later h) = In.tail (nth_in h)

pub in-nth : {A : Type 0} {x : A} {xs : List A} → In x xs → (n : ℕ) × Nth xs n x
in-nth (In.head e) = (0, rw e first)
in-nth (In.tail h) = let r = in-nth h in (suc r.0, later r.1)

pub same-nth : {A : Type 0} {xs : List A} {n : ℕ} {x y : A} → Nth xs n x → Nth xs n y → x ≡ y
same-nth first first = refl
same-nth (later g) (later h) = same-nth g h

-- ---- keys
strict : (d e : Entry) → Earlier d e → key_of d ≡ key_of e → ⊥
strict d e l q = true-not-false (sym l ∙ ap (λ (k : Key). less (rank k) (rank (key_of e))) q ∙ less-irreflexive (rank (key_of e)))

once-in : {xs : List Entry} {m n : ℕ} {d e : Entry} → Ascending Earlier xs → Nth xs m d → Nth xs n e → key_of d ≡ key_of e → m ≡ n
unfolding Ascending
once-in a first first q = refl
once-in {d = d} {e = e} a first (later h) q = absurd (strict d e (a.0 e (nth_in h)) q)
once-in {d = d} {e = e} a (later h) first q = absurd (strict e d (a.0 d (nth_in h)) (sym q))
once-in a (later g) (later h) q = ap suc (once-in a.1 g h q)

module _ {Proc : Type 0} (branches : Proc → List (Branch Proc)) (s : State Proc) where
  -- no key stands twice
  pub once : {m n : ℕ} {d e : Entry} → Nth (entries branches s) m d → Nth (entries branches s) n e → key_of d ≡ key_of e → m ≡ n
  once g h q = once-in (ascending branches s) g h q

  -- the rules give a key one weight
  pub one-weight : (k : Key) (v w : ℕ) → Derivable branches s k v → Derivable branches s k w → v ≡ w
  unfolding key_of weight_of
  one-weight k v w d e =
      let g = in-nth ((listed branches s k v).1 d) in
      let h = in-nth ((listed branches s k w).1 e) in
      let n : g.0 ≡ h.0 = once g.1 h.1 refl in
      ap weight_of (same-nth (rw n at g.1) h.1)
