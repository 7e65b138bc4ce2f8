-- What a node says of the branches that stand there, by its kind, and their offers collected one after the other. By cases of the list.
use Prim.Native.Nat.{ℕ, suc, ◌+◌, ◌-◌, ◌≤◌, ◌<◌}
use mathlib.Core.Path.{◌≡◌, ◌∙◌}
use mathlib.Core.List.{List, [], ◌∷◌, ◌++◌, append_assoc}
use mathlib.Core.Option.{Option, none, some}
use native.Mathlib.Omega.{arith}
use native.Mathlib.Numerals.{add-one}
use lib.IntN.{ℤ}
use lib.ListN.{length, get_or, length-append}
use Rattle.tree.specs.Node.{kind_of, left_of}
use Rattle.model.specs.Resolved
use Rattle.model.specs.Limits.{branch_limit}
use Rattle.rules.specs.Offers as offers
use Rattle.tables.specs.Settled.{Gated, Offer, Branch, Branches}
use Rattle.tables.proofs.Parts.{pair-above, pair-second}
use Rattle.model.specs.Good.{Every, GoodBranch}
use Rattle.machine.specs.Evaluate.{eval_branch}
use Rattle.machine.specs.Offer.{is_none, missing_branch}
use Rattle.eval.specs.Held.{Held}
use Rattle.std.specs.Prelude.{Err, Ok}
use Rattle.offers.specs.declared.row.Row.{Row}
use Rattle.offers.specs.declared.Stop.{Stop}
use Rattle.offers.specs.Collect.{Filled}
use Rattle.offers.specs.Slots.{Slot, slot_of}
use Rattle.offers.specs.Walk.{guard_or, slots_from}
use Rattle.offers.specs.Collect as Collect
use Rattle.offers.specs.Collect.{Branched, Grows, CollectsOne, Collects}
use Rattle.offers.proofs.Numbered.{append-nil}
use Rattle.offers.proofs.Walk.{slot-one}

-- ---- one after the other
module _ (t : List ℕ) (ls : List ℤ) (i j n : ℕ) (rs : List Row) where
  grows_then : {n₁ n₂ : ℕ} (rs₁ rs₂ : List Row) (ys zs : List Slot) → Grows t ls i n rs rs₁ ys n₁ → Grows t ls i n₁ rs₁ rs₂ zs n₂
      → Grows t ls i n rs rs₂ (ys ++ zs) n₂
  grows_then rs₁ rs₂ ys zs p q =
      record {
        holds = λ L xs e l h.
            rw (← append_assoc xs ys zs) (q.holds L (xs ++ ys) e (omega (arith, length-append xs ys, p.rows)) (p.holds L xs e l h));
        rows = omega (arith, p.rows, q.rows, length-append ys zs);
      }

  -- the first branch lacks a value, or there is no row for it
  pub first-stops : (n' : ℕ) (rs' : List Row) (b : Resolved.Branch) (bs : List Resolved.Branch) (e : Stop)
      → CollectsOne t ls i j n rs n' rs' (eval_branch ls b) (Err e) → Collects t ls i j n rs n' rs' (b ∷ bs) (Err e)
  unfolding missing_branch is_none
  first-stops n' rs' b bs e (Collect.CollectsOne.lacks q) = Collect.Collects.lacks {q = j} (rw q)
  first-stops n' rs' b bs e (Collect.CollectsOne.full l) = Collect.Collects.full l

  -- it has, and the others follow
  pub first_then : (n₁ : ℕ) (rs₁ : List Row) (n₂ : ℕ) (rs₂ : List Row) (b : Resolved.Branch) (bs : List Resolved.Branch) (r : Filled)
      → CollectsOne t ls i j n rs n₁ rs₁ (eval_branch ls b) (Ok tt) → Collects t ls i (suc j) n₁ rs₁ n₂ rs₂ bs r → Collects t ls i j n rs n₂ rs₂ (b ∷ bs) r
  unfolding missing_branch slots_from
  first_then n₁ rs₁ n₂ rs₂ b bs r (Collect.CollectsOne.all e g) (Collect.Collects.lacks {q} f) = Collect.Collects.lacks {q = q} (rw e f)
  first_then n₁ rs₁ n₂ rs₂ b bs r (Collect.CollectsOne.all e g) (Collect.Collects.all f h) =
      Collect.Collects.all (rw e f) (grows_then rs₁ rs₂ (slot_of i j (guard_or (eval_branch ls b))) (slots_from ls i (suc j) bs) g h)
  first_then n₁ rs₁ n₂ rs₂ b bs r (Collect.CollectsOne.all e g) (Collect.Collects.full l) = Collect.Collects.full l

  -- it is the last
  pub last_one : (n' : ℕ) (rs' : List Row) (b : Resolved.Branch) (r : Filled)
      → CollectsOne t ls i j n rs n' rs' (eval_branch ls b) r → Collects t ls i j n rs n' rs' (b ∷ []) r
  unfolding missing_branch is_none slots_from
  last_one n' rs' b r (Collect.CollectsOne.lacks e) = Collect.Collects.lacks {q = j} (rw e)
  last_one n' rs' b r (Collect.CollectsOne.all e g) = Collect.Collects.all (rw e) (rw (append-nil (slot_of i j (guard_or (eval_branch ls b)))) g)
  last_one n' rs' b r (Collect.CollectsOne.full l) = Collect.Collects.full l

  pub one-row : {n' : ℕ} {rs' : List Row} {g : Option offers.Guard} → CollectsOne t ls i j n rs n' rs' g (Ok tt) → n' ≤ n + 1
  one-row {g = g} (Collect.CollectsOne.all e h) = omega (arith, h.rows, slot-one i j (guard_or g))

-- ---- by the node's kind
module _ (t : List ℕ) (k kind : ℕ) (is : kind ≡ kind_of (get_or t k 0)) where
  lone-kind : (b : Resolved.Branch) → Branch t b k → kind < 48
  unfolding Branch Gated Offer
  lone-kind b h = go b.gate b.next h
    where
      go : (g : Option Resolved.Cond) (ps : List Resolved.Part) → Gated t g (Offer t b.action b.rate ps) k → kind < 48
      go none [] h = omega (arith, h.offer.kind-is)
      go none (p ∷ ps) h = omega (arith, h.kind-is)
      go (some c) ps h = omega (arith, h.kind-is)

  -- the last branch
  module _ (not : kind ≡ 48 → ⊥) where
    pub lone-part : (n j : ℕ) → Branched t n j k → ((m : Resolved.Model) × Held (Branch t) (GoodBranch m n) k) × (j < 16)
    unfolding Branches Every
    lone-part n j s = go s.branches s.at s.fit s.few
      where
        go : (bs : List Resolved.Branch) → Branches t bs k → Every (GoodBranch s.model n) bs → j + length bs ≤ branch_limit → ((m : Resolved.Model) × Held (Branch t) (GoodBranch m n) k) × (j < 16)
        go [] a g f = absurd a
        go (b ∷ []) a g f = ((s.model, record { part = b; at = a; fit = g.0 }), omega arith)
        go (b ∷ c ∷ bs) a g f = absurd (not (is ∙ a.kind-is))

    pub lone-collects : (ls : List ℤ) (i j n : ℕ) (rs : List Row) (n' : ℕ) (rs' : List Row) (r : Filled)
        → ((b : Resolved.Branch) → Branch t b k → CollectsOne t ls i j n rs n' rs' (eval_branch ls b) r) → (bs : List Resolved.Branch) → Branches t bs k → Collects t ls i j n rs n' rs' bs r
    unfolding Branches
    lone-collects ls i j n rs n' rs' r f [] a = absurd a
    lone-collects ls i j n rs n' rs' r f (b ∷ []) a = last_one t ls i j n rs n' rs' b r (f b a)
    lone-collects ls i j n rs n' rs' r f (b ∷ c ∷ bs) a = absurd (not (is ∙ a.kind-is))

  -- a branch and those after it
  module _ (choice : kind ≡ 48) where
    pub more_parts : (n j : ℕ) → Branched t n j k → (1 ≤ k) × ((m : Resolved.Model) × Held (Branch t) (GoodBranch m n) (left_of (get_or t k 0))) × Branched t n (j + 1) (k - 1) × (j < 16)
    unfolding Branches Every
    more_parts n j s = go s.branches s.at s.fit s.few
      where
        go : (bs : List Resolved.Branch) → Branches t bs k → Every (GoodBranch s.model n) bs → j + length bs ≤ branch_limit
            → (1 ≤ k) × ((m : Resolved.Model) × Held (Branch t) (GoodBranch m n) (left_of (get_or t k 0))) × Branched t n (j + 1) (k - 1) × (j < 16)
        go [] a g f = absurd a
        go (b ∷ []) a g f = absurd (omega (arith, lone-kind b a))
        go (b ∷ c ∷ bs) a g f = (
          pair-above a,
          (s.model, record { part = b; at = a.holds-first; fit = g.0 }),
          record { model = s.model; branches = c ∷ bs; at = pair-second a; fit = g.1; few = omega arith },
          omega arith,
        )

    module _ (ls : List ℤ) (i j n : ℕ) (rs : List Row) where
      pub more-stops : (n' : ℕ) (rs' : List Row) (e : Stop)
          → ((b : Resolved.Branch) → Branch t b (left_of (get_or t k 0)) → CollectsOne t ls i j n rs n' rs' (eval_branch ls b) (Err e))
          → (bs : List Resolved.Branch) → Branches t bs k → Collects t ls i j n rs n' rs' bs (Err e)
      unfolding Branches
      more-stops n' rs' e f [] a = absurd a
      more-stops n' rs' e f (b ∷ []) a = absurd (omega (arith, lone-kind b a))
      more-stops n' rs' e f (b ∷ c ∷ bs) a = first-stops t ls i j n rs n' rs' b (c ∷ bs) e (f b a.holds-first)

      pub more-collects : (n₁ : ℕ) (rs₁ : List Row) (n₂ : ℕ) (rs₂ : List Row) (r : Filled)
          → ((b : Resolved.Branch) → Branch t b (left_of (get_or t k 0)) → CollectsOne t ls i j n rs n₁ rs₁ (eval_branch ls b) (Ok tt))
          → ((bs : List Resolved.Branch) → Branches t bs (k - 1) → Collects t ls i (j + 1) n₁ rs₁ n₂ rs₂ bs r)
          → (bs : List Resolved.Branch) → Branches t bs k → Collects t ls i j n rs n₂ rs₂ bs r
      unfolding Branches
      more-collects n₁ rs₁ n₂ rs₂ r f g [] a = absurd a
      more-collects n₁ rs₁ n₂ rs₂ r f g (b ∷ []) a = absurd (omega (arith, lone-kind b a))
      more-collects n₁ rs₁ n₂ rs₂ r f g (b ∷ c ∷ bs) a =
          first_then t ls i j n rs n₁ rs₁ n₂ rs₂ b (c ∷ bs) r (f b a.holds-first) (rw (add-one j) at (g (c ∷ bs) (pair-second a)))
