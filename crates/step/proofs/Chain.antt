-- Where a branch of a sum stands: the root itself, left of it, or among those before it; and the token of a wait. By cases of what stands.
use mathlib.Core.Path.{◌≡◌, refl, subst, ◌∙◌}
use mathlib.Core.List.{List, [], ◌∷◌}
use mathlib.Core.Option.{Option, none, some}
use Prim.Native.Nat.{ℕ, zero, suc, ◌-◌, ◌≤◌}
use native.Mathlib.Omega.{arith}
use lib.ListN.{get_or}
use Rattle.tree.specs.Node.{kind_of, token_of, left_of}
use Rattle.model.specs.Resolved
use Rattle.rules.specs.Rules.{Nth, first, later}
use Rattle.tables.specs.Settled as Settled
use Rattle.eval.proofs.Offers.{prefix-parts}
use Rattle.step.specs.Enter.{Chain}

-- r is the root of branch j of the branches at k
abbrev pub RootOf : List ℕ → ℕ → ℕ → ℕ → Type 0
RootOf t k j r = (bs : List Resolved.Branch) (b : Resolved.Branch) → Settled.Branches t bs k → Nth bs j b → Settled.Branch t b r

module _ (t : List ℕ) (k kind : ℕ) (is : kind ≡ kind_of (get_or t k 0)) where
  no-choice : (b : Resolved.Branch) → Settled.Branch t b k → kind ≡ 48 → ⊥
  unfolding Settled.Branch Settled.Gated Settled.Offer
  no-choice b h e = gated b.gate h
    where
      open' : (ps : List Resolved.Part) → Settled.Offer t b.action b.rate ps k → ⊥
      open' [] o = omega (arith, o.offer.kind-is)
      open' (p ∷ ps) o = omega (arith, o.kind-is)

      gated : (g : Option Resolved.Cond) → Settled.Gated t g (Settled.Offer t b.action b.rate b.next) k → ⊥
      gated none o = open' b.next o
      gated (some c) o = omega (arith, o.kind-is)

  pub last-root : (kind ≡ 48 → ⊥) → (j : ℕ) → RootOf t k j k
  unfolding Settled.Branches
  last-root h j [] b a n = absurd a
  last-root h j (c ∷ []) b a first = a
  last-root h j (c ∷ []) b a (later n) = elim n [ ]
  last-root h j (c ∷ d ∷ bs) b a n = absurd (h (is ∙ a.kind-is))

  pub first-root : kind ≡ 48 → RootOf t k 0 (left_of (get_or t k 0))
  unfolding Settled.Branches
  first-root h [] b a n = absurd a
  first-root h (c ∷ []) b a first = absurd (no-choice c a h)
  first-root h (c ∷ d ∷ bs) b a first = a.holds-first

  -- the branches after the first
  rest : {A : Type 0} (j : ℕ) (x : A) (xs : List A) (y : A) → Nth (x ∷ xs) (suc j) y → Nth xs j y
  rest j x xs y (later n) = n

  pub later-chain : kind ≡ 48 → (j : ℕ) → Chain t k (suc j) → (1 ≤ k) × Chain t (k - 1) j
  unfolding Settled.Branches
  later-chain h j c = go c.branches c.at c.nth
    where
      go : (bs : List Resolved.Branch) → Settled.Branches t bs k → Nth bs (suc j) c.branch → (1 ≤ k) × Chain t (k - 1) j
      go [] a n = absurd a
      go (d ∷ []) a n = absurd (no-choice d a h)
      go (d ∷ e ∷ bs) a n =
          let q : a.right ≡ k - 1 = omega (arith, a.above) in
          (omega (arith, a.above), record { branches = e ∷ bs; branch = c.branch; at = subst (Settled.Branches t (e ∷ bs)) q a.holds-second; nth = rest j d (e ∷ bs) c.branch n })

  pub later-root : kind ≡ 48 → (j r : ℕ) → RootOf t (k - 1) j r → RootOf t k (suc j) r
  unfolding Settled.Branches
  later-root h j r f [] b a n = absurd a
  later-root h j r f (d ∷ []) b a n = absurd (no-choice d a h)
  later-root h j r f (d ∷ e ∷ bs) b a n =
      let q : a.right ≡ k - 1 = omega (arith, a.above) in
      f (e ∷ bs) b (subst (Settled.Branches t (e ∷ bs)) q a.holds-second) (rest j d (e ∷ bs) b n)

  -- the same of a place that is not 0
  pub later-chain' : kind ≡ 48 → (j : ℕ) → (j ≡ 0 → ⊥) → Chain t k j → (1 ≤ k) × Chain t (k - 1) (j - 1)
  later-chain' h zero n c = absurd (n refl)
  later-chain' h (suc j) n c = let e : j ≡ suc j - 1 = omega arith in subst (λ (n : ℕ). (1 ≤ k) × Chain t (k - 1) n) e (later-chain h j c)

  pub later-root' : kind ≡ 48 → (j r : ℕ) → (j ≡ 0 → ⊥) → RootOf t (k - 1) (j - 1) r → RootOf t k j r
  later-root' h zero r n f = absurd (n refl)
  later-root' h (suc j) r n f = let e : suc j - 1 ≡ j = omega arith in later-root h j r (subst (λ (n : ℕ). RootOf t (k - 1) n r) e f)

-- the token of the wait that a branch behind its gate is
pub token-of-wait : (t : List ℕ) (k n : ℕ) (b : Resolved.Branch) → Settled.Offer t b.action b.rate b.next k → b.action ≡ Resolved.wait n → token_of (get_or t (left_of (get_or t k 0)) 0) ≡ n
unfolding Settled.Action
token-of-wait t k n b o e = (subst (λ (a : Resolved.Action). Settled.Action t a (left_of (get_or t k 0))) e (prefix-parts t k b.action b.rate b.next o).action).index_is
