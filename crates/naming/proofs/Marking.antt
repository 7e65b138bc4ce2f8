-- What marking the waits leaves: a branch is marked by its node, the branches of a sum one after the other, and the sums by their numbers. From what the nodes hold.
use mathlib.Core.Path.{◌≡◌, refl, sym, ap, subst, ◌∙◌}
use mathlib.Core.List.Memᴰ.{head}
use mathlib.Core.Bool.{Bool, true}
use mathlib.Core.List.{List, [], ◌∷◌, append-nil, Memᴰ as In}
use mathlib.Core.Option.{Option, none, some}
use Prim.Native.Nat.{ℕ, zero, suc, ◌+◌, ◌-◌, ◌≤◌, ◌<◌}
use native.Mathlib.Omega.{arith}
use lib.ListN.{length, get_or, set, drop, get_elem?, drop_of_length-le}
use Rattle.tree.specs.Node.{kind_of, token_of, left_of}
use Rattle.model.specs.Lists.{each}
use Rattle.model.specs.Resolved
use Rattle.model.proofs.Members.{each_in, got_in, got-some}
use Rattle.tables.specs.Settled as Settled
use Rattle.tables.proofs.Parts.{pair-above, pair-second}
use Rattle.eval.proofs.Offers.{prefix-parts}
use Rattle.waitnames.specs.Names.{wait_token, branch_waits, sum_waits, all_waits}
use Rattle.naming.specs.Marks.{marked, Within, Shown}
use Rattle.naming.proofs.Named.{in_left, in_right, marked-both}

-- ---- a branch

wait-is : (t : List ℕ) (k : ℕ) (a : Resolved.Action) → Settled.Action t a k → kind_of (get_or t k 0) ≡ 36 → wait_token a ≡ token_of (get_or t k 0) ∷ []
unfolding Settled.Action wait_token
wait-is t k (Resolved.wait n) h e = ap (λ (x : ℕ). x ∷ []) (sym h.index_is)
wait-is t k (Resolved.launch c v) h e = absurd (omega (arith, e, h.kind-is))
wait-is t k (Resolved.kill c v) h e = absurd (omega (arith, e, h.kind-is))
wait-is t k (Resolved.receive c q) h e = absurd (omega (arith, e, h.kind-is))
wait-is t k (Resolved.bind c q) h e = absurd (omega (arith, e, h.kind-is))
wait-is t k (Resolved.check c q) h e = absurd (omega (arith, e, h.kind-is))
wait-is t k (Resolved.hand_send c v) h e = absurd (omega (arith, e, h.kind-is))
wait-is t k (Resolved.hand_receive c q) h e = absurd (omega (arith, e, h.kind-is))
wait-is t k (Resolved.hand_bind c q) h e = absurd (omega (arith, e, h.kind-is))

no-wait : (t : List ℕ) (k : ℕ) (a : Resolved.Action) → Settled.Action t a k → (kind_of (get_or t k 0) ≡ 36 → ⊥) → wait_token a ≡ []
unfolding Settled.Action wait_token
no-wait t k (Resolved.wait n) h f = absurd (f h.kind-is)
no-wait t k (Resolved.launch c v) h f = refl
no-wait t k (Resolved.kill c v) h f = refl
no-wait t k (Resolved.receive c q) h f = refl
no-wait t k (Resolved.bind c q) h f = refl
no-wait t k (Resolved.check c q) h f = refl
no-wait t k (Resolved.hand_send c v) h f = refl
no-wait t k (Resolved.hand_receive c q) h f = refl
no-wait t k (Resolved.hand_bind c q) h f = refl

-- the branch behind its gate at k, and the node a of its action
module _ (t : List ℕ) (k a : ℕ) (is : a ≡ get_or t (left_of (get_or t k 0)) 0) (b : Resolved.Branch) (o : Settled.Offer t b.action b.rate b.next k) where
  waits_one : kind_of a ≡ 36 → branch_waits b ≡ token_of a ∷ []
  unfolding branch_waits
  waits_one e =
      wait-is t (left_of (get_or t k 0)) b.action (prefix-parts t k b.action b.rate b.next o).action (ap kind_of (sym is) ∙ e) ∙ ap (λ (x : ℕ). token_of x ∷ []) (sym is)

  pub token-fits : (n : ℕ) → Within n (branch_waits b) → kind_of a ≡ 36 → token_of a < n
  token-fits n h e = h (token_of a) (subst (In (token_of a)) (sym (waits_one e)) (head refl))

  pub marks-one : (l : List Bool) → kind_of a ≡ 36 → set l (token_of a) true ≡ marked l (branch_waits b)
  unfolding marked
  marks-one l e = ap (marked l) (sym (waits_one e))

  pub marks-none : (l : List Bool) → (kind_of a ≡ 36 → ⊥) → l ≡ marked l (branch_waits b)
  unfolding marked branch_waits
  marks-none l f = ap (marked l) (sym (no-wait t (left_of (get_or t k 0)) b.action (prefix-parts t k b.action b.rate b.next o).action (λ e. f (ap kind_of is ∙ e))))

-- ---- the branches of a sum

branch-kind : (t : List ℕ) (b : Resolved.Branch) (k : ℕ) → Settled.Branch t b k → kind_of (get_or t k 0) < 48
unfolding Settled.Branch Settled.Gated
branch-kind t b k h = go b.gate h
  where
    go : (g : Option Resolved.Cond) → Settled.Gated t g (Settled.Offer t b.action b.rate b.next) k → kind_of (get_or t k 0) < 48
    go none o = omega (arith, (prefix-parts t k b.action b.rate b.next o).kinds)
    go (some c) o = omega (arith, o.kind-is)

-- what stands at k: one branch, or one and more
record One (t : List ℕ) (k : ℕ) (bs : List Resolved.Branch) : Type 0 where
  branch : Resolved.Branch
  is : bs ≡ branch ∷ []
  at : Settled.Branch t branch k

record More (t : List ℕ) (k : ℕ) (bs : List Resolved.Branch) : Type 0 where
  branch : Resolved.Branch
  rest : List Resolved.Branch
  is : bs ≡ branch ∷ rest
  at : Settled.Branch t branch (left_of (get_or t k 0))
  after : Settled.Branches t rest (k - 1)
  above : 1 ≤ k

one-branch : (t : List ℕ) (k : ℕ) (bs : List Resolved.Branch) → Settled.Branches t bs k → (kind_of (get_or t k 0) ≡ 48 → ⊥) → One t k bs
unfolding Settled.Branches
one-branch t k [] h f = absurd h
one-branch t k (b ∷ []) h f = record { branch = b; is = refl; at = h }
one-branch t k (b ∷ c ∷ bs) h f = absurd (f h.kind-is)

more-branches : (t : List ℕ) (k : ℕ) (bs : List Resolved.Branch) → Settled.Branches t bs k → kind_of (get_or t k 0) ≡ 48 → More t k bs
unfolding Settled.Branches
more-branches t k [] h e = absurd h
more-branches t k (b ∷ []) h e = absurd (omega (arith, branch-kind t b k h, e))
more-branches t k (b ∷ c ∷ bs) h e = record { branch = b; rest = c ∷ bs; is = refl; at = h.holds-first; after = pair-second h; above = pair-above h }

-- of the branches bs those at k are left; l: the marks at first, l': now
pub record Left (t : List ℕ) (l l' : List Bool) (k : ℕ) (bs : List Resolved.Branch) : Type 0 where
  pub rest : List Resolved.Branch
  pub at : Settled.Branches t rest k
  pub marks : marked l (each branch_waits bs) ≡ marked l' (each branch_waits rest)
  pub fits : (n : ℕ) → Within n (each branch_waits bs) → Within n (each branch_waits rest)

pub left-start : (t : List ℕ) (l : List Bool) (k : ℕ) (bs : List Resolved.Branch) → Settled.Branches t bs k → Left t l l k bs
left-start t l k bs h = record { rest = bs; at = h; marks = refl; fits = λ n w. w }

module _ (t : List ℕ) (l l' : List Bool) (k kind : ℕ) (kind-is : kind ≡ kind_of (get_or t k 0)) (bs : List Resolved.Branch) (h : Left t l l' k bs) where
  abbrev Next : Type 0
  Next = kind ≡ 48

  next_of : Next → More t k h.rest
  next_of e = more-branches t k h.rest h.at (sym kind-is ∙ e)

  last_of : (Next → ⊥) → One t k h.rest
  last_of f = one-branch t k h.rest h.at (λ e. f (kind-is ∙ e))

  pub above-so : Next → 1 ≤ k
  above-so e = (next_of e).above

  pub next-needs : (left : ℕ) → left ≡ left_of (get_or t k 0) → Next → (n : ℕ) → Within n (each branch_waits bs) → (b : Resolved.Branch) × Settled.Branch t b left × Within n (branch_waits b)
  unfolding each
  next-needs left q e n w =
      let r = next_of e in
      (r.branch, subst (Settled.Branch t r.branch) (sym q) r.at, λ j i. h.fits n w j (subst (λ (x : List Resolved.Branch). In j (each branch_waits x)) (sym r.is) (in_left (branch_waits r.branch) (each branch_waits r.rest) i)))

  pub last-needs : (Next → ⊥) → (n : ℕ) → Within n (each branch_waits bs) → (b : Resolved.Branch) × Settled.Branch t b k × Within n (branch_waits b)
  unfolding each
  last-needs f n w =
      let r = last_of f in
      (r.branch, r.at, λ j i. h.fits n w j (subst (λ (x : List Resolved.Branch). In j (each branch_waits x)) (sym r.is) (in_left (branch_waits r.branch) [] i)))

  pub left-next : (left : ℕ) → left ≡ left_of (get_or t k 0) → Next → (l'' : List Bool) → ((b : Resolved.Branch) → Settled.Branch t b left → l'' ≡ marked l' (branch_waits b)) → Left t l l'' (k - 1) bs
  unfolding each
  left-next left q e l'' g =
      let r = next_of e in
      record {
        rest = r.rest;
        at = r.after;
        marks = h.marks ∙ ap (λ (x : List Resolved.Branch). marked l' (each branch_waits x)) r.is ∙ marked-both l' (branch_waits r.branch) (each branch_waits r.rest)
            ∙ ap (λ (x : List Bool). marked x (each branch_waits r.rest)) (sym (g r.branch (subst (Settled.Branch t r.branch) (sym q) r.at)));
        fits = λ n w j i. h.fits n w j (subst (λ (x : List Resolved.Branch). In j (each branch_waits x)) (sym r.is) (in_right (branch_waits r.branch) (each branch_waits r.rest) i));
      }

  pub left_end : (Next → ⊥) → (l'' : List Bool) → ((b : Resolved.Branch) → Settled.Branch t b k → l'' ≡ marked l' (branch_waits b)) → l'' ≡ marked l (each branch_waits bs)
  unfolding each
  left_end f l'' g =
      let r = last_of f in
      g r.branch r.at ∙ ap (marked l') (sym (append-nil (branch_waits r.branch))) ∙ ap (λ (x : List Resolved.Branch). marked l' (each branch_waits x)) (sym r.is) ∙ sym h.marks

-- ---- all sums

drop-some : {A : Type 0} (xs : List A) (n : ℕ) (x : A) → get_elem? xs n ≡ some x → drop n xs ≡ x ∷ drop (suc n) xs
drop-some [] zero x e = absurd (let z : ◌≡◌ {A = ℕ} 0 1 = cc in omega arith)
drop-some [] (suc n) x e = absurd (let z : ◌≡◌ {A = ℕ} 0 1 = cc in omega arith)
drop-some (y ∷ xs) zero x e = let d : y ≡ x = cc in ap (λ z. z ∷ xs) d
drop-some (y ∷ xs) (suc n) x e = drop-some xs n x e

module _ (t roots : List ℕ) (sums n : ℕ) (m : Resolved.Model) (h : Shown t roots sums m) where
  pub sum-in-roots : n < sums → n < length roots
  sum-in-roots l = omega (arith, l, h.represents.roots-fit)

  sum_of : n < sums → (s : Resolved.Sum) × (get_elem? m.sums n ≡ some s)
  sum_of l = got-some m.sums n (omega (arith, l, h.represents.sums-are))

  pub sum-needs : n < sums → (size : ℕ) → Within size (all_waits m) → (bs : List Resolved.Branch) × Settled.Branches t bs (get_or roots n 0) × Within size (each branch_waits bs)
  unfolding all_waits
  sum-needs l size w =
      let s = sum_of l in
      (s.0.branches, h.represents.branches n s.0 s.1, λ j i. w j (each_in sum_waits m.sums (got_in m.sums n s.1) (unfold sum_waits in i)))

  pub sums_next : n < sums → (l₀ l l' : List Bool) → marked l₀ (all_waits m) ≡ marked l (each sum_waits (drop n m.sums)) → ((bs : List Resolved.Branch) → Settled.Branches t bs (get_or roots n 0) → l' ≡ marked l (each branch_waits bs))
      → marked l₀ (all_waits m) ≡ marked l' (each sum_waits (drop (n + 1) m.sums))
  unfolding each sum_waits
  sums_next b l₀ l l' e g =
      let s = sum_of b in
      let q : suc n ≡ n + 1 = omega arith in
      e ∙ ap (λ (x : List Resolved.Sum). marked l (each sum_waits x)) (drop-some m.sums n s.0 s.1) ∙ marked-both l (each branch_waits s.0.branches) (each sum_waits (drop (suc n) m.sums))
      ∙ ap (λ (x : List Bool). marked x (each sum_waits (drop (suc n) m.sums))) (sym (g s.0.branches (h.represents.branches n s.0 s.1)))
      ∙ ap (λ (i : ℕ). marked l' (each sum_waits (drop i m.sums))) q

  pub sums-end : sums ≤ n → (l₀ l : List Bool) → marked l₀ (all_waits m) ≡ marked l (each sum_waits (drop n m.sums)) → l ≡ marked l₀ (all_waits m)
  unfolding each marked
  sums-end b l₀ l e =
      let d : drop n m.sums ≡ [] = drop_of_length-le m.sums {i = n} (omega (arith, b, h.represents.sums-are)) in
      sym (e ∙ ap (λ (x : List Resolved.Sum). marked l (each sum_waits x)) d)
