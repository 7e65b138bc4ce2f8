-- What stands at a node of a definition's body, by the node's kind, and the faults of it by those of its parts. From the forms of a tree.
use mathlib.Core.Path.{◌≡◌, refl, sym, ap, ◌∙◌}
use mathlib.Core.List.{List, [], ◌∷◌, ◌++◌, append_assoc}
use mathlib.Core.Logic.{◌⊎◌, inl, inr, ⊎_elim}
use Prim.Native.Nat.{ℕ, ◌+◌, ◌-◌, ◌≤◌, ◌<◌}
use native.Mathlib.Omega.{arith}
use mathlib.Core.Bool.{Bool, true, false}
use borrow.Author.Tests.{eqb-true, eqb-false}
use lib.Dec.{eqb}
use lib.ListN.{get_or}
use Rattle.grammar.specs.Syntax
use Rattle.tree.specs.Node.{token_of, left_of, third_of}
use Rattle.tree.specs.Table
use Rattle.tree.specs.Table.{Two, Three}
use Rattle.tree.proofs.Cells.{node-kind, node-token, node-left, node-third}
use Rattle.tree.proofs.Interval.{kind_at}
use Rattle.tree.proofs.Holds.{branch-interval, offer-interval, branches-interval, sum-interval, cont-interval, conts-interval, sums-interval, rate-interval}
use Rattle.model.specs.Lists.{each, least}
use Rattle.model.specs.Sites.{Site, Sited, branch, call, cond_sites, gate_sites, action_sites, rate_sites, bindings, count_args, args_sites, within, branch_sites, next_sites, branches_sites, sum_sites, cont_sites, conts_sites, sums_sites}
use Rattle.names.specs.Faults.{earlier_of}
use Rattle.names.specs.Walks.{Part, choices, items, sums, Holds, part_sites}
use Rattle.names.proofs.Earliest.{nothing_right, least-append, least-middle}

-- ---- what stands at a node
module _ (t : List ℕ) where
  abbrev pub left_at : ℕ → ℕ
  left_at k = left_of (get_or t k 0)

  abbrev pub third_at : ℕ → ℕ
  third_at k = third_of (get_or t k 0)

  abbrev pub token_at : ℕ → ℕ
  token_at k = token_of (get_or t k 0)

  -- the two parts of a node, by its fields
  pub two-parts : {κ token third : ℕ} {P Q : ℕ → ℕ → Type 0} {lo k : ℕ} → κ < 256 → Two t κ token third P Q lo k → P lo (left_at k) × Q (left_at k + 1) (k - 1) × (0 < k)
  two-parts {P = P} {Q = Q} {lo = lo} {k = k} l h =
      let e = node-left h.node l in
      let u : k - 1 ≡ h.right = omega (arith, h.above) in
      (rw e h.holds-first, rw (e, u) h.holds-second, omega (arith, h.above))

  -- two parts
  pub record Split (p : Part) (from root : ℕ) : Type 0 where
    pub first : Part
    pub second : Part
    pub holds-first : Holds t first from (left_at root)
    pub holds-second : Holds t second (left_at root + 1) (root - 1)
    pub sites : (w : ℕ → List ℕ) (sc : List ℕ) (i : ℕ) → part_sites w sc i p ≡ part_sites w sc i first ++ part_sites w sc (i + 1) second
    pub below : left_at root + 1 < root

  -- by the field that was read
  pub split_at : (p : Part) (from root : ℕ) (s : Split p from root) (l : ℕ) → l ≡ left_at root → Holds t s.first from l × Holds t s.second (l + 1) (root - 1)
  split_at p from root s l e = (rw e s.holds-first, rw e s.holds-second)

  -- kinds of nodes with two parts
  abbrev pub TwoKinds : ℕ → Type 0
  TwoKinds κ = (48 ≤ κ) × (49 ≤ κ → 54 ≤ κ)

  pub two-first : (κ : ℕ) → κ ≡ 48 → TwoKinds κ
  two-first κ e = (omega arith, λ l. omega arith)

  pub two-last : (κ : ℕ) → 53 ≤ κ → ((κ ≡ 49) ⊎ (κ ≡ 53) → ⊥) → TwoKinds κ
  two-last κ l n = (omega arith, λ m. by (eqb κ 53) refl)
    where
      by : (b : Bool) → eqb κ 53 ≡ b → 54 ≤ κ
      by true e = absurd (n (inr (eqb-true κ 53 e)))
      by false e = let q = eqb-false κ 53 e in omega arith

  pub split-of : (p : Part) (from root : ℕ) → TwoKinds (kind_at t root) → Holds t p from root → Split p from root
  unfolding Holds part_sites Table.Branches Table.Conts Table.Sums branches_sites conts_sites sums_sites
  split-of (choices (Syntax.last_branch b)) from root κ h = absurd (omega (arith, (branch-interval b).to h, κ.0))
  split-of (choices (Syntax.next_branch b r)) from root κ h =
      let q = two-parts (omega arith) h in
      record { first = choices (Syntax.last_branch b); second = choices r; holds-first = q.0; holds-second = q.1; sites = λ w sc i. refl; below = omega (arith, (branches-interval r).low q.1, q.2) }
  split-of (items (Syntax.last_cont c)) from root κ h =
      let k = κ.1 ((cont-interval c).from h) in
      absurd (omega (arith, (cont-interval c).to h))
  split-of (items (Syntax.next_cont c r)) from root κ h =
      let q = two-parts (omega arith) h in
      record { first = items (Syntax.last_cont c); second = items r; holds-first = q.0; holds-second = q.1; sites = λ w sc i. refl; below = omega (arith, (conts-interval r).low q.1, q.2) }
  split-of (sums (Syntax.last_sum s)) from root κ h =
      let k = κ.1 ((sum-interval s).from h) in
      absurd (omega (arith, (sum-interval s).to h))
  split-of (sums (Syntax.next_sum s r)) from root κ h =
      let q = two-parts (omega arith) h in
      record { first = sums (Syntax.last_sum s); second = sums r; holds-first = q.0; holds-second = q.1; sites = λ w sc i. refl; below = omega (arith, (sums-interval r).low q.1, q.2) }

  -- one part
  pub record Inner (p : Part) (from root : ℕ) : Type 0 where
    pub part : Part
    pub holds : Holds t part from (root - 1)
    pub sites : (w : ℕ → List ℕ) (sc : List ℕ) (i : ℕ) → part_sites w sc i p ≡ part_sites w sc 0 part
    pub above : 0 < root

  one-kinds : (κ : ℕ) → (κ ≡ 49) ⊎ (κ ≡ 53) → (49 ≤ κ) × (κ ≤ 53) × (50 ≤ κ → 53 ≤ κ)
  one-kinds κ = ⊎_elim (λ e. (omega arith, omega arith, λ l. omega arith)) (λ e. (omega arith, omega arith, λ l. omega arith))

  in_sum : (n : ℕ) (b : Syntax.Branches) (from root : ℕ) → Table.Sum t (Syntax.sum n b) from root → Table.Branches t b from (root - 1) × (0 < root)
  unfolding Table.Sum
  in_sum n b from root h = let u : root - 1 ≡ h.root = omega (arith, h.above) in (rw u h.holds, omega (arith, h.above))

  pub inner_of : (p : Part) (from root : ℕ) → (kind_at t root ≡ 49) ⊎ (kind_at t root ≡ 53) → Holds t p from root → Inner p from root
  unfolding Holds part_sites Table.Cont Table.Conts Table.Sums sum_sites cont_sites conts_sites sums_sites
  inner_of (choices b) from root κ h = absurd (omega (arith, (branches-interval b).to h, (one-kinds (kind_at t root) κ).0))
  inner_of (items (Syntax.last_cont (Syntax.proceed (Syntax.sum n b)))) from root κ h =
      let q = in_sum n b from root h in
      record { part = choices b; holds = q.0; sites = λ w sc i. refl; above = q.1 }
  inner_of (items (Syntax.last_cont (Syntax.call n Syntax.no_args))) from root κ h =
      absurd (let e = node-kind h.node (omega arith) in let l = (one-kinds (kind_at t root) κ).2 (omega arith) in omega arith)
  inner_of (items (Syntax.last_cont (Syntax.call n (Syntax.args r)))) from root κ h =
      absurd (let e = node-kind h.node (omega arith) in let l = (one-kinds (kind_at t root) κ).2 (omega arith) in omega arith)
  inner_of (items (Syntax.last_cont (Syntax.group n c))) from root κ h =
      let u : root - 1 ≡ h.root = omega (arith, h.above) in
      record { part = items c; holds = rw u h.holds; sites = λ w sc i. refl; above = omega (arith, h.above) }
  inner_of (items (Syntax.next_cont c r)) from root κ h = absurd (omega (arith, node-kind h.node (omega arith), (one-kinds (kind_at t root) κ).1))
  inner_of (sums (Syntax.last_sum (Syntax.sum n b))) from root κ h =
      let q = in_sum n b from root h in
      record { part = choices b; holds = q.0; sites = λ w sc i. refl; above = q.1 }
  inner_of (sums (Syntax.next_sum s r)) from root κ h = absurd (omega (arith, node-kind h.node (omega arith), (one-kinds (kind_at t root) κ).1))

  -- a branch with a gate; the part is the branch without it
  pub record Gated (p : Part) (from root : ℕ) : Type 0 where
    pub first : ℕ
    pub gate : Syntax.Cond
    pub action : Syntax.Action
    pub rate : Syntax.Rate
    pub next : Syntax.Next
    pub is : p ≡ choices (Syntax.last_branch (Syntax.branch first (Syntax.gate gate) action rate next))
    pub holds-gate : Table.Cond t gate from (left_at root)
    pub holds : Holds t (choices (Syntax.last_branch (Syntax.branch first Syntax.no_gate action rate next))) (left_at root + 1) (root - 1)
    pub below : left_at root + 1 < root

  -- a branch without one and without continuation, and one with a continuation
  pub record Stopped (p : Part) (from root : ℕ) : Type 0 where
    pub action : Syntax.Action
    pub rate : Syntax.Rate
    pub is : p ≡ choices (Syntax.last_branch (Syntax.branch (token_at root) Syntax.no_gate action rate Syntax.stop))
    pub holds-action : Table.Action t action from (left_at root)
    pub holds-rate : Table.Rate t rate (left_at root + 1) (root - 1)
    pub below : left_at root + 1 < root

  pub record Dotted (p : Part) (from root : ℕ) : Type 0 where
    pub action : Syntax.Action
    pub rate : Syntax.Rate
    pub cont : Syntax.Cont
    pub is : p ≡ choices (Syntax.last_branch (Syntax.branch (token_at root) Syntax.no_gate action rate (Syntax.dot cont)))
    pub holds-action : Table.Action t action from (left_at root)
    pub holds-rate : Table.Rate t rate (left_at root + 1) (third_at root)
    pub holds : Holds t (items (Syntax.last_cont cont)) (third_at root + 1) (root - 1)
    pub below : (left_at root < third_at root) × (third_at root + 1 < root)

  pub gated-of : (p : Part) (from root : ℕ) → kind_at t root ≡ 47 → Holds t p from root → Gated p from root
  unfolding Holds Table.Branch Table.Branches
  gated-of (choices (Syntax.last_branch (Syntax.branch f Syntax.no_gate a r n))) from root κ h = absurd (omega (arith, (offer-interval f a r n).to h))
  gated-of (choices (Syntax.last_branch (Syntax.branch f (Syntax.gate c) a r n))) from root κ h =
      let q = two-parts (omega arith) h in
      record { first = f; gate = c; action = a; rate = r; next = n; is = refl; holds-gate = q.0; holds = q.1; below = omega (arith, (offer-interval f a r n).low q.1, q.2) }
  gated-of (choices (Syntax.next_branch b r)) from root κ h = absurd (omega (arith, node-kind h.node (omega arith)))
  gated-of (items c) from root κ h = absurd (omega (arith, (conts-interval c).from h))
  gated-of (sums s) from root κ h = absurd (omega (arith, (sums-interval s).from h))

  pub stopped-of : (p : Part) (from root : ℕ) → kind_at t root ≡ 45 → Holds t p from root → Stopped p from root
  unfolding Holds Table.Branch Table.Branches Table.Offer
  stopped-of (choices (Syntax.last_branch (Syntax.branch f Syntax.no_gate a r Syntax.stop))) from root κ h =
      let q = two-parts (omega arith) h in
      let e = node-token h.node (omega arith) in
      record { action = a; rate = r; is = rw e; holds-action = q.0; holds-rate = q.1; below = omega (arith, (rate-interval r).low q.1, q.2) }
  stopped-of (choices (Syntax.last_branch (Syntax.branch f Syntax.no_gate a r (Syntax.dot c)))) from root κ h = absurd (omega (arith, node-kind h.node (omega arith)))
  stopped-of (choices (Syntax.last_branch (Syntax.branch f (Syntax.gate c) a r n))) from root κ h = absurd (omega (arith, node-kind h.node (omega arith)))
  stopped-of (choices (Syntax.next_branch b r)) from root κ h = absurd (omega (arith, node-kind h.node (omega arith)))
  stopped-of (items c) from root κ h = absurd (omega (arith, (conts-interval c).from h))
  stopped-of (sums s) from root κ h = absurd (omega (arith, (sums-interval s).from h))

  pub dotted-of : (p : Part) (from root : ℕ) → kind_at t root ≡ 46 → Holds t p from root → Dotted p from root
  unfolding Holds Table.Branch Table.Branches Table.Offer Table.Conts
  dotted-of (choices (Syntax.last_branch (Syntax.branch f Syntax.no_gate a r Syntax.stop))) from root κ h = absurd (omega (arith, node-kind h.node (omega arith)))
  dotted-of (choices (Syntax.last_branch (Syntax.branch f Syntax.no_gate a r (Syntax.dot c)))) from root κ h =
      let e = node-token h.node (omega arith) in
      let l = node-left h.node (omega arith) in
      let m = node-third h.node (omega arith) in
      let u : root - 1 ≡ h.right = omega (arith, h.above) in
      record {
        action = a;
        rate = r;
        cont = c;
        is = rw e;
        holds-action = rw l h.holds-first;
        holds-rate = rw (l, m) h.holds-second;
        holds = rw (m, u) h.holds-third;
        below = (omega (arith, l, m, (rate-interval r).low h.holds-second), omega (arith, m, h.above, (cont-interval c).low h.holds-third));
      }
  dotted-of (choices (Syntax.last_branch (Syntax.branch f (Syntax.gate c) a r n))) from root κ h = absurd (omega (arith, node-kind h.node (omega arith)))
  dotted-of (choices (Syntax.next_branch b r)) from root κ h = absurd (omega (arith, node-kind h.node (omega arith)))
  dotted-of (items c) from root κ h = absurd (omega (arith, (conts-interval c).from h))
  dotted-of (sums s) from root κ h = absurd (omega (arith, (sums-interval s).from h))

  -- a call
  pub record Called (p : Part) (from root : ℕ) : Type 0 where
    pub name : ℕ
    pub args : Syntax.Args
    pub is : p ≡ items (Syntax.last_cont (Syntax.call name args))
    pub holds : Table.Cont t (Syntax.call name args) from root

  pub called_of : (p : Part) (from root : ℕ) → (kind_at t root ≡ 48 → ⊥) → (54 ≤ kind_at t root → 56 ≤ kind_at t root) → ((kind_at t root ≡ 49) ⊎ (kind_at t root ≡ 53) → ⊥) → (kind_at t root ≡ 47 → ⊥) → (kind_at t root ≡ 45 → ⊥) → (kind_at t root ≡ 46 → ⊥) → Holds t p from root → Called p from root
  unfolding Holds Table.Branch Table.Branches Table.Offer Table.Sum Table.Cont Table.Conts Table.Sums
  called_of (choices (Syntax.last_branch (Syntax.branch f Syntax.no_gate a r Syntax.stop))) from root n₂ n₃ n₁ g s d h = absurd (s (node-kind h.node (omega arith)))
  called_of (choices (Syntax.last_branch (Syntax.branch f Syntax.no_gate a r (Syntax.dot c)))) from root n₂ n₃ n₁ g s d h = absurd (d (node-kind h.node (omega arith)))
  called_of (choices (Syntax.last_branch (Syntax.branch f (Syntax.gate c) a r n))) from root n₂ n₃ n₁ g s d h = absurd (g (node-kind h.node (omega arith)))
  called_of (choices (Syntax.next_branch b r)) from root n₂ n₃ n₁ g s d h = absurd (n₂ (node-kind h.node (omega arith)))
  called_of (items (Syntax.last_cont (Syntax.proceed (Syntax.sum n b)))) from root n₂ n₃ n₁ g s d h = absurd (n₁ (inl (node-kind h.node (omega arith))))
  called_of (items (Syntax.last_cont (Syntax.call n a))) from root n₂ n₃ n₁ g s d h = record { name = n; args = a; is = refl; holds = h }
  called_of (items (Syntax.last_cont (Syntax.group n c))) from root n₂ n₃ n₁ g s d h = absurd (n₁ (inr (node-kind h.node (omega arith))))
  called_of (items (Syntax.next_cont c r)) from root n₂ n₃ n₁ g s d h = absurd (let e = node-kind h.node (omega arith) in let l = n₃ (omega arith) in omega arith)
  called_of (sums (Syntax.last_sum (Syntax.sum n b))) from root n₂ n₃ n₁ g s d h = absurd (n₁ (inl (node-kind h.node (omega arith))))
  called_of (sums (Syntax.next_sum z r)) from root n₂ n₃ n₁ g s d h = absurd (let e = node-kind h.node (omega arith) in let l = n₃ (omega arith) in omega arith)

-- ---- what f gives at the sites, by parts
module _ (f : List ℕ → Site → List ℕ) where
  abbrev pub over : List Sited → List ℕ
  over xs = each (λ s. f s.scope s.site) xs

  pub over-append : (xs ys : List Sited) → over (xs ++ ys) ≡ over xs ++ over ys
  unfolding each
  over-append [] ys = refl
  over-append (x ∷ xs) ys = ap (λ (l : List ℕ). f x.scope x.site ++ l) (over-append xs ys) ∙ sym (append_assoc (f x.scope x.site) (over xs) (over ys))

  pub over-within : (sc : List ℕ) (xs : List Site) → over (within sc xs) ≡ each (f sc) xs
  unfolding each within
  over-within sc [] = refl
  over-within sc (x ∷ xs) = ap (λ (l : List ℕ). f sc x ++ l) (over-within sc xs)

  pub least-over : (xs ys : List Sited) → least (over (xs ++ ys)) ≡ earlier_of (least (over xs)) (least (over ys))
  least-over xs ys = ap least (over-append xs ys) ∙ least-append (over xs) (over ys)

  -- a branch without gate: its own sites, then those of what follows
  pub over-branch : (w : ℕ → List ℕ) (sc : List ℕ) (i k : ℕ) (a : Syntax.Action) (r : Syntax.Rate) (n : Syntax.Next) → least (over (branch_sites w sc i (Syntax.branch k Syntax.no_gate a r n))) ≡ earlier_of (least (each (f sc) (branch i k ∷ action_sites w a ++ rate_sites r))) (least (over (next_sites w (sc ++ bindings a) n)))
  unfolding branch_sites gate_sites
  over-branch w sc i k a r n =
      least-over (within sc (branch i k ∷ action_sites w a ++ rate_sites r)) (next_sites w (sc ++ bindings a) n)
      ∙ ap (λ (l : List ℕ). earlier_of (least l) (least (over (next_sites w (sc ++ bindings a) n)))) (over-within sc (branch i k ∷ action_sites w a ++ rate_sites r))

  -- two parts, one part
  pub over-split : (t : List ℕ) (w : ℕ → List ℕ) (sc : List ℕ) (i : ℕ) (p : Part) (from root : ℕ) (s : Split t p from root) → least (over (part_sites w sc i p)) ≡ earlier_of (least (over (part_sites w sc i s.first))) (least (over (part_sites w sc (i + 1) s.second)))
  over-split t w sc i p from root s = ap (λ (xs : List Sited). least (over xs)) (s.sites w sc i) ∙ least-over (part_sites w sc i s.first) (part_sites w sc (i + 1) s.second)

  pub over-inner : (t : List ℕ) (w : ℕ → List ℕ) (sc : List ℕ) (i : ℕ) (p : Part) (from root : ℕ) (s : Inner t p from root) → least (over (part_sites w sc i p)) ≡ least (over (part_sites w sc 0 s.part))
  over-inner t w sc i p from root s = ap (λ (xs : List Sited). least (over xs)) (s.sites w sc i)

  -- a gate, and the branch without it
  gate-first : (a b c d : List ℕ) → least ((a ++ (b ++ c)) ++ d) ≡ earlier_of (least b) (least ((a ++ c) ++ d))
  gate-first a b c d =
      ap least (ap (λ (l : List ℕ). l ++ d) (sym (append_assoc a b c)) ∙ append_assoc (a ++ b) c d)
      ∙ least-middle a b (c ++ d)
      ∙ ap (λ (l : List ℕ). earlier_of (least b) (least l)) (sym (append_assoc a c d))

  each_two : (sc : List ℕ) (xs ys : List Site) → each (f sc) (xs ++ ys) ≡ each (f sc) xs ++ each (f sc) ys
  unfolding each
  each_two sc [] ys = refl
  each_two sc (x ∷ xs) ys = ap (λ (l : List ℕ). f sc x ++ l) (each_two sc xs ys) ∙ sym (append_assoc (f sc x) (each (f sc) xs) (each (f sc) ys))

  pub over-gated : (t : List ℕ) (w : ℕ → List ℕ) (sc : List ℕ) (i : ℕ) (p : Part) (from root : ℕ) (s : Gated t p from root) → least (over (part_sites w sc i p)) ≡ earlier_of (least (each (f sc) (cond_sites s.gate))) (least (over (part_sites w sc i (choices (Syntax.last_branch (Syntax.branch s.first Syntax.no_gate s.action s.rate s.next))))))
  unfolding part_sites branches_sites branch_sites gate_sites each
  over-gated t w sc i p from root s =
      let k = s.first in
      let g = cond_sites s.gate in
      let a = action_sites w s.action in
      let r = rate_sites s.rate in
      let n = next_sites w (sc ++ bindings s.action) s.next in
      let whole : over (within sc (branch i k ∷ g ++ a ++ r) ++ n) ≡ (f sc (branch i k) ++ (each (f sc) g ++ each (f sc) (a ++ r))) ++ over n = over-append (within sc (branch i k ∷ g ++ a ++ r)) n ∙ ap (λ (l : List ℕ). l ++ over n) (over-within sc (branch i k ∷ g ++ a ++ r) ∙ ap (λ (l : List ℕ). f sc (branch i k) ++ l) (ap (each (f sc)) (append_assoc g a r) ∙ each_two sc g (a ++ r))) in
      let rest : over (within sc (branch i k ∷ a ++ r) ++ n) ≡ (f sc (branch i k) ++ each (f sc) (a ++ r)) ++ over n = over-append (within sc (branch i k ∷ a ++ r)) n ∙ ap (λ (l : List ℕ). l ++ over n) (over-within sc (branch i k ∷ a ++ r)) in
      ap (λ (q : Part). least (over (part_sites w sc i q))) s.is
      ∙ ap least whole
      ∙ gate-first (f sc (branch i k)) (each (f sc) g) (each (f sc) (a ++ r)) (over n)
      ∙ ap (λ (l : List ℕ). earlier_of (least (each (f sc) g)) (least l)) (sym rest)

  -- a branch's own sites, and its continuation
  pub over-stopped : (t : List ℕ) (w : ℕ → List ℕ) (sc : List ℕ) (i : ℕ) (p : Part) (from root : ℕ) (s : Stopped t p from root) → least (over (part_sites w sc i p)) ≡ least (each (f sc) (branch i (token_at t root) ∷ action_sites w s.action ++ rate_sites s.rate))
  unfolding part_sites branches_sites next_sites each least
  over-stopped t w sc i p from root s =
      ap (λ (q : Part). least (over (part_sites w sc i q))) s.is
      ∙ over-branch w sc i (token_at t root) s.action s.rate Syntax.stop
      ∙ nothing_right _

  pub over-dotted : (t : List ℕ) (w : ℕ → List ℕ) (sc : List ℕ) (i : ℕ) (p : Part) (from root : ℕ) (s : Dotted t p from root) → least (over (part_sites w sc i p)) ≡ earlier_of (least (each (f sc) (branch i (token_at t root) ∷ action_sites w s.action ++ rate_sites s.rate))) (least (over (part_sites w (sc ++ bindings s.action) 0 (items (Syntax.last_cont s.cont)))))
  unfolding part_sites branches_sites next_sites conts_sites
  over-dotted t w sc i p from root s =
      ap (λ (q : Part). least (over (part_sites w sc i q))) s.is
      ∙ over-branch w sc i (token_at t root) s.action s.rate (Syntax.dot s.cont)

  pub over-called : (t : List ℕ) (w : ℕ → List ℕ) (sc : List ℕ) (i : ℕ) (p : Part) (from root : ℕ) (s : Called t p from root) → least (over (part_sites w sc i p)) ≡ least (each (f sc) (call s.name (count_args s.args) ∷ args_sites s.args))
  unfolding part_sites conts_sites cont_sites
  over-called t w sc i p from root s =
      ap (λ (q : Part). least (over (part_sites w sc i q))) s.is
      ∙ ap least (over-within sc (call s.name (count_args s.args) ∷ args_sites s.args))
