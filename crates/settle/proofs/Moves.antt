-- A walk over the nodes of a tree, put together from walks over its parts: what it knows afterwards, what each node has to have, and what the table of nodes then holds. From the walk's steps.
use mathlib.Core.Path.{◌≡◌, refl, sym, ap, ◌∙◌, subst}
use mathlib.Core.List.{List, [], ◌∷◌, ◌++◌}
use mathlib.Core.Option.{some}
use Prim.Native.Nat.{ℕ, zero, suc, ◌+◌, ◌-◌, ◌≤◌, ◌<◌}
use native.Mathlib.Decide.{dec_le}
use native.Mathlib.Omega.{arith}
use lib.ListN.{length, get_or, get_elem?, length-append}
use Rattle.tree.specs.Node as node
use Rattle.tree.specs.Node.{field, cell, kind_of, token_of, left_of, third_of, number_kind}
use Rattle.tree.specs.Table.{Node, Leaf, One, Two, Three}
use Rattle.tree.proofs.Cells.{node-kind, node-token, node-left, node-third}
use Rattle.model.specs.Sites.{Variable, Definition}
use Rattle.model.specs.Resolved
use Rattle.model.specs.Scope.{scope_of}
use Rattle.tables.specs.Settled as settled
use Rattle.tables.specs.Settled.{kind_at, Index, Pair, Triple, Over}
use Rattle.settle.specs.Walks.{Role, action, ending, sum, plain, role_of, role_at, Point, cell_by, step_by, cell_of, step, SafeBy, scope_at}

module _ (w : ℕ → List ℕ) (vs : List Variable) (ds : List Definition) (cs : List ℕ) (told : ℕ → Type 0) (t t' roots scopes : List ℕ) (trace : ℕ → Point) (first last : ℕ) where
  -- what the walk needs of node i
  abbrev pub Safe : ℕ → Type 0
  Safe i = SafeBy w vs told (role_at t i) (get_or t i 0) (third_of (get_or t (left_of (get_or t i 0)) 0)) (trace i)

  -- a sum's node, and its number
  abbrev pub IsSum : ℕ → Type 0
  IsSum i = role_at t i ≡ sum

  abbrev pub number_at : ℕ → ℕ
  number_at i = token_of (get_or t i 0)

  -- the end of a branch leads to its action
  abbrev pub Linked : ℕ → Type 0
  Linked i = role_at t i ≡ ending → (first ≤ left_of (get_or t i 0)) × (left_of (get_or t i 0) < i) × (role_at t (left_of (get_or t i 0)) ≡ action)

  -- ---- the walk is done: the new table of nodes, the two tables of sums, and the channel names, all of them
  pub record Done : Type 0 where
    pub cells : (i : ℕ) → first ≤ i → i < last → get_or t' i 0 ≡ cell_of w vs ds t i (trace i)
    pub sums : (i : ℕ) → first ≤ i → i < last → IsSum i → (get_or roots (number_at i) 0 ≡ i - 1) × (get_or scopes (number_at i) 0 ≡ scope_at (trace i))
    pub names : (i : ℕ) → first ≤ i → i ≤ last → (more : List ℕ) × (cs ≡ (trace i).seen ++ more)
    pub few : length cs ≤ field

  -- the node of sum n
  abbrev pub SumAt : ℕ → Type 0
  SumAt n = (i : ℕ) × (first ≤ i) × (i < last) × IsSum i × (number_at i ≡ n)

  -- the resolved sums xs stand in the tables of sums, from number a on
  pub record Mark (s : Resolved.Sum) (n : ℕ) : Type 0 where
    pub node : SumAt n
    pub branches : settled.Branches t' s.branches (get_or roots n 0)
    pub scope : get_or scopes n 0 ≡ scope_of s

  abbrev pub Marked : List Resolved.Sum → ℕ → Type 0
  Marked [] a = Unit {0}
  Marked (s ∷ xs) a = Mark s a × Marked xs (a + 1)

  pub marked_append : (xs ys : List Resolved.Sum) (a n : ℕ) → length xs ≡ n → Marked xs a → Marked ys (a + n) → Marked (xs ++ ys) a
  marked_append [] ys a n e m k = let d : a + n ≡ a = omega arith in rw d at k
  marked_append (x ∷ xs) ys a n e m k =
      let d : a + n ≡ a + 1 + length xs = omega arith in
      (m.0, marked_append xs ys (a + 1) (length xs) refl m.1 (rw d at k))

  pub marked-at : (xs : List Resolved.Sum) (a j : ℕ) (s : Resolved.Sum) → Marked xs a → get_elem? xs j ≡ some s → Mark s (a + j)
  marked-at [] a j s m e = absurd (let z : ◌≡◌ {A = ℕ} 0 1 = cc in omega arith)
  marked-at (x ∷ xs) a zero s m e =
      let d : a + 0 ≡ a = omega arith in
      let q : x ≡ s = cc in
      rw (d, ← q) m.0
  marked-at (x ∷ xs) a (suc j) s m e = let d : a + suc j ≡ a + 1 + j = omega arith in rw d (marked-at xs (a + 1) j s m.1 e)

  -- ---- the nodes from lo to k were walked: q is known afterwards, the n sums among them are numbered from a and resolve to xs, and Q holds once all is done
  pub record Moved (lo k : ℕ) (q : Point) (a n : ℕ) (xs : List Resolved.Sum) (Q : Type 0) : Type 0 where
    pub low : lo ≤ k
    pub after : trace (k + 1) ≡ q
    pub safe : (i : ℕ) → lo ≤ i → i ≤ k → Safe i
    pub linked : (i : ℕ) → lo ≤ i → i ≤ k → Linked i
    pub numbers : (i : ℕ) → lo ≤ i → i ≤ k → IsSum i → (a ≤ number_at i) × (number_at i < a + n) × (0 < i)
    pub apart : (i j : ℕ) → lo ≤ i → i ≤ k → lo ≤ j → j ≤ k → IsSum i → IsSum j → number_at i ≡ number_at j → i ≡ j
    pub count : length xs ≡ n
    pub holds : Done → Q
    pub marks : Done → Marked xs a

  -- the same of each tree of a sort P
  abbrev pub Moves : Point → Point → ℕ → ℕ → List Resolved.Sum → (ℕ → ℕ → Type 0) → (ℕ → Type 0) → Type 0
  Moves p q a n xs P Q = (lo k : ℕ) → P lo k → first ≤ lo → k < last → trace lo ≡ p → Moved lo k q a n xs (Q k)

  -- a tree that changes nothing the walk knows, and has no sums
  abbrev pub Keeps : Point → (ℕ → ℕ → Type 0) → (ℕ → Type 0) → Type 0
  Keeps p P Q = (a : ℕ) → Moves p p a 0 [] P Q

  -- ---- one node after the other

  pub moved-with : {lo k : ℕ} {q : Point} {a n : ℕ} {xs : List Resolved.Sum} {Q R : Type 0} → Moved lo k q a n xs Q → (Done → Q → R) → Moved lo k q a n xs R
  moved-with m f =
      record { low = m.low; after = m.after; safe = m.safe; linked = m.linked; numbers = m.numbers; apart = m.apart; count = m.count; holds = λ d. f d (m.holds d); marks = m.marks }

  pub moved_to : {lo k : ℕ} {q r : Point} {a n : ℕ} {xs : List Resolved.Sum} {Q : Type 0} → q ≡ r → Moved lo k q a n xs Q → Moved lo k r a n xs Q
  moved_to e m =
      record { low = m.low; after = m.after ∙ e; safe = m.safe; linked = m.linked; numbers = m.numbers; apart = m.apart; count = m.count; holds = m.holds; marks = m.marks }

  -- two parts beside each other
  pub moved-both : {lo l k : ℕ} {p q : Point} {a n m : ℕ} {xs ys : List Resolved.Sum} {Q R : Type 0} → Moved lo l p a n xs Q → Moved (l + 1) k q (a + n) m ys R → Moved lo k q a (n + m) (xs ++ ys) (Q × R)
  moved-both {lo} {l} {k} {p} {q} {a} {n} {m} {xs} {ys} {Q} {R} x y =
      record {
        low = omega (arith, x.low, y.low);
        after = y.after;
        safe = λ i g h. safe-by i g h (dec_le i l);
        linked = λ i g h. linked-by i g h (dec_le i l);
        numbers = λ i g h s. numbers-by i g h s (dec_le i l);
        apart = λ i j g h g' h' s s' e. apart_by i j g h g' h' s s' e (dec_le i l) (dec_le j l);
        count = length-append xs ys ∙ omega (arith, x.count, y.count);
        holds = λ d. (x.holds d, y.holds d);
        marks = λ d. marked_append xs ys a n x.count (x.marks d) (y.marks d);
      }
    where
      safe-by : (i : ℕ) → lo ≤ i → i ≤ k → Dec (i ≤ l) → Safe i
      safe-by i g h (yes c) = x.safe i g c
      safe-by i g h (no c) = y.safe i (omega arith) h

      linked-by : (i : ℕ) → lo ≤ i → i ≤ k → Dec (i ≤ l) → Linked i
      linked-by i g h (yes c) = x.linked i g c
      linked-by i g h (no c) = y.linked i (omega arith) h

      numbers-by : (i : ℕ) → lo ≤ i → i ≤ k → IsSum i → Dec (i ≤ l) → (a ≤ number_at i) × (number_at i < a + (n + m)) × (0 < i)
      numbers-by i g h s (yes c) = let r = x.numbers i g c s in (r.0, omega (arith, r.1), r.2)
      numbers-by i g h s (no c) = let r = y.numbers i (omega arith) h s in (omega (arith, r.0), omega (arith, r.1), r.2)

      apart_by : (i j : ℕ) → lo ≤ i → i ≤ k → lo ≤ j → j ≤ k → IsSum i → IsSum j → number_at i ≡ number_at j → Dec (i ≤ l) → Dec (j ≤ l) → i ≡ j
      apart_by i j g h g' h' s s' e (yes c) (yes d) = x.apart i j g c g' d s s' e
      apart_by i j g h g' h' s s' e (yes c) (no d) =
          let r = x.numbers i g c s in
          let r' = y.numbers j (omega arith) h' s' in
          absurd (omega arith)
      apart_by i j g h g' h' s s' e (no c) (yes d) =
          let r = y.numbers i (omega arith) h s in
          let r' = x.numbers j g' d s' in
          absurd (omega arith)
      apart_by i j g h g' h' s s' e (no c) (no d) = y.apart i j (omega arith) h (omega arith) h' s s' e

  -- the first without sums
  pub moved_then : {lo l k : ℕ} {p q : Point} {a m : ℕ} {ys : List Resolved.Sum} {Q R : Type 0} → Moved lo l p a 0 [] Q → Moved (l + 1) k q a m ys R → Moved lo k q a m ys (Q × R)
  moved_then {lo} {l} {k} {p} {q} {a} {m} {ys} {Q} {R} x y =
      let e : a + 0 ≡ a = omega arith in
      let f : 0 + m ≡ m = omega arith in
      rw f at (moved-both x (subst (λ (b : ℕ). Moved (l + 1) k q b m ys R) (sym e) y))

  -- ---- nodes
  module _ (steps : (i : ℕ) → first ≤ i → i < last → trace (i + 1) ≡ step w vs ds t i (trace i)) where
    -- node k becomes the cell c, is no sum, and takes the walk from p to q
    pub record Does (k : ℕ) (p q : Point) (c : ℕ) : Type 0 where
      pub step_is : step w vs ds t k p ≡ q
      pub safe : SafeBy w vs told (role_at t k) (get_or t k 0) (third_of (get_or t (left_of (get_or t k 0)) 0)) p
      pub becomes : cell_of w vs ds t k p ≡ c
      pub other : IsSum k → ⊥
      pub linked : Linked k

    pub plain-does : {k κ token left third : ℕ} {p : Point} → κ < 256 → role_of κ ≡ plain → Node t k κ token left third → Does k p p (get_or t k 0)
    unfolding step cell_of step_by cell_by
    plain-does {k} {p = p} h e n =
        let r : role_at t k ≡ plain = ap role_of (node-kind n h) ∙ e in
        record { step_is = rw r; safe = rw r tt; becomes = rw r; other = λ q. absurd (let z : ◌≡◌ {A = ℕ} 0 1 = cc (r, q) in omega arith); linked = λ q. absurd (let z : ◌≡◌ {A = ℕ} 0 1 = cc (r, q) in omega arith) }

    -- a leaf
    pub moved-leaf : {p q : Point} {Q : Type 0} (a k : ℕ) → first ≤ k → k < last → trace k ≡ p → step w vs ds t k p ≡ q
        → SafeBy w vs told (role_at t k) (get_or t k 0) (third_of (get_or t (left_of (get_or t k 0)) 0)) p → (IsSum k → ⊥) → (role_at t k ≡ ending → ⊥) → (Done → Q) → Moved k k q a 0 [] Q
    moved-leaf a k f l e s safe other never h =
        record {
          low = omega arith;
          after = steps k f l ∙ rw e s;
          safe = λ i g h. let d : i ≡ k = omega arith in rw (d, e) safe;
          linked = λ i g h x. let d : i ≡ k = omega arith in absurd (never (rw d at x));
          numbers = λ i g h s. let d : i ≡ k = omega arith in absurd (other (rw d at s));
          apart = λ i j g h g' h' s s' q. omega arith;
          count = refl;
          holds = h;
          marks = λ d. tt;
        }

    -- by its role
    pub leaf : {p q : Point} {κ token : ℕ} {Q : ℕ → Type 0} (r : Role) → κ < 256 → role_of κ ≡ r → (r ≡ sum → ⊥) → (r ≡ ending → ⊥) → ((c b : ℕ) → token_of c ≡ token → third_of c ≡ 0 → step_by w vs ds r c b p ≡ q)
        → ((c b : ℕ) → token_of c ≡ token → third_of c ≡ 0 → SafeBy w vs told r c b p)
        → ((k c : ℕ) → kind_of c ≡ κ → token_of c ≡ token → third_of c ≡ 0 → first ≤ k → k < last → trace (k + 1) ≡ q → Done → get_or t' k 0 ≡ cell_by w vs ds r c p → Q k)
        → (a : ℕ) → Moves p q a 0 [] (Leaf t κ token) Q
    unfolding step cell_of
    leaf {p} {q = after} r l e other never s safe q a lo k h u v x =
        let n = node-token h.node l in
        let z = node-third h.node l in
        let f : role_at t k ≡ r = ap role_of (node-kind h.node l) ∙ e in
        let d : lo ≡ k = sym h.low in
        let m : step w vs ds t k p ≡ after = rw f (s (get_or t k 0) (third_of (get_or t (left_of (get_or t k 0)) 0)) n z) in
        rw d (moved-leaf a k (omega arith) v (rw d at x) m (rw f (safe (get_or t k 0) (third_of (get_or t (left_of (get_or t k 0)) 0)) n z)) (λ y. other (sym f ∙ y)) (λ y. never (sym f ∙ y))
        (λ y. q k (get_or t k 0) (node-kind h.node l) n z (omega arith) v (steps k (omega arith) v ∙ rw (rw d at x) m) y (y.cells k (omega arith) v ∙ rw (f, ← d, x))))

    -- a node above what was walked
    pub moved-node : {p q : Point} {a n : ℕ} {xs : List Resolved.Sum} {Q : Type 0} {lo r k c : ℕ} → Moved lo r p a n xs Q → k ≡ r + 1 → first ≤ lo → k < last → Does k p q c → Moved lo k q a n xs (Q × (get_or t' k 0 ≡ c))
    moved-node {p} {q} {a} {n} {xs} {Q} {lo} {r} {k} m e f l d =
        record {
          low = omega (arith, m.low);
          after = steps k (omega (arith, m.low)) l ∙ rw at-node d.step_is;
          safe = λ i g h. safe-by i g h (dec_le i r);
          linked = λ i g h. linked-by i g h (dec_le i r);
          numbers = λ i g h s. numbers-by i g h s (dec_le i r);
          apart = λ i j g h g' h' s s' q. apart_by i j g h g' h' s s' q (dec_le i r) (dec_le j r);
          count = m.count;
          holds = λ x. (m.holds x, x.cells k (omega (arith, m.low)) l ∙ rw at-node d.becomes);
          marks = m.marks;
        }
      where
        at-node : trace k ≡ p
        at-node = rw e m.after

        only : (i : ℕ) → i ≤ k → (i ≤ r → ⊥) → i ≡ k
        only i h c = omega (arith, c)

        safe-by : (i : ℕ) → lo ≤ i → i ≤ k → Dec (i ≤ r) → Safe i
        safe-by i g h (yes c) = m.safe i g c
        safe-by i g h (no c) = rw (only i h c, at-node) d.safe

        linked-by : (i : ℕ) → lo ≤ i → i ≤ k → Dec (i ≤ r) → Linked i
        linked-by i g h (yes c) = m.linked i g c
        linked-by i g h (no c) = subst Linked (sym (only i h c)) d.linked

        numbers-by : (i : ℕ) → lo ≤ i → i ≤ k → IsSum i → Dec (i ≤ r) → (a ≤ number_at i) × (number_at i < a + n) × (0 < i)
        numbers-by i g h s (yes c) = m.numbers i g c s
        numbers-by i g h s (no c) = absurd (d.other (rw (only i h c) at s))

        apart_by : (i j : ℕ) → lo ≤ i → i ≤ k → lo ≤ j → j ≤ k → IsSum i → IsSum j → number_at i ≡ number_at j → Dec (i ≤ r) → Dec (j ≤ r) → i ≡ j
        apart_by i j g h g' h' s s' z (yes x) (yes y) = m.apart i j g x g' y s s' z
        apart_by i j g h g' h' s s' z (yes x) (no y) = absurd (d.other (rw (only j h' y) at s'))
        apart_by i j g h g' h' s s' z (no x) (yes y) = absurd (d.other (rw (only i h x) at s))
        apart_by i j g h g' h' s s' z (no x) (no y) = only i h x ∙ sym (only j h' y)

    -- a sum's node above its branches
    pub moved_sum : {p : Point} {a n : ℕ} {xs : List Resolved.Sum} {lo r k third : ℕ} (bs : List Resolved.Branch) → Moved lo r p (a + 1) n xs (settled.Branches t' bs r) → k ≡ r + 1 → first ≤ lo → k < last → Node t k node.sum a 0 third
        → Moved lo k (record { scope = p.scope; seen = p.seen; sums = p.sums + 1; definitions = p.definitions }) a (1 + n) (record { locals = length p.scope; definition = p.definitions; branches = bs } ∷ xs) (Index t' node.sum a k)
    unfolding step cell_of step_by cell_by role_of number_kind scope_of
    moved_sum {p} {a} {n} {xs} {lo} {r} {k} bs m e f l o =
        record {
          low = omega (arith, m.low);
          after = steps k reached l ∙ rw (at-node, here);
          safe = λ i g h. safe-by i g h (dec_le i r);
          linked = λ i g h. linked-by i g h (dec_le i r);
          numbers = λ i g h s. numbers-by i g h s (dec_le i r);
          apart = λ i j g h g' h' s s' q. apart_by i j g h g' h' s s' q (dec_le i r) (dec_le j r);
          count = omega (arith, m.count);
          holds = λ x. let c : get_or t' k 0 ≡ get_or t k 0 = x.cells k reached l ∙ rw here in record { kind-is = ap kind_of c ∙ κ; index_is = ap token_of c ∙ number };
          marks = λ x. (mark x, m.marks x);
        }
      where
        at-node : trace k ≡ p
        at-node = rw e m.after

        reached : first ≤ k
        reached = omega (arith, m.low)

        κ : kind_of (get_or t k 0) ≡ node.sum
        κ = node-kind o (omega arith)

        number : token_of (get_or t k 0) ≡ a
        number = node-token o (omega arith)

        here : role_at t k ≡ sum
        here = ap role_of κ

        mark : Done → Mark (record { locals = length p.scope; definition = p.definitions; branches = bs }) a
        mark x =
            let s = x.sums k reached l here in
            let q : get_or roots a 0 ≡ r = ap (λ (i : ℕ). get_or roots i 0) (sym number) ∙ s.0 ∙ omega arith in
            record { node = (k, reached, l, here, number); branches = rw q (m.holds x); scope = ap (λ (i : ℕ). get_or scopes i 0) (sym number) ∙ s.1 ∙ ap scope_at at-node }

        only : (i : ℕ) → i ≤ k → (i ≤ r → ⊥) → i ≡ k
        only i h c = omega (arith, c)

        safe-by : (i : ℕ) → lo ≤ i → i ≤ k → Dec (i ≤ r) → Safe i
        safe-by i g h (yes c) = m.safe i g c
        safe-by i g h (no c) = rw (only i h c, here) tt

        linked-by : (i : ℕ) → lo ≤ i → i ≤ k → Dec (i ≤ r) → Linked i
        linked-by i g h (yes c) = m.linked i g c
        linked-by i g h (no c) = subst Linked (sym (only i h c)) (λ q. absurd (let z : ◌≡◌ {A = ℕ} 0 1 = cc (here, q) in omega arith))

        numbers-by : (i : ℕ) → lo ≤ i → i ≤ k → IsSum i → Dec (i ≤ r) → (a ≤ number_at i) × (number_at i < a + (1 + n)) × (0 < i)
        numbers-by i g h s (yes c) = let z = m.numbers i g c s in (omega (arith, z.0), omega (arith, z.1), z.2)
        numbers-by i g h s (no c) = rw (only i h c) (omega (arith, number), omega (arith, number), omega arith)

        apart_by : (i j : ℕ) → lo ≤ i → i ≤ k → lo ≤ j → j ≤ k → IsSum i → IsSum j → number_at i ≡ number_at j → Dec (i ≤ r) → Dec (j ≤ r) → i ≡ j
        apart_by i j g h g' h' s s' z (yes x) (yes y) = m.apart i j g x g' y s s' z
        apart_by i j g h g' h' s s' z (yes x) (no y) =
            let q = m.numbers i g x s in
            let v = ap number_at (only j h' y) in
            absurd (omega (arith, number))
        apart_by i j g h g' h' s s' z (no x) (yes y) =
            let q = m.numbers j g' y s' in
            let v = ap number_at (only i h x) in
            absurd (omega (arith, number))
        apart_by i j g h g' h' s s' z (no x) (no y) = only i h x ∙ sym (only j h' y)

    -- ---- the forms of a tree
    module _ {κ token : ℕ} (κ-small : κ < 256) where
      pub pair_of : {left third k : ℕ} (right : ℕ) (P Q : ℕ → Type 0) → Node t k κ token left third → k ≡ right + 1 → left < k → get_or t' k 0 ≡ get_or t k 0 → P left → Q right → Pair t' κ P Q k
      pair_of {left} {k = k} right P Q n e l same p q =
          let f : left_of (get_or t' k 0) ≡ left = ap left_of same ∙ node-left n κ-small in
          record {
            right = right;
            above = e;
            kind-is = ap kind_of same ∙ node-kind n κ-small;
            below = rw f l;
            holds-first = subst P (sym f) p;
            holds-second = q;
          }

      pub one : {p q : Point} {a n : ℕ} {xs : List Resolved.Sum} {third : ℕ} {P : ℕ → ℕ → Type 0} {P' : ℕ → Type 0}
          → ((k : ℕ) → Node t k κ token 0 third → Does k q q (get_or t k 0)) → Moves p q a n xs P P' → Moves p q a n xs (One t κ token third P) (Over t' κ P')
      one does f lo k h u l e =
          let x = f lo h.root h.holds u (omega (arith, h.above)) e in
          moved-with (moved-node x h.above u l (does k h.node))
          (λ d y. record { root = h.root; above = h.above; kind-is = ap kind_of y.1 ∙ node-kind h.node κ-small; holds = y.0 })

      pub two : {p q r s : Point} {a n m : ℕ} {xs ys : List Resolved.Sum} {third : ℕ} {P Q : ℕ → ℕ → Type 0} {P' Q' : ℕ → Type 0}
          → ((lo left k : ℕ) → P lo left → first ≤ lo → left < k → Node t k κ token left third → Does k r s (get_or t k 0)) → ((lo k : ℕ) → Q lo k → lo ≤ k)
          → Moves p q a n xs P P' → Moves q r (a + n) m ys Q Q' → Moves p s a (n + m) (xs ++ ys) (Two t κ token third P Q) (Pair t' κ P' Q')
      two {P' = P'} {Q' = Q'} does low f g lo k h u l e =
          let o = h.above in
          let x = f lo h.left h.holds-first u (omega (arith, low (h.left + 1) h.right h.holds-second)) e in
          let y = g (h.left + 1) h.right h.holds-second (omega (arith, x.low)) (omega arith) x.after in
          moved-with (moved-node (moved-both x y) h.above u l (does lo h.left k h.holds-first u (omega (arith, x.low, y.low)) h.node))
          (λ d z. pair_of h.right P' Q' h.node h.above (omega (arith, x.low, y.low)) z.1 z.0.0 z.0.1)

      -- where the first part has no sums
      pub two_then : {p q r s : Point} {a m : ℕ} {ys : List Resolved.Sum} {third : ℕ} {P Q : ℕ → ℕ → Type 0} {P' Q' : ℕ → Type 0}
          → ((lo left k : ℕ) → P lo left → first ≤ lo → left < k → Node t k κ token left third → Does k r s (get_or t k 0)) → ((lo k : ℕ) → Q lo k → lo ≤ k)
          → Moves p q a 0 [] P P' → Moves q r a m ys Q Q' → Moves p s a m ys (Two t κ token third P Q) (Pair t' κ P' Q')
      two_then {P' = P'} {Q' = Q'} does low f g lo k h u l e =
          let o = h.above in
          let x = f lo h.left h.holds-first u (omega (arith, low (h.left + 1) h.right h.holds-second)) e in
          let y = g (h.left + 1) h.right h.holds-second (omega (arith, x.low)) (omega arith) x.after in
          moved-with (moved-node (moved_then x y) h.above u l (does lo h.left k h.holds-first u (omega (arith, x.low, y.low)) h.node))
          (λ d z. pair_of h.right P' Q' h.node h.above (omega (arith, x.low, y.low)) z.1 z.0.0 z.0.1)

      -- three parts without sums
      pub three : {p q r s : Point} {a : ℕ} {P Q R : ℕ → ℕ → Type 0} {P' Q' R' : ℕ → Type 0}
          → ((k left middle : ℕ) → Node t k κ token left middle → Does k s s (get_or t k 0)) → ((lo k : ℕ) → Q lo k → lo ≤ k) → ((lo k : ℕ) → R lo k → lo ≤ k)
          → Moves p q a 0 [] P P' → Moves q r a 0 [] Q Q' → Moves r s a 0 [] R R' → Moves p s a 0 [] (Three t κ token P Q R) (Triple t' κ P' Q' R')
      three {P' = P'} {Q' = Q'} does low_second low-third f g i lo k h u l e =
          let o = h.above in
          let b = low-third (h.middle + 1) h.right h.holds-third in
          let c = low_second (h.left + 1) h.middle h.holds-second in
          let x = f lo h.left h.holds-first u (omega arith) e in
          let y = g (h.left + 1) h.middle h.holds-second (omega (arith, x.low)) (omega arith) x.after in
          let z = i (h.middle + 1) h.right h.holds-third (omega (arith, x.low)) (omega arith) y.after in
          moved-with (moved-node (moved_then x (moved_then y z)) h.above u l (does k h.left h.middle h.node))
          (λ d v.
          let m : left_of (get_or t' k 0) ≡ h.left = ap left_of v.1 ∙ node-left h.node κ-small in
          let n : third_of (get_or t' k 0) ≡ h.middle = ap third_of v.1 ∙ node-third h.node κ-small in
          record {
            right = h.right;
            above = h.above;
            kind-is = ap kind_of v.1 ∙ node-kind h.node κ-small;
            first_below = omega arith;
            second_below = omega arith;
            holds-first = subst P' (sym m) v.0.0;
            holds-second = subst Q' (sym n) v.0.1.0;
            holds-third = v.0.1.1;
          })
