-- What a table holds from lo to k depends on the nodes lo to k alone, and its root k has one of the kinds of its sort. From the fields of a cell.
use mathlib.Core.Path.{◌≡◌, refl, ap, ◌∙◌}
use mathlib.Core.List.{List}
use mathlib.Core.Bool.{Bool, true, false, ◌&&◌}
use Prim.Native.Nat.{ℕ, ◌%◌, ◌≤◌, ◌<◌}
use native.Mathlib.Omega.{arith}
use borrow.Author.Tests.{leb-true, ltb-true, ltb-false}
use lib.Dec.{leb, ltb}
use lib.ListN.{length, get_or, get_or-eq_default}
use Rattle.tree.specs.Node.{cell, kind_of}
use Rattle.tree.specs.Table.{Node, Leaf, One, Two, Three}

-- two tables agree on the nodes lo to k
abbrev pub Agree : List ℕ → List ℕ → ℕ → ℕ → Type 0
Agree t t' lo k = (i : ℕ) → lo ≤ i → i ≤ k → get_or t' i 0 ≡ get_or t i 0

abbrev pub kind_at : List ℕ → ℕ → ℕ
kind_at t k = kind_of (get_or t k 0)

-- P speaks of the nodes lo to k alone, and k has a kind from a to b
pub record Interval (a b : ℕ) (P : List ℕ → ℕ → ℕ → Type 0) : Type 0 where
  pub low : {t : List ℕ} {lo k : ℕ} → P t lo k → lo ≤ k
  pub keep : {t t' : List ℕ} {lo k : ℕ} → Agree t t' lo k → P t lo k → P t' lo k
  pub from : {t : List ℕ} {lo k : ℕ} → P t lo k → a ≤ kind_at t k
  pub to : {t : List ℕ} {lo k : ℕ} → P t lo k → kind_at t k ≤ b

-- ---- nodes
pub root : {t : List ℕ} {k kind token left third : ℕ} → Node t k kind token left third → kind_at t k ≡ kind % 256
unfolding cell kind_of
root n = omega (arith, n.written)

keep-node : {t t' : List ℕ} {k kind token left third : ℕ} → get_or t' k 0 ≡ get_or t k 0 → Node t k kind token left third → Node t' k kind token left third
keep-node e n = record { written = e ∙ n.written; token-fits = n.token-fits; left-fits = n.left-fits; third-fits = n.third-fits }

-- a kind from a to b, by computation
abbrev pub among : ℕ → ℕ → ℕ → Bool
among a b kind = leb a (kind % 256) && leb (kind % 256) b

both : (p q : Bool) → (p && q) ≡ true → (p ≡ true) × (q ≡ true)
both true q e = (refl, e)
both false q e = absurd (let z : ◌≡◌ {A = ℕ} 0 1 = cc in omega arith)

pub between : (a b kind : ℕ) → among a b kind ≡ true → {t : List ℕ} {k token left third : ℕ} → Node t k kind token left third → (a ≤ kind_at t k) × (kind_at t k ≤ b)
between a b kind e n =
    let q = both (leb a (kind % 256)) (leb (kind % 256) b) e in
    (omega (arith, root n, leb-true a (kind % 256) q.0), omega (arith, root n, leb-true (kind % 256) b q.1))

-- ---- the four forms of a tree
module _ {a b kind token : ℕ} (e : among a b kind ≡ true) where
  pub leaf : Interval a b (λ t. Leaf t kind token)
  leaf =
      record {
        low = λ h. omega (arith, h.low);
        keep = λ {t} {t'} {lo} {k} q h. record { node = keep-node (q k (omega (arith, h.low)) (omega arith)) h.node; low = h.low };
        from = λ h. (between a b kind e h.node).0;
        to = λ h. (between a b kind e h.node).1;
      }

  pub one : {c d third : ℕ} {P : List ℕ → ℕ → ℕ → Type 0} → Interval c d P → Interval a b (λ t. One t kind token third (P t))
  one p =
      record {
        low = λ h. omega (arith, h.above, p.low h.holds);
        keep = λ {t} {t'} {lo} {k} q h.
            let l = p.low h.holds in
            let u = h.above in
            record { root = h.root; above = u; node = keep-node (q k (omega arith) (omega arith)) h.node; holds = p.keep (λ i m n. q i m (omega arith)) h.holds };
        from = λ h. (between a b kind e h.node).0;
        to = λ h. (between a b kind e h.node).1;
      }

  pub two : {c d c' d' third : ℕ} {P Q : List ℕ → ℕ → ℕ → Type 0} → Interval c d P → Interval c' d' Q → Interval a b (λ t. Two t kind token third (P t) (Q t))
  two p q =
      record {
        low = λ h. omega (arith, h.above, p.low h.holds-first, q.low h.holds-second);
        keep = λ {t} {t'} {lo} {k} s h.
            let l = p.low h.holds-first in
            let r = q.low h.holds-second in
            let u = h.above in
            record {
              left = h.left;
              right = h.right;
              above = u;
              node = keep-node (s k (omega arith) (omega arith)) h.node;
              holds-first = p.keep (λ i m n. s i m (omega arith)) h.holds-first;
              holds-second = q.keep (λ i m n. s i (omega arith) (omega arith)) h.holds-second;
            };
        from = λ h. (between a b kind e h.node).0;
        to = λ h. (between a b kind e h.node).1;
      }

  pub three : {c d c' d' c'' d'' : ℕ} {P Q R : List ℕ → ℕ → ℕ → Type 0} → Interval c d P → Interval c' d' Q → Interval c'' d'' R → Interval a b (λ t. Three t kind token (P t) (Q t) (R t))
  three p q r =
      record {
        low = λ h. omega (arith, h.above, p.low h.holds-first, q.low h.holds-second, r.low h.holds-third);
        keep = λ {t} {t'} {lo} {k} s h.
            let x = p.low h.holds-first in
            let y = q.low h.holds-second in
            let z = r.low h.holds-third in
            let u = h.above in
            record {
              left = h.left;
              middle = h.middle;
              right = h.right;
              above = u;
              node = keep-node (s k (omega arith) (omega arith)) h.node;
              holds-first = p.keep (λ i m n. s i m (omega arith)) h.holds-first;
              holds-second = q.keep (λ i m n. s i (omega arith) (omega arith)) h.holds-second;
              holds-third = r.keep (λ i m n. s i (omega arith) (omega arith)) h.holds-third;
            };
        from = λ h. (between a b kind e h.node).0;
        to = λ h. (between a b kind e h.node).1;
      }

-- ---- what follows of any sort
module _ {a b : ℕ} {P : List ℕ → ℕ → ℕ → Type 0} (p : Interval a b P) where
  -- a sort of more kinds
  pub wider : {c d : ℕ} → (leb c a && leb b d) ≡ true → Interval c d P
  wider {c} {d} e =
      let q = both (leb c a) (leb b d) e in
      record { low = p.low; keep = p.keep; from = λ h. omega (arith, leb-true c a q.0, p.from h); to = λ h. omega (arith, leb-true b d q.1, p.to h) }

  -- a fact beside it that is not about the table; two of them
  pub beside : {A : Type 0} → Interval a b (λ t lo k. A × P t lo k)
  beside = record { low = λ h. p.low h.1; keep = λ q h. (h.0, p.keep q h.1); from = λ h. p.from h.1; to = λ h. p.to h.1 }

  pub beside_two : {A B : Type 0} → Interval a b (λ t lo k. A × B × P t lo k)
  beside_two = record { low = λ h. p.low h.2; keep = λ q h. (h.0, h.1, p.keep q h.2); from = λ h. p.from h.2; to = λ h. p.to h.2 }

  -- a tree below u stays where the nodes below u stay
  pub stays : {t t' : List ℕ} {lo k : ℕ} (u : ℕ) → k < u → ((i : ℕ) → i < u → get_or t' i 0 ≡ get_or t i 0) → P t lo k → P t' lo k
  stays u l q = p.keep (λ i m n. q i (omega arith))

  -- its root is a node of the table
  pub inside : {t : List ℕ} {lo k : ℕ} → 0 < a → P t lo k → k < length t
  unfolding kind_of
  inside {t} {lo} {k} h r = by (ltb k (length t)) refl
    where
      by : (c : Bool) → ltb k (length t) ≡ c → k < length t
      by true e = ltb-true k (length t) e
      by false e = absurd (omega (arith, p.from r, ap (λ (x : ℕ). x % 256) (get_or-eq_default t 0 (ltb-false k (length t) e))))
