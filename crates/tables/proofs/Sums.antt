-- A body's sums are counted in the nodes from its root down. From the definitions.
use mathlib.Core.Path.{◌≡◌, refl, ap}
use mathlib.Core.List.{List, [], ◌∷◌}
use mathlib.Core.Bool.{Bool, true, false}
use Prim.Native.Nat.{ℕ, ◌+◌, ◌≤◌, ◌<◌}
use native.Mathlib.Omega.{arith}
use native.Mathlib.Numerals.{add-one}
use borrow.Author.Tests.{eq-eqb, ne_eqb, ltb-true, ltb-false}
use lib.Dec.{eqb, ltb}
use lib.ListN.{length, get_or, take, get_or-eq_default}
use lib.Seq.{take-suc}
use Rattle.std.specs.List.{prefix_len}
use Rattle.std.specs.Prelude.{reverse}
use Rattle.std.proofs.lemmas.List.{reverse-append}
use Rattle.tree.specs.Node as node
use Rattle.tree.specs.Node.{kind_of}
use Rattle.tables.specs.Settled.{kind_at}
use Rattle.tables.specs.Represents.{Sums}

module _ (t : List ℕ) where
  -- a cell with a kind above 0 is one of the table
  pub kind-inside : (k : ℕ) → 0 < kind_at t k → k < length t
  unfolding kind_of
  kind-inside k h = by (ltb k (length t)) refl
    where
      by : (c : Bool) → ltb k (length t) ≡ c → k < length t
      by true e = ltb-true k (length t) e
      by false e = absurd (omega (arith, h, ap kind_of (get_or-eq_default t 0 (ltb-false k (length t) e))))

  pub sums-inside : (ns : List ℕ) (k : ℕ) → Sums t ns k → k < length t
  unfolding Sums
  sums-inside [] k h = absurd h
  sums-inside (n ∷ []) k h = kind-inside k (omega (arith, h.kind-is))
  sums-inside (n ∷ o ∷ ns) k h = kind-inside k (omega (arith, h.kind-is))

  -- the nodes from k down
  down : (k : ℕ) → k < length t → reverse (take (k + 1) t) ≡ get_or t k 0 ∷ reverse (take k t)
  down k l = rw (add-one k, take-suc t k 0 l) (reverse-append (take k t) (get_or t k 0 ∷ []))

  -- how many of them stand beside another before the first that doesn't
  abbrev pub beside_down : ℕ → ℕ
  beside_down k = prefix_len (λ x. eqb (kind_of x) node.beside) (reverse (take (k + 1) t))

  pub sums-counted : (ns : List ℕ) (k : ℕ) → Sums t ns k → (beside_down k + 1 ≡ length ns) × (beside_down k ≤ k)
  unfolding Sums
  sums-counted [] k h = absurd h
  sums-counted (n ∷ []) k h =
      let e = down k (sums-inside (n ∷ []) k h) in
      let q = ne_eqb (kind_at t k) node.beside (λ z. omega (arith, h.kind-is)) in
      rw (e, q) (refl, omega arith)
  sums-counted (n ∷ o ∷ ns) k h =
      let e = down k (sums-inside (n ∷ o ∷ ns) k h) in
      let q = eq-eqb (kind_at t k) node.beside h.kind-is in
      let r = rw (← h.above) at (sums-counted (o ∷ ns) h.right h.holds-second) in
      rw (e, q) (omega (arith, r.0), omega (arith, r.1, h.above))
