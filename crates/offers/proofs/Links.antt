-- One row more is linked, whether it is a handshake receive or not. By cases on the bucket.
use mir.Syntax.{w64}
use mir.Val.{SFits}
use Prim.Native.Nat.{ℕ, suc, ◌%◌, ◌≤◌, ◌<◌}
use mathlib.Core.Path.{◌≡◌, refl, sym, ap, ◌∙◌}
use mathlib.Core.List.{List}
use mathlib.Core.Bool.{Bool, true, false}
use native.Mathlib.Omega.{arith}
use borrow.Author.Tests.{eqb-true, eqb-false, ltb-true, le-ltb}
use lib.Dec.{eqb}
use lib.IntN.{ℤ, pos, negsuc, nat_abs, ◌-ℤ◌}
use lib.Signed.{lt_z}
use Rattle.value.proofs.Kit.{true-not-false}
use lib.ListN.{length, get_or, set, replicate, get_or-replicate}
use lib.Seq.{get_or-set_same, get_or-set_other}
use Rattle.tree.specs.Node as node
use Rattle.offers.specs.declared.row.Row.{Row}
use Rattle.offers.specs.Head.{kind_in}
use Rattle.offers.specs.Links.{row_at, bucket_limit, bucket_part, InBucket, Leads, Linked}

module _ (rs : List Row) where
  -- no row from the number of rows on
  pub linked-none : (fs ns : List ℕ) (n : ℕ) → n ≡ bucket_limit → fs ≡ replicate n (length rs) → Linked rs (length rs) fs ns
  linked-none fs ns n l e =
      record {
        first = λ h k.
            let v : get_or fs h 0 ≡ length rs = ap (λ (y : List ℕ). get_or y h 0) e ∙ get_or-replicate n h (length rs) 0 (omega arith) in
            record { low = omega arith; high = omega arith; none = λ q m n i. absurd (omega arith); here = λ m. absurd (omega arith) };
        next = λ q h k m i. absurd (omega arith);
      }

  -- a row below, in another bucket or in none
  lower : (h k b : ℕ) → (InBucket rs h k → ⊥) → Leads rs h (suc k) b → Leads rs h k b
  lower h k b not l =
      record {
        low = omega (arith, l.low);
        high = l.high;
        none = λ q m n i. go q m n i (eqb q k) refl;
        here = l.here;
      }
    where
      go : (q : ℕ) → k ≤ q → q < b → InBucket rs h q → (p : Bool) → eqb q k ≡ p → ⊥
      go q m n i true e = let z : q ≡ k = eqb-true q k e in not (rw z at i)
      go q m n i false e = let z : q ≡ k → ⊥ = eqb-false q k e in l.none q (apart q z m) n i
        where
          apart : (q : ℕ) → (q ≡ k → ⊥) → k ≤ q → suc k ≤ q
          apart q z m = omega arith

  pub linked-other : (k : ℕ) (fs ns : List ℕ) → kind_in (row_at rs k).head < node.hand_receive → Linked rs (suc k) fs ns → Linked rs k fs ns
  linked-other k fs ns other l =
      record { first = λ h m. lower h k (get_or fs h 0) (λ i. omega (arith, i.receives)) (l.first h m); next = λ q h m n i. go q h m n i (eqb q k) refl }
    where
      go : (q h : ℕ) → k ≤ q → q < length rs → InBucket rs h q → (p : Bool) → eqb q k ≡ p → Leads rs h (suc q) (get_or ns q 0)
      go q h m n i true e = let z : q ≡ k = eqb-true q k e in absurd (never (rw z at i))
        where
          never : InBucket rs h k → ⊥
          never i = omega (arith, i.receives)
      go q h m n i false e = l.next q h (apart (eqb-false q k e) m) n i
        where
          apart : (q ≡ k → ⊥) → k ≤ q → suc k ≤ q
          apart z m = omega arith

  -- a handshake receive in bucket b becomes its first
  pub linked-more : (k b : ℕ) (fs ns : List ℕ) → k < length rs → b < length fs → k < length ns → InBucket rs b k
      → Linked rs (suc k) fs ns → length fs ≡ bucket_limit → Linked rs k (set fs b k) (set ns k (get_or fs b 0))
  linked-more k b fs ns kr bl kl i l long = record { first = λ h m. firsts h m (eqb h b) refl; next = λ q h m n j. nexts q h m n j (eqb q k) refl }
    where
      firsts : (h : ℕ) → h < bucket_limit → (p : Bool) → eqb h b ≡ p → Leads rs h k (get_or (set fs b k) h 0)
      firsts h m true e =
          let z : h ≡ b = eqb-true h b e in
          let v : get_or (set fs b k) h 0 ≡ k = ap (λ (y : ℕ). get_or (set fs b k) y 0) z ∙ get_or-set_same fs b k 0 bl in
          record { low = omega arith; high = omega arith; none = λ q a c d. absurd (omega arith); here = λ a. rw v (rw z i) }
      firsts h m false e =
          let z : h ≡ b → ⊥ = eqb-false h b e in
          rw (get_or-set_other fs b h k 0 z) (lower h k (get_or fs h 0) (λ j. z (sym j.bucket ∙ i.bucket)) (l.first h m))

      nexts : (q h : ℕ) → k ≤ q → q < length rs → InBucket rs h q → (p : Bool) → eqb q k ≡ p → Leads rs h (suc q) (get_or (set ns k (get_or fs b 0)) q 0)
      nexts q h m n j true e =
          let z : q ≡ k = eqb-true q k e in
          rw z (rw (get_or-set_same ns k (get_or fs b 0) 0 kl) (same (rw z at j)))
        where
          same : InBucket rs h k → Leads rs h (suc k) (get_or fs b 0)
          same j = let w : b ≡ h = sym i.bucket ∙ j.bucket in rw (← w) (l.first b (omega arith))
      nexts q h m n j false e =
          let z : q ≡ k → ⊥ = eqb-false q k e in
          rw (get_or-set_other ns k q (get_or fs b 0) 0 z) (l.next q h (apart z m) n j)
        where
          apart : (q ≡ k → ⊥) → k ≤ q → suc k ≤ q
          apart z m = omega arith

-- ---- buckets
-- what a negative number is turned into
pub turned : (z : ℤ) → SFits w64 z → lt_z z (pos 0) ≡ true → (n : ℕ) × (negsuc 0 -ℤ z ≡ pos n) × (n < 9223372036854775808) × (bucket_part z ≡ n % bucket_limit)
unfolding bucket_part
turned (pos n) f e = absurd (never (ltb-true n 0 e))
  where
    never : n < 0 → ⊥
    never h = omega arith
turned (negsuc n) f e = (n, rw (le-ltb (suc n) 1 (omega arith)) (ap pos (omega arith)), omega (arith, f.sfits), refl)

pub part-natural : (z : ℤ) → lt_z z (pos 0) ≡ false → bucket_part z ≡ nat_abs z % bucket_limit
unfolding bucket_part
part-natural (pos n) e = refl
part-natural (negsuc n) e = true-not-false e
