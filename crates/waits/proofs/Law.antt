-- The law of E: each has its share of the lists of draws. From the run that gives it back to the first, run by run.
use mathlib.Core.Path.{◌≡◌, refl, sym, ap, ◌∙◌}
use mathlib.Core.Bool.{Bool, true, false, not, cond}
use mathlib.Core.List.{◌∷◌}
use Prim.Native.Nat.{ℕ, zero, suc, ◌+◌, ◌-◌, ◌*◌, ◌/◌, ◌%◌, ◌^◌, ◌≤◌, ◌<◌}
use native.Mathlib.Nat.{pow-zero, pow-suc, suc-mul, zero-mul, mul-one, one-mul, mul-zero, mul_comm, mul_assoc, mul_left_comm, mul-add, add-mul}
use native.Mathlib.Omega.{arith}
use borrow.Author.Tests.{eqb-true, eqb-false, eq-eqb, ne_eqb}
use lib.Dec.{eqb, ltb}
use Rattle.std.specs.Prelude.{Err, Ok}
use Rattle.waits.specs.declared.Unread.TheVariants.{Long}
use Rattle.waits.specs.declared.Run.{Run}
use Rattle.waits.specs.declared.Run.TheVariants.{Before, In, Known, Over}
use Rattle.waits.specs.Runs.{draw_values, run_limit, next_in_run, read, settled, waiting, wait_of, Wait}
use Rattle.waits.specs.Law.{sum_below, how_many, is_given, is_ended, is_long, waits, Law, Geometric}
use Rattle.waits.proofs.Sums.{same-sums, no-terms, one-term, scaled, power-sum}
use Rattle.waits.proofs.Parity.{after, node, ending, known-counts, over-counts, before-counts, rest, once_more, whole, in-run}

-- ---- a run of even length, whatever it began with

module _ (v w : ℕ) (q : v ≡ suc w) where
  shorter : (f d j : ℕ) → d < f → suc f - d + j ≡ f - d + suc j
  shorter f d j l = omega arith

  -- over all first draws below f
  evens : (f j : ℕ) → sum_below f (λ d. v ^ (f - d + j) * rest v w d) + v ^ suc j * v ^ f ≡ v ^ j * (f * v ^ f) + v ^ suc j * w ^ f
  unfolding sum_below
  evens zero j = rw (pow-zero v, pow-zero w, zero-mul 1, mul-zero (v ^ j)) (omega arith)
  evens (suc f) j =
      let s = same-sums f (λ d. v ^ (suc f - d + j) * rest v w d) (λ d. v ^ (f - d + suc j) * rest v w d) (λ d l. ap (λ (x : ℕ). v ^ x * rest v w d) (shorter f d j l)) in
      let i = evens f (suc j) in
      let e : suc f - f + j ≡ suc j = omega arith in
      let y = v ^ j in
      let z = v ^ suc j in
      let p = v ^ f in
      let o = w ^ f in
      let r = rest v w f in
      -- v ^ (j + 2) is z times v, and v ^ (f + 1) is p times v
      let zz : v ^ suc (suc j) ≡ z * v = pow-suc v (suc j) in
      let yz : z ≡ y * v = pow-suc v j in
      let pv : v ^ suc f ≡ p * v = pow-suc v f in
      let ow : w ^ suc f ≡ o * w = pow-suc w f in
      let a1 : z * (p * v) ≡ z * v * p = ap (λ (x : ℕ). z * x) (mul_comm p v) ∙ sym (mul_assoc z v p) in
      let a2 : y * (suc f * (p * v)) ≡ z * (f * p) + z * p =
      ap (λ (x : ℕ). y * x) (sym (mul_assoc (suc f) p v) ∙ mul_comm (suc f * p) v) ∙ sym (mul_assoc y v (suc f * p)) ∙ ap (λ (x : ℕ). x * (suc f * p)) (sym yz) ∙ ap (λ (x : ℕ). z * x) (suc-mul f p) ∙ mul-add z (f * p) p in
      let a3 : z * (v * o) ≡ z * (w * o) + z * o = ap (λ (x : ℕ). z * x) (once_more v w q o) ∙ mul-add z (w * o) o in
      let a4 : z * p ≡ z * o + z * r = ap (λ (x : ℕ). z * x) (whole v w q f) ∙ mul-add z o r in
      let a5 : z * v * o ≡ z * (v * o) = mul_assoc z v o in
      let a6 : z * (o * w) ≡ z * (w * o) = ap (λ (x : ℕ). z * x) (mul_comm o w) in
      let i' = rw zz at i in
      rw (s, e, pv, ow) (omega (arith, i', a1, a2, a3, a4, a5, a6))

  all-evens : (j : ℕ) → sum_below v (λ d. v ^ (v - d + j) * rest v w d) ≡ v ^ suc j * w ^ v
  all-evens j =
      let y = v ^ j in
      let a : y * (v * v ^ v) ≡ v ^ suc j * v ^ v = sym (mul_assoc y v (v ^ v)) ∙ ap (λ (x : ℕ). x * v ^ v) (sym (pow-suc v j)) in
      omega (arith, evens v j, a)

-- before run k + 1: once enough draws follow the first s, a share of x / v ^ s
abbrev Level : (v : ℕ) (t : Wait → Bool) (k s x enough : ℕ) → Type 0
Level v t k s x enough = (m j : ℕ) → enough ≤ j → after v t (node k) m (s + j) ≡ v ^ j * x

module _ (v w : ℕ) (q : v ≡ suc w) (t : Wait → Bool) where
  -- no run that is the (k + 1)-th gives what the test asks
  abbrev NotAt : ℕ → Type 0
  NotAt k = (f m : ℕ) → f < v → t (Ok (k * draw_values + f, m)) ≡ false

  at-run : (k : ℕ) → k < run_limit → node k ≡ Before k
  at-run k l = rw (ne_eqb k run_limit (omega arith)) refl

  -- one run of even length comes before
  one_earlier : (k s x enough : ℕ) → k < run_limit → NotAt k → Level v t (k + 1) s x enough → Level v t k (v + s) (x * w ^ v) (suc enough)
  one_earlier k s x enough l never next m zero h = absurd (omega arith)
  one_earlier k s x enough l never next m (suc j) h =
      let e : v + s + suc j ≡ suc (v + s + j) = omega arith in
      rw (at-run k l, e)
      (before-counts v t k m (v + s + j)
      ∙ same-sums v (λ d. after v t (In k d d true) (m + 1) (v + s + j)) (λ d. x * (v ^ (v - d + j) * rest v w d)) term
      ∙ scaled v x (λ d. v ^ (v - d + j) * rest v w d)
      ∙ ap (λ (n : ℕ). x * n) (all-evens v w q j)
      ∙ mul_left_comm x (v ^ suc j) (w ^ v))
    where
      shares : Bool → ℕ
      shares b = cond b 0 x

      leaves : (d : ℕ) → d < v → (b : Bool) (m j : ℕ) → enough ≤ j → after v t (ending k d b) m (s + j) ≡ v ^ j * shares b
      leaves d g true m j h = known-counts v t (k * draw_values + d) m (s + j) ∙ rw (never d m g) (mul-zero (v ^ (s + j)) ∙ sym (mul-zero (v ^ j)))
      leaves d g false m j h = next m j h

      term : (d : ℕ) → d < v → after v t (In k d d true) (m + 1) (v + s + j) ≡ x * (v ^ (v - d + j) * rest v w d)
      term d g =
          let e : d + s + (v - d + j) ≡ v + s + j = omega arith in
          let i = in-run v w q t k d shares s enough (leaves d g) d (omega arith) true (m + 1) (v - d + j) (omega arith) in
          let y = v ^ (v - d + j) in
          (rw e at i) ∙ ap (λ (n : ℕ). y * n) (omega (arith, zero-mul (w ^ d))) ∙ mul_left_comm y x (rest v w d)

  earlier : (i k s x enough last : ℕ) → k + i ≡ last → last ≤ run_limit → ((k' : ℕ) → k' < last → NotAt k') → Level v t last s x enough
      → Level v t k (i * v + s) (x * w ^ (i * v)) (enough + i)
  earlier zero k s x enough last e g never base =
      let e' : last ≡ k = omega arith in
      λ m j h. let s' : 0 * v + s ≡ s = omega (arith, zero-mul v) in
      let b = rw e' at (base m j (omega arith)) in
      rw (s', zero-mul v, pow-zero w, mul-one x) b
  earlier (suc i) k s x enough last e g never base =
      let next = earlier i (k + 1) s x enough last (omega arith) g never base in
      let here = one_earlier k (i * v + s) (x * w ^ (i * v)) (enough + i) (omega arith) (never k (omega arith)) next in
      let s' : suc i * v + s ≡ v + (i * v + s) = omega (arith, suc-mul i v) in
      let x' : x * w ^ (suc i * v) ≡ x * w ^ (i * v) * w ^ v = rw (suc-mul i v, power-sum w (i * v) v) (sym (mul_assoc x (w ^ (i * v)) (w ^ v))) in
      λ m j h. rw (s', x') (here m j (omega arith))

-- ---- the run that gives E

-- the reading has passed run k
unfoldable Past : (k : ℕ) → Run → Type 0
Past k (Before n) = k < n
Past k (In n first last odd) = k < n
Past k (Known e) = (k + 1) * draw_values ≤ e
Past k Over = Unit {0}

goes-past : (k : ℕ) (r : Run) (d : ℕ) → Past k r → Past k (read r d)
unfolding Past read next_in_run
goes-past k (Before n) d p = p
goes-past k (In n first last odd) d p = go (ltb d last) odd (eqb (n + 1) run_limit)
  where
    go : (a b c : Bool) → Past k (cond a (In n first d (not odd)) (cond b (Known (n * draw_values + first)) (cond c Over (Before (n + 1)))))
    go true b c = p
    go false true c = omega arith
    go false false true = tt
    go false false false = omega arith
goes-past k (Known e) d p = p
goes-past k Over d p = tt

-- then no E of run k is given any more
none-past : (v k e : ℕ) → e < (k + 1) * draw_values → (n : ℕ) (r : Run) (m : ℕ) → Past k r → after v (is_given e) r m n ≡ 0
unfolding after how_many waiting settled is_given Past
none-past v k e l zero (Before n) m p = refl
none-past v k e l zero (In n first last odd) m p = refl
none-past v k e l zero (Known x) m p = rw (ne_eqb x e (omega arith)) refl
none-past v k e l zero Over m p = refl
none-past v k e l (suc n) (Before i) m p = no-terms v _ (λ d h. none-past v k e l n (read (Before i) d) (m + 1) (goes-past k (Before i) d p))
none-past v k e l (suc n) (In i first last odd) m p = no-terms v _ (λ d h. none-past v k e l n (read (In i first last odd) d) (m + 1) (goes-past k (In i first last odd) d p))
none-past v k e l (suc n) (Known x) m p = known-counts v (is_given e) x m (suc n) ∙ rw (ne_eqb x e (omega arith)) (mul-zero (v ^ suc n))
none-past v k e l (suc n) Over m p = over-counts v (is_given e) m (suc n) ∙ mul-zero (v ^ suc n)

module _ (v w : ℕ) (q : v ≡ suc w) (k u : ℕ) where
  -- the share of runs that begin with d and give this E at odd length
  unfoldable hits : ℕ → Bool → ℕ
  hits d b = cond b (cond (eqb d u) 1 0) 0

  same-run : (d m : ℕ) → is_given (k * draw_values + u) (Ok (k * draw_values + d, m)) ≡ eqb d u
  unfolding is_given
  same-run d m = go (eqb d u) refl
    where
      go : (b : Bool) → eqb d u ≡ b → eqb (k * draw_values + d) (k * draw_values + u) ≡ b
      go true e = let p = eqb-true d u e in eq-eqb (k * draw_values + d) (k * draw_values + u) (omega arith)
      go false e = let p = eqb-false d u e in ne_eqb (k * draw_values + d) (k * draw_values + u) (λ s. p (omega arith))

  module _ (small : u < draw_values) where
    leaves : (d : ℕ) (b : Bool) (m j : ℕ) → 0 ≤ j → after v (is_given (k * draw_values + u)) (ending k d b) m (0 + j) ≡ v ^ j * hits d b
    unfolding hits Past
    leaves d true m j h = let e : 0 + j ≡ j = omega arith in rw e (known-counts v (is_given (k * draw_values + u)) (k * draw_values + d) m j ∙ rw (same-run d m) refl)
    leaves d false m j h = none-past v k (k * draw_values + u) (omega arith) (0 + j) (node (k + 1)) m (go (eqb (k + 1) run_limit)) ∙ sym (mul-zero (v ^ j))
      where
        go : (b : Bool) → Past k (cond b Over (Before (k + 1)))
        go true = tt
        go false = omega arith

    -- a run that began with d
    begun : (d m j : ℕ) → d ≤ v → 0 < j → after v (is_given (k * draw_values + u)) (In k d d true) m (d + 0 + j) ≡ v ^ j * (hits d true * w ^ d + 0 * rest v w d)
    unfolding hits
    begun d m j l h = in-run v w q (is_given (k * draw_values + u)) k d (hits d) 0 0 (leaves d) d l true m j h

    gives-level : k < run_limit → u < v → Level v (is_given (k * draw_values + u)) k (u + 1) (w ^ u) (v - u)
    unfolding hits
    gives-level l g m j h =
        let e : u + 1 + j ≡ suc (u + j) = omega arith in
        rw (at-run v w q (is_given 0) k l, e)
        (before-counts v (is_given (k * draw_values + u)) k m (u + j)
        ∙ same-sums v (λ d. after v (is_given (k * draw_values + u)) (In k d d true) (m + 1) (u + j)) (λ d. cond (eqb d u) (v ^ j * w ^ u) 0) term
        ∙ one-term v u (v ^ j * w ^ u) g)
      where
        term : (d : ℕ) → d < v → after v (is_given (k * draw_values + u)) (In k d d true) (m + 1) (u + j) ≡ cond (eqb d u) (v ^ j * w ^ u) 0
        term d p =
            let e : d + 0 + (u + j - d) ≡ u + j = omega arith in
            (rw e at (begun d (m + 1) (u + j - d) (omega arith) (omega arith))) ∙ go (eqb d u) refl
          where
            go : (b : Bool) → eqb d u ≡ b → v ^ (u + j - d) * (hits d true * w ^ d + 0 * rest v w d) ≡ cond (eqb d u) (v ^ j * w ^ u) 0
            go true e =
                let s = eqb-true d u e in
                let e' : u + j - u ≡ j = omega arith in
                rw (e, s, e', one-mul (w ^ u), zero-mul (rest v w u)) (ap (λ (x : ℕ). v ^ j * x) (omega arith))
            go false e = rw (e, zero-mul (w ^ d), zero-mul (rest v w d)) (mul-zero (v ^ (u + j - d)))

-- ---- shares

as-share : (v s j x c : ℕ) → c ≡ v ^ j * x → c * v ^ s ≡ v ^ (s + j) * x
as-share v s j x c e = rw (e, power-sum v s j) (mul_comm (v ^ j * x) (v ^ s) ∙ sym (mul_assoc (v ^ s) (v ^ j) x))

module _ (v w : ℕ) (q : v ≡ suc w) (small : v ≤ draw_values) where
  first_run : (u n : ℕ) → u < v → u < n → how_many v n (λ ds. is_given u (wait_of (u ∷ ds))) * v ^ u ≡ v ^ n * w ^ u
  unfolding after wait_of waiting settled read hits
  first_run u n l g =
      let e : u + 0 + (n - u) ≡ n = omega arith in
      let e' : u + (n - u) ≡ n = omega arith in
      let o : 0 * draw_values + u ≡ u = omega arith in
      let b = rw (e, eq-eqb u u refl, o) at (begun v w q 0 u (omega arith) u (0 + 1) (n - u) (omega arith) (omega arith)) in
      rw e' at (as-share v u (n - u) (w ^ u) _ (b ∙ ap (λ (x : ℕ). v ^ (n - u) * x) (omega (arith, one-mul (w ^ u), zero-mul (rest v w u)))))

  not-before : (k u : ℕ) → u < v → (k' : ℕ) → k' < k → NotAt v w q (is_given (k * draw_values + u)) k'
  unfolding is_given
  not-before k u l k' g f m h = ne_eqb (k' * draw_values + f) (k * draw_values + u) (λ e. omega arith)

  each : (k u n : ℕ) → k < run_limit → u < v → (k + 1) * (v + 1) ≤ n → waits v n (is_given (k * draw_values + u)) * v ^ (k * v + u + 1) ≡ v ^ n * w ^ (k * v + u)
  unfolding after wait_of settled
  each k u n l g h =
      let s = k * v + (u + 1) in
      let room : s + (v - u + k) ≤ n = omega (arith, add-mul k 1 (v + 1), mul-add k v 1) in
      let e : s + (n - s) ≡ n = omega arith in
      let s' : k * v + u + 1 ≡ s = omega arith in
      let x' : w ^ (k * v + u) ≡ w ^ u * w ^ (k * v) = power-sum w (k * v) u ∙ mul_comm (w ^ (k * v)) (w ^ u) in
      let base = gives-level v w q k u (omega arith) l g in
      let c = earlier v w q (is_given (k * draw_values + u)) k 0 (u + 1) (w ^ u) (v - u) k (omega arith) (omega arith) (not-before k u g) base 0 (n - s) (omega arith) in
      rw (s', x') (rw e at (as-share v s (n - s) (w ^ u * w ^ (k * v)) _ (rw e at c)))

  -- with k at 32 all is decided
  from_last : (t : Wait → Bool) → ((k : ℕ) → NotAt v w q t k) → (n : ℕ) → run_limit * (v + 1) ≤ n
      → waits v n t ≡ v ^ (n - run_limit * v) * (cond (t (Err Long)) 1 0 * w ^ (run_limit * v))
  unfolding after wait_of settled
  from_last t never n h =
      let s = run_limit * v in
      let e : s + 0 + (n - s) ≡ n = omega arith in
      let base : Level v t run_limit 0 (cond (t (Err Long)) 1 0) 0 = λ m j h. let z : 0 + j ≡ j = omega arith in rw z (over-counts v t m j) in
      rw e at (earlier v w q t run_limit 0 0 (cond (t (Err Long)) 1 0) 0 run_limit (omega arith) (omega arith) (λ k l. never k) base 0 (n - s) (omega arith))

  long : (n : ℕ) → run_limit * (v + 1) ≤ n → waits v n is_long * v ^ (run_limit * v) ≡ v ^ n * w ^ (run_limit * v)
  unfolding is_long
  long n h =
      let s = run_limit * v in
      let e : s + (n - s) ≡ n = omega arith in
      rw e at (as-share v s (n - s) (w ^ s) _ (from_last is_long (λ k f m l. refl) n h ∙ ap (λ (x : ℕ). v ^ (n - s) * x) (one-mul (w ^ s))))

  decided : (n : ℕ) → run_limit * (v + 1) ≤ n → waits v n is_ended ≡ 0
  unfolding is_ended
  decided n h =
      let s = run_limit * v in
      from_last is_ended (λ k f m l. refl) n h ∙ ap (λ (x : ℕ). v ^ (n - s) * x) (zero-mul (w ^ s)) ∙ mul-zero (v ^ (n - s))

-- 02, note 4: the law, for draws of any number of values up to 65,536
pub law : (values : ℕ) → 0 < values → values ≤ draw_values → Law values
law values l small =
    let q : values ≡ suc (values - 1) = omega arith in
    record {
      first_run = first_run values (values - 1) q small;
      each = each values (values - 1) q small;
      long = long values (values - 1) q small;
      decided = decided values (values - 1) q small;
    }

-- 02, note 4: E is geometric
pub geometric : Geometric
geometric e n l h =
    let k = e / draw_values in
    let u = e % draw_values in
    let p : k * draw_values + u ≡ e = omega arith in
    let d = (law draw_values (omega arith) (omega arith)).each k u n (omega arith) (omega arith) (omega arith) in
    rw p at d
