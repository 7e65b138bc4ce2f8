-- Of the draws that can follow within a run, how many make its length odd and how many even: by induction on its latest draw l. With one more value below the latest, the draws that ended the run at l go on with it.
use mathlib.Core.Path.{◌≡◌, refl, sym, ap, ◌∙◌}
use mathlib.Core.Bool.{Bool, true, false, not, cond}
use Prim.Native.Nat.{ℕ, zero, suc, ◌+◌, ◌*◌, ◌^◌, ◌≤◌, ◌<◌}
use native.Mathlib.Nat.{pow-zero, pow-suc, suc-mul, mul-one, mul-zero, mul_comm, mul_assoc, mul_left_comm, mul-add, add-mul}
use native.Mathlib.Omega.{arith}
use lib.Dec.{eqb, ltb}
use Rattle.std.specs.Prelude.{Err, Ok}
use Rattle.waits.specs.declared.Unread.TheVariants.{Long}
use Rattle.waits.specs.declared.Run.{Run}
use Rattle.waits.specs.declared.Run.TheVariants.{Before, In, Known, Over}
use Rattle.waits.specs.Runs.{draw_values, run_limit, next_in_run, read, settled, waiting, Wait}
use Rattle.waits.specs.Law.{sum_below, how_many}
use Rattle.waits.proofs.Sums.{same-sums, none_before, cut_later, power-sum, all-or-none}

-- of the lists of n draws, how many come to what a test asks, read from r on with m used
unfoldable pub after : (v : ℕ) (t : Wait → Bool) → Run → (m n : ℕ) → ℕ
after v t r m n = how_many v n (λ ds. t (settled r m (waiting r m ds)))

-- before a run, or at the end
abbrev pub node : ℕ → Run
node k = cond (eqb k run_limit) Over (Before k)

-- where a run that began with `first` leaves the reading
abbrev pub ending : (k first : ℕ) → (odd : Bool) → Run
ending k first odd = cond odd (Known (k * draw_values + first)) (node (k + 1))

module _ (v : ℕ) (t : Wait → Bool) where
  pub known-counts : (e m n : ℕ) → after v t (Known e) m n ≡ v ^ n * cond (t (Ok (e, m))) 1 0
  unfolding after settled
  known-counts e m n = all-or-none v n (t (Ok (e, m)))

  pub over-counts : (m n : ℕ) → after v t Over m n ≡ v ^ n * cond (t (Err Long)) 1 0
  unfolding after settled
  over-counts m n = all-or-none v n (t (Err Long))

  pub before-counts : (k m n : ℕ) → after v t (Before k) m (suc n) ≡ sum_below v (λ d. after v t (In k d d true) (m + 1) n)
  unfolding after how_many waiting settled read
  before-counts k m n = refl

  in-counts : (k first l : ℕ) (b : Bool) (m n : ℕ) → after v t (In k first l b) m (suc n) ≡ sum_below v (λ d. after v t (next_in_run k first l b d) (m + 1) n)
  unfolding after how_many waiting settled read
  in-counts k first l b m n = refl

  either : (c : Bool) (r s : Run) (m n : ℕ) → after v t (cond c r s) m n ≡ cond c (after v t r m n) (after v t s m n)
  either true r s m n = refl
  either false r s m n = refl

  -- a draw below the latest goes on with the run, any other ends it
  split : (k first l : ℕ) (b : Bool) (m n : ℕ)
      → after v t (In k first l b) m (suc n) ≡ sum_below v (λ d. cond (ltb d l) (after v t (In k first d (not b)) (m + 1) n) (after v t (ending k first b) (m + 1) n))
  unfolding next_in_run
  split k first l b m n = in-counts k first l b m n ∙ same-sums v _ _ (λ d h. either (ltb d l) (In k first d (not b)) (ending k first b) (m + 1) n)

-- ---- what v ^ l leaves of w ^ l, v being w + 1
unfoldable pub rest : (v w l : ℕ) → ℕ
rest v w zero = 0
rest v w (suc l) = v * rest v w l + w ^ l

module _ (v w : ℕ) (q : v ≡ suc w) where
  pub once_more : (x : ℕ) → v * x ≡ w * x + x
  once_more x = rw q (suc-mul w x)

  pub whole : (l : ℕ) → v ^ l ≡ w ^ l + rest v w l
  unfolding rest
  whole zero = rw (pow-zero v, pow-zero w) refl
  whole (suc l) =
      rw (pow-suc v l, pow-suc w l, whole l, mul_comm (w ^ l + rest v w l) v, mul-add v (w ^ l) (rest v w l), mul_comm (w ^ l) w) (omega (arith, once_more (w ^ l)))

  -- of the draws that follow, shares a and c that end at the parity of now and at the other
  abbrev pub share : (a c l : ℕ) → ℕ
  share a c l = a * w ^ l + c * rest v w l

  share-next : (a c l : ℕ) → share a c (suc l) + v ^ l * a ≡ v * share a c l + share c a l
  unfolding rest
  share-next a c l =
      let p = w ^ l in
      let d = rest v w l in
      rw (pow-suc w l, whole l, mul-add v (a * p) (c * d), mul-add c (v * d) p, add-mul p d a)
      (omega (
        arith,
        mul_comm p a,
        mul_comm d a,
        ap (λ (x : ℕ). a * x) (mul_comm p w),
        mul_left_comm a w p,
        mul_left_comm c v d,
        once_more (a * p),
        once_more (c * d),
      ))

-- ---- within a run

not-not : (b : Bool) → not (not b) ≡ b
not-not true = refl
not-not false = refl

-- one more value below the latest draw: what ended the run is replaced by what goes on
left_over : (v w : ℕ) (q : v ≡ suc w) (a c l j n ended same other : ℕ) → n + ended ≡ same + other → ended ≡ v ^ (l + j) * a → same ≡ v ^ suc j * share v w q a c l → other ≡ v ^ j * share v w q c a l
    → n ≡ v ^ j * share v w q a c (suc l)
left_over v w q a c l j n ended same other h x1 x2 x3 =
    let y = v ^ j in
    let e1 : v ^ (l + j) * a ≡ y * (v ^ l * a) = rw (power-sum v l j) (mul_assoc (v ^ l) y a ∙ mul_left_comm (v ^ l) y a) in
    let e2 : v ^ suc j * share v w q a c l ≡ y * (v * share v w q a c l) = rw (pow-suc v j) (mul_assoc y v (share v w q a c l)) in
    let e3 = ap (λ (x : ℕ). y * x) (share-next v w q a c l) in
    omega (
      arith,
      e1,
      e2,
      e3,
      mul-add y (share v w q a c (suc l)) (v ^ l * a),
      mul-add y (v * share v w q a c l) (share v w q c a l),
    )

module _ (v w : ℕ) (q : v ≡ suc w) (t : Wait → Bool) (k first : ℕ) (a : Bool → ℕ) (s enough : ℕ)
    (ends : (b : Bool) (m j : ℕ) → enough ≤ j → after v t (ending k first b) m (s + j) ≡ v ^ j * a b) where
  pub in-run : (l : ℕ) → l ≤ v → (b : Bool) (m j : ℕ) → enough < j → after v t (In k first l b) m (l + s + j) ≡ v ^ j * share v w q (a b) (a (not b)) l
  unfolding rest
  in-run zero h b m zero g = absurd (omega arith)
  in-run zero h b m (suc j) g =
      let e : 0 + s + suc j ≡ suc (s + j) = omega arith in
      let f : enough ≤ j = omega arith in
      rw e (
      split v t k first 0 b m (s + j)
      ∙ none_before v (λ d. after v t (In k first d (not b)) (m + 1) (s + j)) (after v t (ending k first b) (m + 1) (s + j))
      ∙ rw (ends b (m + 1) j f, pow-zero w, mul-one (a b), mul-zero (a (not b)), pow-suc v j)
      (sym (mul_assoc v (v ^ j) (a b)) ∙ ap (λ (x : ℕ). x * a b) (mul_comm v (v ^ j)) ∙ ap (λ (x : ℕ). v ^ j * v * x) (omega arith)))
  in-run (suc l) h b m j g =
      let n = l + s + j in
      let e : suc l + s + j ≡ suc n = omega arith in
      let e' : l + s + suc j ≡ suc n = omega arith in
      let e'' : s + (l + j) ≡ n = omega arith in
      let f : enough ≤ l + j = omega arith in
      let same = in-run l (omega arith) b m (suc j) (omega arith) in
      let other = in-run l (omega arith) (not b) (m + 1) j g in
      let ended = ends b (m + 1) (l + j) f in
      let h = cut_later v l (λ d. after v t (In k first d (not b)) (m + 1) n) (after v t (ending k first b) (m + 1) n) (omega arith) in
      let same' = rw (e', split v t k first l b m n) at same in
      let other' = rw (not-not b) at other in
      let ended' = rw e'' at ended in
      rw (e, split v t k first (suc l) b m n) (left_over v w q (a b) (a (not b)) l j _ _ _ _ h ended' same' other')
