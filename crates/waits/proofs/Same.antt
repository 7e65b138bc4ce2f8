-- The definition draw by draw and the one by runs agree: each list of draws comes to one answer, and it is the function's. By induction on runs, and on the number of draws.
use mathlib.Core.Path.{◌≡◌, refl, sym, ap, subst, ◌∙◌}
use mathlib.Core.Bool.{Bool, true, false, not}
use mathlib.Core.List.{List, [], ◌∷◌, ◌++◌, append-nil}
use mathlib.Core.Logic.{◌↔◌}
use Prim.Native.Nat.{ℕ, zero, suc, ◌+◌, ◌*◌, ◌≤◌, ◌<◌}
use native.Mathlib.Omega.{arith}
use borrow.Author.Tests.{ltb-true, ltb-false, lt-ltb, le-ltb, eqb-true, eqb-false, eq-eqb, ne_eqb}
use lib.Dec.{eqb, ltb}
use lib.ListN.{length, length-append}
use Rattle.std.specs.Prelude.{Err, Ok}
use Rattle.waits.specs.declared.Unread.TheVariants.{Ended, Long}
use Rattle.waits.specs.declared.Run.TheVariants.{Before, In}
use Rattle.waits.specs.Runs.{next_in_run, read, settled, waiting, wait_of, Wait}
use Rattle.waits.specs.ByRuns.{Falling, alone, then, is_odd, later, Waits, none_left, unended, gives, over, again}

-- ---- counts
abbrev given : (e used : ℕ) → Wait
given e n = Ok (e, n)

later-later : (a b : ℕ) (w : Wait) → later a (later b w) ≡ later (a + b) w
unfolding later
later-later a b (Ok (e, u)) = let q : a + (b + u) ≡ a + b + u = omega arith in ap (given e) q
later-later a b (Err Ended) = refl
later-later a b (Err Long) = refl

not-not : (b : Bool) → not (not b) ≡ b
not-not true = refl
not-not false = refl

-- ---- a run, draw by draw

-- the parity with so many more draws
unfoldable turns : ℕ → Bool → Bool
turns zero b = b
turns (suc n) b = turns n (not b)

turns-odd : (n : ℕ) (b : Bool) → turns n (not b) ≡ not (turns n b)
unfolding turns
turns-odd zero b = refl
turns-odd (suc n) b = turns-odd n (not b)

odd-turns : (n : ℕ) → turns n true ≡ is_odd (suc n)
unfolding turns is_odd
odd-turns zero = refl
odd-turns (suc n) = turns-odd n true ∙ ap not (odd-turns n)

-- the draws of a run that are left are read within it
through : (k first n : ℕ) (b : Bool) {u v : ℕ} {us : List ℕ} (rest : List ℕ) → Falling u us v
    → waiting (In k first u b) n (us ++ rest) ≡ waiting (In k first v (turns (length us) b)) (n + length us) rest
unfolding waiting read next_in_run settled turns
through k first n b rest alone = let q : n ≡ n + 0 = omega arith in ap (λ m. waiting (In k first _ b) m rest) q
through k first n b rest (then {u} {d} {v} {us} l f) =
    let q : n + 1 + length us ≡ n + suc (length us) = omega arith in
    rw (lt-ltb d u l) (through k first (n + 1) (not b) rest f ∙ ap (λ m. waiting (In k first v (turns (length us) (not b))) m rest) q)

-- from its first draw
whole : (k n : ℕ) {u v : ℕ} {us : List ℕ} (rest : List ℕ) → Falling u us v
    → waiting (Before k) n (u ∷ (us ++ rest)) ≡ waiting (In k u v (is_odd (suc (length us)))) (n + 1 + length us) rest
unfolding waiting read settled
whole k n {u} {v} {us} rest f = through k u (n + 1) true rest f ∙ ap (λ b. waiting (In k u v b) (n + 1 + length us) rest) (odd-turns (length us))

-- ---- the function's answer is the only one
pub only : {k : ℕ} {ds : List ℕ} {w : Wait} (n : ℕ) → Waits k ds w → waiting (Before k) n ds ≡ later n w
unfolding waiting read next_in_run settled later
only n none_left = refl
only n (unended {k} {u} {v} {us} f) = ap (λ (l : List ℕ). waiting (Before k) n (u ∷ l)) (sym (append-nil us)) ∙ whole k n [] f
only n (gives {k} {u} {v} {us} d ds f l o) =
    let q : n + 1 + length us + 1 ≡ n + (length us + 2) = omega arith in
    whole k n (d ∷ ds) f ∙ rw (o, le-ltb d v l) (ap (given (k * 65536 + u)) q)
only n (over {k} {u} {v} {us} d ds f l o e) = whole k n (d ∷ ds) f ∙ rw (o, le-ltb d v l, eq-eqb (k + 1) 32 e) refl
only n (again {k} {u} {v} {us} {w} d ds f l o e g) =
    let q : n + 1 + length us + 1 ≡ n + (length us + 2) = omega arith in
    whole k n (d ∷ ds) f ∙ rw (o, le-ltb d v l, ne_eqb (k + 1) 32 e) (only (n + 1 + length us + 1) g ∙ ap (λ m. later m w) q ∙ sym (later-later n (length us + 2) w))

-- ---- and there is one

-- the draws after u: a run that doesn't end, or one that d ends
data Cut (u : ℕ) : List ℕ → Type 0 where
  runs_on : {us : List ℕ} {v : ℕ} → Falling u us v → Cut u us
  ends : {us : List ℕ} {v : ℕ} (d : ℕ) (ds : List ℕ) → Falling u us v → v ≤ d → Cut u (us ++ d ∷ ds)

cut : (u : ℕ) (l : List ℕ) → Cut u l
cut u [] = runs_on alone
cut u (d ∷ l) = go (ltb d u) refl (cut d l)
  where
    longer : d < u → {l : List ℕ} → Cut d l → Cut u (d ∷ l)
    longer p (runs_on f) = runs_on (then p f)
    longer p (ends b ds f q) = ends b ds (then p f) q

    go : (b : Bool) → ltb d u ≡ b → Cut d l → Cut u (d ∷ l)
    go true e c = longer (ltb-true d u e) c
    go false e c = ends d l alone (ltb-false d u e)

-- some answer for every list of at most so many draws
abbrev Answered : ℕ → Type 0
Answered fuel = (k : ℕ) (l : List ℕ) → length l ≤ fuel → (w : Wait) × Waits k l w

ended : {k u v : ℕ} {us : List ℕ} (d : ℕ) (ds : List ℕ) → Falling u us v → v ≤ d → (b : Bool) → is_odd (suc (length us)) ≡ b → (a : Bool) → eqb (k + 1) 32 ≡ a
    → ((w : Wait) × Waits (k + 1) ds w) → (w : Wait) × Waits k (u ∷ (us ++ d ∷ ds)) w
ended d ds f p true o a q r = (_, gives d ds f p o)
ended {k} d ds f p false o true q r = (Err Long, over d ds f p o (eqb-true (k + 1) 32 q))
ended {k} d ds f p false o false q r = (_, again d ds f p o (eqb-false (k + 1) 32 q) r.1)

one-run : (fuel k u : ℕ) {l : List ℕ} → Cut u l → length l ≤ fuel → Answered fuel → (w : Wait) × Waits k (u ∷ l) w
one-run fuel k u (runs_on f) h next = (Err Ended, unended f)
one-run fuel k u (ends {us} d ds f p) h next =
    ended d ds f p (is_odd (suc (length us))) refl (eqb (k + 1) 32) refl (next (k + 1) ds (omega (arith, length-append us (d ∷ ds))))

first_run : (fuel k : ℕ) (l : List ℕ) → length l ≤ suc fuel → Answered fuel → (w : Wait) × Waits k l w
first_run fuel k [] e next = (Err Ended, none_left)
first_run fuel k (u ∷ l) e next = one-run fuel k u (cut u l) (omega arith) next

no-draw : (k : ℕ) (l : List ℕ) → length l ≤ 0 → (w : Wait) × Waits k l w
no-draw k [] e = (Err Ended, none_left)
no-draw k (u ∷ l) e = absurd (omega arith)

some-wait : (fuel k : ℕ) (l : List ℕ) → length l ≤ fuel → (w : Wait) × Waits k l w
some-wait zero k l e = no-draw k l e
some-wait (suc fuel) k l e = first_run fuel k l e (λ k' l' e'. some-wait fuel k' l' e')

later-none : (w : Wait) → later 0 w ≡ w
unfolding later
later-none (Ok (e, u)) = let q : 0 + u ≡ u = omega arith in ap (given e) q
later-none (Err Ended) = refl
later-none (Err Long) = refl

-- 02, note 4: what draws come to, by runs, is what the function answers
pub by_runs : (ds : List ℕ) (w : Wait) → Waits 0 ds w ↔ (wait_of ds ≡ w)
unfolding wait_of
by_runs ds w = (
  λ g. only 0 g ∙ later-none w,
  λ e. let r = some-wait (length ds) 0 ds (omega arith) in
      let q : r.0 ≡ w = sym (only 0 r.1 ∙ later-none r.0) ∙ e in
      subst (λ (x : Wait). Waits 0 ds x) q r.1,
)
