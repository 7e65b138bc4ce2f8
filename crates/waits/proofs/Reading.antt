-- What a loop over waiting draws has read: the rest of the draws comes to what they all do. By cases of what one more draw makes of a run.
use mathlib.Core.Path.{◌≡◌, refl, sym, ap, ◌∙◌}
use mathlib.Core.Bool.{Bool, true, false, not}
use mathlib.Core.List.{List, [], ◌∷◌}
use mathlib.Core.Logic.{◌⊎◌, inl, inr}
use Prim.Native.Nat.{ℕ, zero, suc, ◌+◌, ◌*◌, ◌≤◌, ◌<◌}
use native.Mathlib.Omega.{arith}
use borrow.Author.Tests.{lt-ltb, le-ltb, eq-eqb, ne_eqb}
use lib.ListN.{length, get_or, drop}
use Rattle.std.specs.Prelude.{Err, Ok}
use Rattle.waits.specs.declared.Unread.TheVariants.{Ended, Long}
use Rattle.waits.specs.declared.Run.{Run}
use Rattle.waits.specs.declared.Run.TheVariants.{Before, In, Known, Over}
use Rattle.waits.specs.Runs.{next_in_run, read, settled, waiting, wait_of, Fits, Within}

-- ---- one draw within a run

-- it goes on
pub goes_on : (k first last : ℕ) (odd : Bool) (d : ℕ) → k < 32 → first < 65536 → d < last → (In k first d (not odd) ≡ next_in_run k first last odd d) × Fits (In k first d (not odd))
unfolding next_in_run Fits
goes_on k first last odd d a b l = (sym (rw (lt-ltb d last l) refl), (a, b))

-- it ends, at odd length
pub ends-odd : (k first last d : ℕ) → k < 32 → first < 65536 → last ≤ d → (Known (k * 65536 + first) ≡ next_in_run k first last true d) × Fits (Known (k * 65536 + first))
unfolding next_in_run Fits
ends-odd k first last d a b l = (sym (rw (le-ltb d last l) refl), omega arith)

-- at even length: k would be 32, or not
pub ends_last : (k first last d : ℕ) → last ≤ d → k + 1 ≡ 32 → (Over ≡ next_in_run k first last false d) × Fits Over
unfolding next_in_run Fits
ends_last k first last d l e = (sym (rw (le-ltb d last l, eq-eqb (k + 1) 32 e) refl), tt)

pub ends-even : (k first last d : ℕ) → k < 32 → last ≤ d → (k + 1 ≡ 32 → ⊥) → (Before (k + 1) ≡ next_in_run k first last false d) × Fits (Before (k + 1))
unfolding next_in_run Fits
ends-even k first last d a l e = (sym (rw (le-ltb d last l, ne_eqb (k + 1) 32 e) refl), omega (arith, e))

-- ---- one draw, wherever the reading stands
pub first-draw : (r : Run) (k d : ℕ) → r ≡ Before k → Fits r → d < 65536 → (In k d d true ≡ read r d) × Fits (In k d d true)
unfolding read Fits
first-draw r k d p f l = let f' = rw p at f in (rw p refl, (f', l))

pub in-run : (r : Run) (k u v : ℕ) (b : Bool) → r ≡ In k u v b → Fits r → (k < 32) × (u < 65536)
unfolding Fits
in-run r k u v b p f = rw p at f

pub next-draw : (r t : Run) (k u v : ℕ) (b : Bool) (d : ℕ) → r ≡ In k u v b → t ≡ next_in_run k u v b d → Fits t → (t ≡ read r d) × Fits t
unfolding read
next-draw r t k u v b d p q f = (rw p q, f)

pub stays : (r : Run) (d : ℕ) → ((e : ℕ) × (r ≡ Known e)) ⊎ (r ≡ Over) → r ≡ read r d
unfolding read
stays r d (inl (e, p)) = rw p refl
stays r d (inr p) = rw p refl

-- ---- the loop

-- at draw i, with the run so far
pub record At (ds : List ℕ) (r : Run) (i : ℕ) : Type 0 where
  pub fits : Fits r
  pub inside : i ≤ length ds
  pub same : waiting r i (drop i ds) ≡ wait_of ds

pub begins : (ds : List ℕ) → At ds (Before 0) 0
unfolding wait_of Fits
begins ds = record { fits = omega arith; inside = omega arith; same = refl }

drop-next : (ds : List ℕ) (i : ℕ) → i < length ds → drop i ds ≡ get_or ds i 0 ∷ drop (i + 1) ds
drop-next [] i l = absurd (omega arith)
drop-next (d ∷ ds) zero l = refl
drop-next (d ∷ ds) (suc i) l =
    let e : suc i + 1 ≡ suc (i + 1) = omega arith in
    rw e (drop-next ds i (omega arith))

next : (ds : List ℕ) (r : Run) (i : ℕ) → At ds r i → i < length ds → (t : Run) → t ≡ read r (get_or ds i 0) → settled t (i + 1) (waiting t (i + 1) (drop (i + 1) ds)) ≡ wait_of ds
unfolding waiting
next ds r i a l t e = rw e (ap (waiting r i) (sym (drop-next ds i l)) ∙ a.same)

module _ (ds : List ℕ) (r : Run) (i : ℕ) (a : At ds r i) (l : i < length ds) (t : Run) (q : t ≡ read r (get_or ds i 0)) (f : Fits t) where
  -- E is known
  pub knows : (e : ℕ) → t ≡ Known e → (Ok (e, i + 1) ≡ wait_of ds) × Within (length ds) (Ok (e, i + 1))
  unfolding settled Fits Within
  knows e p = let f' = rw p at f in (next ds r i a l (Known e) (sym p ∙ q), (f', omega arith))

  -- k would be 32
  pub over : t ≡ Over → (Err Long ≡ wait_of ds) × Within (length ds) (Err Long)
  unfolding settled Within
  over p = (next ds r i a l Over (sym p ∙ q), tt)

  -- another run begins
  before : (k : ℕ) → t ≡ Before k → At ds t (i + 1)
  unfolding settled
  before k p = rw p record { fits = rw p at f; inside = omega arith; same = next ds r i a l (Before k) (sym p ∙ q) }

  -- the run goes on
  within : (k u v : ℕ) (b : Bool) → t ≡ In k u v b → At ds t (i + 1)
  unfolding settled
  within k u v b p = rw p record { fits = rw p at f; inside = omega arith; same = next ds r i a l (In k u v b) (sym p ∙ q) }

  pub on : ((k : ℕ) × (t ≡ Before k)) ⊎ ((k : ℕ) × (u : ℕ) × (v : ℕ) × (b : Bool) × (t ≡ In k u v b)) → At ds t (i + 1)
  on (inl (k, p)) = before k p
  on (inr (k, u, v, b, p)) = within k u v b p

-- the draws end
pub ended : (ds : List ℕ) (r : Run) (i : ℕ) → At ds r i → length ds ≤ i → (Err Ended ≡ wait_of ds) × Within (length ds) (Err Ended)
unfolding waiting Within
ended ds r i a l = (go (drop i ds) (drop_all ds i l) ∙ a.same, tt)
  where
    drop_all : (ds : List ℕ) (i : ℕ) → length ds ≤ i → drop i ds ≡ []
    drop_all [] zero l = refl
    drop_all [] (suc i) l = refl
    drop_all (d ∷ ds) zero l = absurd (omega arith)
    drop_all (d ∷ ds) (suc i) l = drop_all ds i (omega arith)

    go : (rest : List ℕ) → rest ≡ [] → Err Ended ≡ waiting r i rest
    go rest e = rw e refl
