-- What the search for a pair says of the whole state's numbers, where it is lit and where it is not.
use mathlib.Core.Path.{◌≡◌, sym, ap, ◌∙◌}
use mathlib.Core.Bool.{Bool, true, false}
use mathlib.Core.List.{List}
use Prim.Native.Nat.{ℕ, ◌-◌, ◌≤◌, ◌<◌}
use native.Mathlib.Omega.{arith}
use lib.IntN.{ℤ, nat_abs}
use lib.ListN.{length, take, drop}
use Rattle.machine.specs.State.{pair_width}
use Rattle.state.specs.Test.{at, rows, ascends, place_of, is_lit, pair_part}
use Rattle.state.specs.Change.{pair_rows, pair_added, pair_taken, pair_launched, pair_killed, pairs_from}
use Rattle.state.specs.Read.{Passed}
use Rattle.state.proofs.Part.{tail-part}
use Rattle.state.proofs.Places.{place-bound, lit-place}
use Rattle.state.proofs.Rows.{rows-length}
use Rattle.state.proofs.Image.{parts}
use Rattle.state.proofs.Read.{few-pairs}

-- ---- the pairs of a state
pub part-rows : (zs : List ℤ) (n : ℕ) → n ≡ nat_abs (at zs 1) → rows pair_width n (take (length zs - pairs_from) (drop pairs_from zs)) ≡ pair_rows zs
part-rows zs n q = ap (rows pair_width n) (tail-part pairs_from zs) ∙ ap (λ (m : ℕ). rows pair_width m (pair_part zs)) q

pub rows_counted : (zs : List ℤ) (rs : List (List ℤ)) → rs ≡ pair_rows zs → length rs ≡ nat_abs (at zs 1)
rows_counted zs rs e = ap length e ∙ rows-length pair_width (nat_abs (at zs 1)) (pair_part zs)

pub rows_ascend : (zs : List ℤ) → Passed zs → ascends (pair_rows zs) ≡ true
rows_ascend zs h = (parts h.scopes h.few h.channels zs h.long h.passes).pair-order

module _ (zs : List ℤ) (h : Passed zs) (row : List ℤ) (place : ℕ) (p : place ≡ place_of row (pair_rows zs)) (t : Bool) (e : t ≡ is_lit row (pair_rows zs)) where
  -- ---- a launch
  pub launch-stays : t ≡ true → zs ≡ pair_launched row zs
  unfolding pair_launched
  launch-stays f = rw (sym e ∙ f)

  pub launch-adds : t ≡ false → (ys : List ℤ) → ys ≡ pair_added place row zs → ys ≡ pair_launched row zs
  unfolding pair_launched
  launch-adds f ys g = rw (sym e ∙ f) (g ∙ ap (λ (i : ℕ). pair_added i row zs) p)

  pub launch-room : t ≡ false → (is_lit row (pair_rows zs) ≡ false → nat_abs (at zs 1) < 256) → (place < 256) × (nat_abs (at zs 1) < 256)
  launch-room f room =
      let l = room (sym e ∙ f) in
      (omega (arith, p, place-bound row (pair_rows zs), rows-length pair_width (nat_abs (at zs 1)) (pair_part zs)), l)

  -- ---- a kill
  pub kill-stays : t ≡ false → zs ≡ pair_killed row zs
  unfolding pair_killed
  kill-stays f = rw (sym e ∙ f)

  pub kill-takes : t ≡ true → (ys : List ℤ) → ys ≡ pair_taken place zs → ys ≡ pair_killed row zs
  unfolding pair_killed
  kill-takes f ys g = rw (sym e ∙ f) (g ∙ ap (λ (i : ℕ). pair_taken i zs) p)

  pub kill-room : t ≡ true → (place < 256) × (1 ≤ nat_abs (at zs 1))
  kill-room f =
      let l = lit-place row (pair_rows zs) (sym e ∙ f) in
      let m = rows-length pair_width (nat_abs (at zs 1)) (pair_part zs) in
      (omega (arith, p, few-pairs zs h), omega arith)
