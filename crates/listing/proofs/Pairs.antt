-- What a state's numbers say of its lit pairs. From the laws of states.
use Prim.Native.Nat.{ℕ, ◌+◌, ◌≤◌, ◌<◌}
use mathlib.Core.Path.{◌≡◌, refl, ap, ◌∙◌}
use mathlib.Core.Bool.{true}
use mathlib.Core.List.{List, [], ◌∷◌, ◌++◌, map}
use mathlib.Core.Option.{some}
use native.Mathlib.Omega.{arith}
use lib.IntN.{ℤ, pos, nat_abs}
use lib.ListN.{length, get_or, get_elem?, set}
use mir.Syntax.{w64}
use mir.Val.{to_z, of_z, Fits}
use lib.Dec.{T}
use lib.Signed.{non_neg}
use Rattle.value.proofs.Kit.{back}
use Rattle.model.specs.Resolved
use Rattle.model.proofs.Members.{got-some}
use Rattle.rules.specs.Offers as offers
use Rattle.rules.specs.Pairs.{item_numbers, channel_numbers}
use Rattle.value.specs.Items.{one_item, two_items, three_items}
use Rattle.model.specs.Good.{OneOrTwo}
use Rattle.machine.specs.State.{State, GoodPair, padded, pair_numbers, channel_width, pair_width}
use Rattle.machine.proofs.Branches.{get_nth}
use Rattle.machine.proofs.Everys.{every-nth}
use Rattle.state.specs.Read.{pair_count, pair_row}
use Rattle.state.specs.Fits.{scopes_of}
use Rattle.state.proofs.Over.{good-fits, few-scopes}
use Rattle.state.proofs.Read.{count-numbers, row-numbers}
use Rattle.state.proofs.Entries.{pair-shape}
use Rattle.eval.specs.Shown as shown
use Rattle.eval.specs.Shown.{ShowsValues}
use Rattle.eval.specs.Channels.{ShowsChannel, numbers_of}
use Rattle.eval.proofs.Shapes.{numbers-are}
use Rattle.state.specs.Test.{rows, ascends, place_of, values_past, pair_part}
use Rattle.state.proofs.Image.{pair-rows}
use Rattle.state.proofs.Climbs.{climbing}
use Rattle.state.proofs.Channel.{row_on, run-bound, run-exact}
use Rattle.listing.specs.Ready.{RunIs}
use Rattle.listing.proofs.Runs.{matches-off}
use mathlib.Core.Logic.{⊎_elim}
use Rattle.offers.specs.Collect.{World}

-- the row of a pair, and the values that it has
pub record PairRow (row vs : List ℤ) : Type 0 where
  pub wide : length row ≡ pair_width
  pub count-is : get_or row channel_width (pos 0) ≡ pos (length vs)
  pub few : length vs ≤ 2
  pub values : ShowsValues (length vs) (get_or row (channel_width + 1) (pos 0)) (pos 0) (get_or row (channel_width + 2) (pos 0)) (pos 0) vs

numbers-row : (c : offers.Channel) (vs : List ℤ) → OneOrTwo vs → PairRow (channel_numbers c (pos (length vs) ∷ padded 2 vs)) vs
unfolding channel_numbers item_numbers padded
numbers-row c [] o = absurd (omega (arith, o.one))
numbers-row (one_item a) (v ∷ []) o = record { wide = refl; count-is = refl; few = omega arith; values = shown.ShowsValues.one refl refl refl refl refl }
numbers-row (two_items a b) (v ∷ []) o = record { wide = refl; count-is = refl; few = omega arith; values = shown.ShowsValues.one refl refl refl refl refl }
numbers-row (three_items a b c) (v ∷ []) o = record { wide = refl; count-is = refl; few = omega arith; values = shown.ShowsValues.one refl refl refl refl refl }
numbers-row (one_item a) (v ∷ u ∷ []) o = record { wide = refl; count-is = refl; few = omega arith; values = shown.ShowsValues.two refl refl refl refl refl }
numbers-row (two_items a b) (v ∷ u ∷ []) o = record { wide = refl; count-is = refl; few = omega arith; values = shown.ShowsValues.two refl refl refl refl refl }
numbers-row (three_items a b c) (v ∷ u ∷ []) o = record { wide = refl; count-is = refl; few = omega arith; values = shown.ShowsValues.two refl refl refl refl refl }
numbers-row c (v ∷ u ∷ w ∷ vs) o = absurd (omega (arith, o.two))

module _ {t roots scopes : List ℕ} {zs : List ℤ} {m : Resolved.Model} {s : State} (w : World t roots scopes zs m s) where
  pub pairs-are : pair_count zs ≡ length s.pairs
  pairs-are = ap pair_count w.numbers ∙ (count-numbers (scopes_of m) (few-scopes m w.good) m.channels s (good-fits m s w.good w.state)).1

  pub some_pair : (q : ℕ) → q < pair_count zs → (x : offers.Pair) × (get_elem? s.pairs q ≡ some x)
  some_pair q l = got-some s.pairs q (omega (arith, pairs-are))

  pub pair-at : (q : ℕ) (x : offers.Pair) → get_elem? s.pairs q ≡ some x → (row : List ℤ) → row ≡ pair_row zs q → PairRow row x.values
  pair-at q x at row e =
      let g = every-nth (GoodPair m) w.state.pairs (get_nth s.pairs q at) in
      let r = e ∙ ap (λ y. pair_row y q) w.numbers ∙ row-numbers (scopes_of m) (few-scopes m w.good) m.channels s (good-fits m s w.good w.state) q x at ∙ pair-shape x in
      rw r (numbers-row x.channel x.values g.number)

-- a small count as an i64
pub count-cast : (z : ℤ) (n : ℕ) → z ≡ pos n → n ≤ 2 → T (non_neg (to_z w64 (of_z w64 z))) × Fits w64 (nat_abs (to_z w64 (of_z w64 z)))
count-cast z n e l = rw e (rw (back (pos n) (omega arith)) (tt, record { fits = omega arith }))

-- ---- the run of a channel
module _ {t roots scopes : List ℕ} {zs : List ℤ} {m : Resolved.Model} {s : State} (w : World t roots scopes zs m s) where
  pub rows_are : rows pair_width (pair_count zs) (pair_part zs) ≡ map pair_numbers s.pairs
  rows_are =
      ap (λ (n : ℕ). rows pair_width n (pair_part zs)) (pairs-are w) ∙ ap (λ (y : List ℤ). rows pair_width (length s.pairs) (pair_part y)) w.numbers
      ∙ pair-rows (scopes_of m) (few-scopes m w.good) m.channels s (good-fits m s w.good w.state)

  pub rows-ascend : ascends (rows pair_width (pair_count zs) (pair_part zs)) ≡ true
  rows-ascend = rw rows_are (climbing s.pairs w.state.ascending)

  run_at : (y : offers.Query) → let c = y.channel in RunIs s.pairs y (place_of (row_on c 0) (map pair_numbers s.pairs)) (place_of (row_on c 3) (map pair_numbers s.pairs))
  run_at y =
      let c = y.channel in
      let f = good-fits m s w.good w.state in
      let b = run-bound c m.channels s.pairs f.pairs w.state.ascending in
      let exact = run-exact c m.channels s.pairs f.pairs w.state.ascending in
      record {
        low = b.0;
        high = b.1;
        on = λ q x e l h. (exact q x e).0 (l, h);
        off = λ q x e h. matches-off y x (λ d. let r = (exact q x e).1 d in ⊎_elim (λ l. omega (arith, r.0)) (λ l. omega (arith, r.1)) h);
      }

  pub run-shown : (sh : ℕ) (a b c : ℤ) (y : offers.Query) (row : List ℤ) (from to : ℕ) → ShowsChannel sh a b c y.channel → row ≡ numbers_of sh a b c ++ pos 0 ∷ pos 0 ∷ pos 0 ∷ []
      → from ≡ place_of row (rows pair_width (pair_count zs) (pair_part zs)) → to ≡ place_of (set row channel_width (pos values_past)) (rows pair_width (pair_count zs) (pair_part zs)) → RunIs s.pairs y from to
  unfolding numbers_of
  run-shown sh a b c y row from to h w e f =
      let x = y.channel in
      let low : row ≡ row_on x 0 = w ∙ numbers-are x h (pos 0 ∷ pos 0 ∷ pos 0 ∷ []) in
      let high : set row channel_width (pos values_past) ≡ row_on x 3 = ap (λ (l : List ℤ). set l channel_width (pos values_past)) w ∙ numbers-are x h (pos 3 ∷ pos 0 ∷ pos 0 ∷ []) in
      rw (e, f) (rw rows_are (rw (high, low) (run_at y)))
