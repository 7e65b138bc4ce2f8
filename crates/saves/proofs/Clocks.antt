-- What the functions on a state with its clock say: each answer a case of its definition, where a place has both; and what is written.
use mathlib.Core.Path.{◌≡◌, refl, sym, ap, ap₂, ◌∙◌}
use mathlib.Core.Bool.{true, false}
use mathlib.Core.List.{List, [], ◌∷◌, ◌++◌, append_assoc}
use Prim.Native.Nat.{ℕ, suc, ◌+◌, ◌<◌}
use native.Mathlib.Omega.{arith}
use lib.IntN.{ℤ, pos}
use lib.ListN.{length, set, take, drop, length-append, length-take, length-drop, length-set, drop_of_length-le}
use native.Mathlib.Numerals.{add-one}
use lib.Seq.{take_all, set_at, drop-cons, drop-drop}
use mir.Syntax.{w64}
use mir.Val.{to_z}
use mir.Facts.{to_z_pos}
use Rattle.clock.specs.declared.Clock.{Clock}
use Rattle.clock.specs.Clock.{InRange}
use Rattle.machine.specs.State.{state_length}
use Rattle.machine.specs.Saves.{key_width, timed_length, place_width}
use Rattle.saves.specs.Places.{kept_part}
use Rattle.state.specs.Test.{at, is_state}
use Rattle.saves.specs.Kept.{besides, is_clock, is_kept}

-- ---- a state with its clock

module _ (scopes : List ℕ) (channels : ℕ) (l : List ℤ) where
  pub kept-fails : is_state scopes channels (take state_length l) ≡ false → is_kept scopes channels l ≡ false
  unfolding is_kept
  kept-fails e = rw e refl

  pub kept-rest : is_state scopes channels (take state_length l) ≡ true → is_kept scopes channels l ≡ is_clock (drop state_length l)
  unfolding is_kept
  kept-rest e = rw e refl

-- the last two numbers
pub last-two : (l : List ℤ) (n : ℕ) → length l ≡ n + 2 → drop n l ≡ at l n ∷ at l (n + 1) ∷ []
last-two l n h =
    drop-cons l n (pos 0) (omega arith)
    ∙ ap (λ (r : List ℤ). at l n ∷ r)
    (ap (λ (j : ℕ). drop j l) (sym (add-one n)) ∙ drop-cons l (n + 1) (pos 0) (omega arith) ∙ ap (λ (r : List ℤ). at l (n + 1) ∷ r) (drop_of_length-le l {i = suc (n + 1)} (omega arith)))

-- where a place has them
module _ (row : List ℤ) (w : length row ≡ place_width) where
  whole : kept_part row ≡ drop key_width row
  whole = take_all timed_length (drop key_width row) (simp length-drop (omega arith))

  pub state-there : take state_length (drop key_width row) ≡ take state_length (kept_part row)
  state-there = ap (take state_length) (sym whole)

  pub clock-there : drop state_length (kept_part row) ≡ at row 5124 ∷ at row 5125 ∷ []
  clock-there = ap (drop state_length) whole ∙ drop-drop state_length key_width row ∙ last-two row 5124 w

-- the length after the state's numbers, and one more, are written
pub kept-long : (ks zs xs : List ℤ) (z : ℤ) → length ks ≡ timed_length → length zs ≡ state_length → xs ≡ take state_length zs ++ drop state_length ks → 5123 < length (set xs 5122 z)
kept-long ks zs xs z h k e = let m : length xs ≡ timed_length = ap length e ∙ simp (length-append, length-take, length-drop) (omega arith) in simp length-set (omega arith)

-- a state's numbers, then two more
pub kept_put : (ks zs xs : List ℤ) (c : Clock) → length ks ≡ timed_length → length zs ≡ state_length → xs ≡ zs ++ drop state_length ks → InRange c
    → set (set xs 5122 (to_z w64 c.ticks)) 5123 (to_z w64 c.draws) ≡ besides zs c
kept_put ks zs xs c h k e g =
    let w = to_z w64 c.ticks in
    let v = to_z w64 c.draws in
    ap (λ (l : List ℤ). set (set l 5122 w) 5123 v) e
    ∙ by (drop state_length ks) (simp length-drop (omega arith))
    ∙ ap₂ (λ (y z : ℤ). zs ++ y ∷ z ∷ []) (to_z_pos w64 (omega (arith, g.ticks))) (to_z_pos w64 (omega (arith, g.draws)))
  where
    by : (l : List ℤ) → length l ≡ 2 → set (set (zs ++ l) 5122 (to_z w64 c.ticks)) 5123 (to_z w64 c.draws) ≡ zs ++ to_z w64 c.ticks ∷ to_z w64 c.draws ∷ []
    by [] q = absurd (omega arith)
    by (a ∷ []) q = absurd (omega arith)
    by (a ∷ b ∷ x ∷ l) q = absurd (omega arith)
    by (a ∷ b ∷ []) q =
        let y = to_z w64 c.ticks in
        let z = to_z w64 c.draws in
        ap (λ (l : List ℤ). set l 5123 z) (set_at zs a (b ∷ []) y 5122 k ∙ sym (append_assoc zs (y ∷ []) (b ∷ [])))
        ∙ set_at (zs ++ y ∷ []) b [] z 5123 (length-append zs (y ∷ []) ∙ omega arith)
        ∙ append_assoc zs (y ∷ []) (z ∷ [])
