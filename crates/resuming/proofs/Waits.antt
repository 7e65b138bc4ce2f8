-- The name of a wait's number, in the text, and what a search to it goes over. From where the words of tokens stand.
use mathlib.Core.Path.{◌≡◌, refl, sym, ap, ◌∙◌}
use mathlib.Core.List.{List, [], ◌∷◌}
use mathlib.Core.Bool.{true, false}
use mathlib.Core.Option.{none, some}
use Prim.Native.Nat.{ℕ, zero, suc, ◌-◌, ◌≤◌, ◌<◌}
use native.Mathlib.Omega.{arith}
use lib.ListN.{length, get_or}
use Rattle.model.specs.Lists.{each}
use Rattle.model.specs.Resolved
use Rattle.waitnames.specs.Names.{name_tokens, wait_names}
use Rattle.machine.specs.State.{State}
use Rattle.machine.specs.Machine.{moves_by}
use Rattle.underway.specs.Buffer.{wait_of}
use Rattle.pieces.specs.Walked.{moves_as}

names-long : (w : ℕ → List ℕ) (ks : List ℕ) → length (each (λ (k : ℕ). w k ∷ []) ks) ≡ length ks
unfolding each
names-long w [] = refl
names-long w (k ∷ ks) = ap suc (names-long w ks)

pub waits-long : (m : Resolved.Model) → length (wait_names m) ≡ length (name_tokens m)
unfolding wait_names
waits-long m = names-long m.words (name_tokens m)

name-at : (w : ℕ → List ℕ) (ks : List ℕ) (n : ℕ) → n < length ks → get_or (each (λ (k : ℕ). w k ∷ []) ks) n [] ≡ w (get_or ks n 0)
unfolding each
name-at w [] n l = absurd (omega (arith, l))
name-at w (k ∷ ks) zero l = refl
name-at w (k ∷ ks) (suc n) l = name-at w ks n (omega (arith, l))

module _ (m : Resolved.Model) where
  -- to none
  wait-at : (n : ℕ) → n < length (name_tokens m) → get_or (wait_names m) n [] ≡ m.words (get_or (name_tokens m) n 0)
  unfolding wait_names
  wait-at n l = name-at m.words (name_tokens m) n l

  none-at : (s : State) → moves_as m false [] s ≡ moves_by m none s
  unfolding moves_as moves_by
  none-at s = refl

  some-at : (n : ℕ) (s : State) → moves_as m true (get_or (wait_names m) n []) s ≡ moves_by m (some n) s
  unfolding moves_as moves_by
  some-at n s = refl

  pub ways-none : (code : ℕ) → code ≡ 0 → moves_as m false [] ≡ moves_by m (wait_of code)
  unfolding wait_of
  ways-none code e = let p : moves_as m false [] ≡ moves_by m none = λ i s. none-at s i in rw e p

  -- to the wait of this code
  pub ways-some : (code : ℕ) (waits name : List ℕ) → (code ≡ 0 → ⊥) → code ≤ length waits → waits ≡ name_tokens m → name ≡ m.words (get_or waits (code - 1) 0) → moves_as m true name ≡ moves_by m (wait_of code)
  unfolding wait_of
  ways-some zero waits name z l e p = absurd (z refl)
  ways-some (suc n) waits name z l e p =
      let k : suc n - 1 ≡ n = omega arith in
      let j : n < length waits = omega (arith, l) in
      let a : n < length (name_tokens m) = rw e at j in
      let q : name ≡ get_or (wait_names m) n [] = p ∙ ap (λ (i : ℕ). m.words (get_or waits i 0)) k ∙ ap (λ (ks : List ℕ). m.words (get_or ks n 0)) e ∙ sym (wait-at n a) in
      let t : moves_as m true (get_or (wait_names m) n []) ≡ moves_by m (some n) = λ i s. some-at n s i in
      ap (moves_as m true) q ∙ t
