-- The test of bytes for zeros, and the bytes of a text in a cleared buffer. From the laws of parts.
use mathlib.Core.Path.{◌≡◌, refl, sym, ap, ap₂, ◌∙◌}
use mathlib.Core.List.{List, [], ◌∷◌, ◌++◌}
use mathlib.Core.Bool.{Bool, true, false, cond, ◌&&◌, and-true}
use mathlib.Core.Option.{Option, none}
use Prim.Native.Nat.{ℕ, suc, ◌+◌, ◌-◌, ◌/◌, ◌%◌, ◌≤◌, ◌<◌}
use native.Mathlib.Numerals.{add-one}
use native.Mathlib.Omega.{arith}
use lib.Bits.{bit_or}
use lib.Dec.{eqb, leb}
use lib.ListN.{length, get_or, take, drop, replicate, length-append, length-take, length-drop, length-replicate, replicate-append-replicate, drop_of_length-le}
use lib.Seq.{drop-cons, take_all, drop-drop}
use borrow.Author.Tests.{le-leb, lt-leb}
use borrow.Rule.Slice.PartMut.{put_mid}
use Rattle.std.proofs.lemmas.List.{drop-replicate}
use Rattle.token.specs.Questions.{text_limit}
use Rattle.model.specs.Resolved.{Model}
use Rattle.model.specs.Held.{held}
use Rattle.store.specs.Text.{TextOf}
use Rattle.state.proofs.Tests.{join-bits}
use Rattle.machine.specs.Machine.{model_length}
use Rattle.buffers.specs.Held.{model_bytes, length_in, text_in, zeros, held_in}

-- ---- zeros: n gathers the bits of the bytes before i
module _ (s : List ℕ) (n i : ℕ) (e : zeros s ≡ (eqb n 0 && zeros (drop i s))) where
  pub zeros-on : i < length s → zeros s ≡ (eqb (bit_or n (get_or s i 0)) 0 && zeros (drop (i + 1) s))
  unfolding zeros
  zeros-on l =
      e ∙ ap (λ (t : List ℕ). eqb n 0 && zeros t) (drop-cons s i 0 l)
      ∙ join-bits n (get_or s i 0) (zeros (drop (suc i) s))
      ∙ ap (λ (j : ℕ). eqb (bit_or n (get_or s i 0)) 0 && zeros (drop j s)) (sym (add-one i))

  pub zeros-done : length s ≤ i → eqb n 0 ≡ zeros s
  unfolding zeros
  zeros-done l = sym (e ∙ ap (λ (t : List ℕ). eqb n 0 && zeros t) (drop_of_length-le s {i = i} l) ∙ and-true (eqb n 0))

-- ---- cleared buffers

-- zeros have room for a header, also with a part after it rewritten
pub header-room : {A : Type 0} (n k : ℕ) (s g : List A) (z : A) → 2 ≤ n → s ≡ replicate n z → (2 ≤ length s) × (2 ≤ length (put_mid 2 k s g))
header-room {A} n k s g z h e =
    let l : length s ≡ n = ap length e ∙ length-replicate n z in
    (omega (arith, l), before (take 2 s) (g ++ drop k (drop 2 s)) (simp length-take (omega (arith, l))))
  where
    before : (a b : List A) → 2 ≤ length a → 2 ≤ length (a ++ b)
    before a b h = omega (arith, h, length-append a b)

-- 01, Fresh: a header of zeros over zeros
pub fresh-header : {A : Type 0} (n : ℕ) (x : List A) (z : A) → 2 ≤ n → x ≡ z ∷ z ∷ drop 2 (replicate n z) → x ≡ replicate n z
fresh-header {A} n x z h e =
    let r : 2 + (n - 2) ≡ n = omega arith in
    e ∙ ap (λ (l : List A). z ∷ z ∷ l) (drop-replicate 2 n z) ∙ replicate-append-replicate 2 (n - 2) z ∙ ap (λ (i : ℕ). replicate i z) r

-- ---- a text in a cleared buffer

pub text-put : (text m h ys : List ℕ) → m ≡ replicate model_length 0 → h ≡ length text % 256 ∷ length text / 256 ∷ []
    → ys ≡ text → put_mid 2 (2 + length text - 2) (h ++ drop 2 m) ys ≡ model_bytes text
unfolding model_bytes
text-put text m h ys c e f =
    let a : ℕ = length text % 256 in
    let b : ℕ = length text / 256 in
    let k : 2 + length text - 2 ≡ length text = omega arith in
    let q : h ++ drop 2 m ≡ a ∷ b ∷ replicate text_limit 0 = ap₂ (λ (g r : List ℕ). g ++ r) e (ap (drop 2) c ∙ drop-replicate 2 model_length 0) in
    let x : List ℕ = h ++ drop 2 m in
    ap (λ (r : List ℕ). take 2 x ++ (r ++ drop (2 + length text - 2) (drop 2 x))) f
    ∙ ap (λ (n : ℕ). take 2 x ++ (text ++ drop n (drop 2 x))) k
    ∙ ap (λ (r : List ℕ). take 2 r ++ (text ++ drop (length text) (drop 2 r))) q
    ∙ ap (λ (r : List ℕ). a ∷ b ∷ (text ++ r)) (drop-replicate (length text) text_limit 0)

-- ---- the text in a buffer
module _ (bs : List ℕ) (n : ℕ) (e : n ≡ length_in bs) where
  by : (a b : Bool) (o : Option Model) → leb (length_in bs) text_limit ≡ a → zeros (drop (length_in bs) (drop 2 bs)) ≡ b → held_in bs ≡ cond (a && b) (held (text_in bs)) none
  unfolding held_in
  by a b o f g = rw (f, g)

  -- where the rest of the buffer is looked at
  rest_at : zeros (drop (2 + n) bs) ≡ zeros (drop (length_in bs) (drop 2 bs))
  rest_at = rw (drop-drop (length_in bs) 2 bs, ← e)

  part_at : zeros (take (length bs - (2 + n)) (drop (2 + n) bs)) ≡ zeros (drop (length_in bs) (drop 2 bs))
  part_at = ap zeros (take_all (length bs - (2 + n)) (drop (2 + n) bs) (simp length-drop (omega arith))) ∙ rest_at

  pub too_long : text_limit < n → held_in bs ≡ none
  too_long h = by false (zeros (drop (length_in bs) (drop 2 bs))) none (lt-leb (length_in bs) text_limit (omega arith)) refl

  pub not-clear : n ≤ text_limit → zeros (take (length bs - (2 + n)) (drop (2 + n) bs)) ≡ false → held_in bs ≡ none
  not-clear h z = by true false none (le-leb (length_in bs) text_limit (omega arith)) (sym part_at ∙ z)

  clear-after : n ≤ text_limit → zeros (take (length bs - (2 + n)) (drop (2 + n) bs)) ≡ true → held_in bs ≡ held (text_in bs)
  clear-after h z = by true true none (le-leb (length_in bs) text_limit (omega arith)) (sym part_at ∙ z)

  pub text-found : length bs ≡ model_length → n ≤ text_limit → zeros (take (length bs - (2 + n)) (drop (2 + n) bs)) ≡ true → TextOf bs (take (2 + n - 2) (drop 2 bs))
  unfolding text_in
  text-found f h z =
      let k : 2 + n - 2 ≡ length_in bs = omega (arith, e) in
      let t : take (2 + n - 2) (drop 2 bs) ≡ text_in bs = ap (λ (i : ℕ). take i (drop 2 bs)) k in
      let l : length (take (2 + n - 2) (drop 2 bs)) ≡ n = simp (length-take, length-drop) (omega (arith, f)) in
      record { is = t; long = l ∙ e; short = simp length-take (omega arith); holds = clear-after h z ∙ ap held (sym t) }
