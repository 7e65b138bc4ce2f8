-- A model buffer tells its text, the test passes on it where the text holds a model, and nothing else passes: from the laws of taking and dropping, and of quotient and remainder.
use mathlib.Core.Path.{◌≡◌, refl, sym, ap, ap₂, ◌∙◌}
use mathlib.Core.Bool.{Bool, true, false, cond, ◌&&◌}
use mathlib.Core.List.{List, [], ◌∷◌, ◌++◌}
use mathlib.Core.Logic.{◌↔◌}
use mathlib.Core.Option.{Option, none, some}
use Prim.Native.Nat.{ℕ, zero, suc, ◌+◌, ◌-◌, ◌*◌, ◌/◌, ◌%◌, ◌≤◌, ◌<◌}
use native.Mathlib.Nat.{mod-add-div, mod-eq_of_lt, div-eq_of_lt, add-mul-mod_self_left, add-mul-div_left}
use native.Mathlib.Omega.{arith}
use borrow.Author.Tests.{leb-true, le-leb, eqb-true}
use lib.Dec.{eqb, leb}
use lib.ListN.{length, get_or, take, drop, replicate, length-append, length-replicate, length-take, length-drop, take-append-drop, replicate-append-replicate}
use lib.Seq.{take_at, drop_at}
use Rattle.token.specs.Questions.{text_limit}
use Rattle.model.specs.Resolved.{Model}
use Rattle.model.specs.Held.{held}
use Rattle.model.proofs.Held.{held-good, held-short, empty-held}
use Rattle.model.specs.Good.{GoodModel}
use Rattle.machine.specs.Machine.{model_length}
use Rattle.buffers.specs.Held.{model_bytes, length_in, text_in, zeros, held_in}

-- ---- zeros

pub replicate-zeros : (n : ℕ) → zeros (replicate n 0) ≡ true
unfolding zeros
replicate-zeros zero = refl
replicate-zeros (suc n) = replicate-zeros n

and-true : (a b : Bool) → (a && b) ≡ true → (a ≡ true) × (b ≡ true)
and-true true b e = (refl, e)
and-true false b e = absurd (let z : ◌≡◌ {A = ℕ} 0 1 = cc in omega arith)

pub zeros-replicate : (bs : List ℕ) → zeros bs ≡ true → bs ≡ replicate (length bs) 0
unfolding zeros
zeros-replicate [] e = refl
zeros-replicate (b ∷ bs) e =
    let h = and-true (eqb b 0) (zeros bs) e in
    ap₂ (λ (c : ℕ) (cs : List ℕ). c ∷ cs) (eqb-true b 0 h.0) (zeros-replicate bs h.1)

-- ---- the buffer of a text

-- docs/LAYOUT.md: 16,386 bytes
pub bytes-length : (text : List ℕ) → length text ≤ text_limit → length (model_bytes text) ≡ model_length
unfolding model_bytes
bytes-length text h = omega (arith, length-append text (replicate (text_limit - length text) 0), length-replicate {A = ℕ} (text_limit - length text) 0)

pub length-in : (text : List ℕ) → length_in (model_bytes text) ≡ length text
unfolding length_in model_bytes
length-in text = mod-add-div (length text) 256

pub text_in_lem : (text : List ℕ) → text_in (model_bytes text) ≡ text
unfolding text_in model_bytes
text_in_lem text = take_at text (replicate (text_limit - length text) 0) (length_in (model_bytes text)) (sym (length-in text))

rest_in : (text : List ℕ) → zeros (drop (length_in (model_bytes text)) (drop 2 (model_bytes text))) ≡ true
unfolding model_bytes
rest_in text =
    ap zeros (drop_at text (replicate (text_limit - length text) 0) (length_in (model_bytes text)) (sym (length-in text))) ∙ replicate-zeros (text_limit - length text)

-- the test passes on it exactly where the text holds a model, which is the one held
pub held_in_lem : (text : List ℕ) → length text ≤ text_limit → held_in (model_bytes text) ≡ held text
unfolding held_in
held_in_lem text h =
    passed (leb (length_in (model_bytes text)) text_limit) _ _ (le-leb (length_in (model_bytes text)) text_limit (omega (arith, length-in text))) (rest_in text) ∙ ap held (text_in_lem text)
  where
    passed : (a b : Bool) (o : Option Model) → a ≡ true → b ≡ true → cond (a && b) o none ≡ o
    passed true true o e f = refl
    passed true false o e f = absurd (let z : ◌≡◌ {A = ℕ} 0 1 = cc in omega arith)
    passed false b o e f = absurd (let z : ◌≡◌ {A = ℕ} 0 1 = cc in omega arith)

pub text-held : (text : List ℕ) (m : Model) → held text ≡ some m → held_in (model_bytes text) ≡ some m
text-held text m e = held_in_lem text (held-short text m e) ∙ e

-- 01, State: buffers are equal exactly where their texts are
pub same_text : (text other : List ℕ) → (text ≡ other) ↔ (model_bytes text ≡ model_bytes other)
same_text text other = (λ e. ap model_bytes e, λ e. sym (text_in_lem text) ∙ ap text_in e ∙ text_in_lem other)

-- ---- a buffer that passes

-- what the test asks
pub record Passes (bs : List ℕ) (m : Model) : Type 0 where
  pub short : length_in bs ≤ text_limit
  pub rest : zeros (drop (length_in bs) (drop 2 bs)) ≡ true
  pub text : held (text_in bs) ≡ some m

pub passes : (bs : List ℕ) (m : Model) → held_in bs ≡ some m → Passes bs m
unfolding held_in
passes bs m e = by (leb (length_in bs) text_limit) (zeros (drop (length_in bs) (drop 2 bs))) refl refl e
  where
    by : (a b : Bool) → leb (length_in bs) text_limit ≡ a → zeros (drop (length_in bs) (drop 2 bs)) ≡ b → cond (a && b) (held (text_in bs)) none ≡ some m → Passes bs m
    by true true f g e = record { short = leb-true _ _ f; rest = g; text = e }
    by true false f g e = absurd (let z : ◌≡◌ {A = ℕ} 0 1 = cc in omega arith)
    by false b f g e = absurd (let z : ◌≡◌ {A = ℕ} 0 1 = cc in omega arith)

-- two bytes that hold n
low_byte : (a b : ℕ) → a < 256 → (a + 256 * b) % 256 ≡ a
low_byte a b h = add-mul-mod_self_left a 256 b ∙ mod-eq_of_lt h

high_byte : (a b : ℕ) → a < 256 → (a + 256 * b) / 256 ≡ b
high_byte a b h = let z : a / 256 ≡ 0 = div-eq_of_lt h in add-mul-div_left a b (omega arith) ∙ omega arith

-- what follows them
tail-bytes : (r : List ℕ) (n : ℕ) → length r ≡ text_limit → n ≤ text_limit → zeros (drop n r) ≡ true → r ≡ take n r ++ replicate (text_limit - length (take n r)) 0
tail-bytes r n l h z =
    let k : length (drop n r) ≡ text_limit - length (take n r) = omega (arith, length-take n r, length-drop n r) in
    sym (take-append-drop n r) ∙ ap (λ (t : List ℕ). take n r ++ t) (zeros-replicate (drop n r) z ∙ ap (λ (i : ℕ). replicate i 0) k)

-- 01, State: it holds the buffer of its text, and nothing beyond
pub bytes_back : (bs : List ℕ) (m : Model) → length bs ≡ model_length → get_or bs 0 0 < 256 → held_in bs ≡ some m → bs ≡ model_bytes (text_in bs)
unfolding length_in text_in model_bytes
bytes_back bs m l h e = by bs l h (passes bs m e).short (passes bs m e).rest
  where
    by : (bs : List ℕ) → length bs ≡ model_length → get_or bs 0 0 < 256 → length_in bs ≤ text_limit → zeros (drop (length_in bs) (drop 2 bs)) ≡ true → bs ≡ model_bytes (text_in bs)
    by [] l h s z = absurd (omega arith)
    by (a ∷ []) l h s z = absurd (omega arith)
    by (a ∷ b ∷ r) l h s z =
        let n : ℕ = a + 256 * b in
        let t : length (take n r) ≡ n = omega (arith, length-take n r) in
        joined (sym (ap (λ (i : ℕ). i % 256) t ∙ low_byte a b h)) (sym (ap (λ (i : ℕ). i / 256) t ∙ high_byte a b h)) (tail-bytes r n (omega arith) s z)
      where
        joined : {a b c d : ℕ} {u v : List ℕ} → a ≡ c → b ≡ d → u ≡ v → a ∷ b ∷ u ≡ c ∷ d ∷ v
        joined e f g = λ i. e i ∷ f i ∷ g i

-- 01, State: the test is exact
pub held-exactly : (bs : List ℕ) (m : Model) → length bs ≡ model_length → get_or bs 0 0 < 256 → (held_in bs ≡ some m) ↔ ((text : List ℕ) × (bs ≡ model_bytes text) × (held text ≡ some m))
held-exactly bs m l h = (λ e. (text_in bs, bytes_back bs m l h e, (passes bs m e).text), λ w. ap held_in w.1 ∙ text-held w.0 m w.2)

-- ---- which models are held

-- a model that a buffer holds fits together as the machine needs it
pub held_fits : (bs : List ℕ) (m : Model) → held_in bs ≡ some m → GoodModel m
held_fits bs m e = held-good (text_in bs) m (passes bs m e).text

-- 01, Fresh: zeros are the buffer of the empty text
pub zeros-bytes : replicate model_length 0 ≡ model_bytes []
unfolding model_bytes
zeros-bytes = two text_limit
  where
    two : (n : ℕ) → replicate {A = ℕ} (2 + n) 0 ≡ 0 ∷ 0 ∷ replicate n 0
    two n = sym (replicate-append-replicate 2 n 0)

-- which is no model text
pub fresh-holds-none : held_in (replicate model_length 0) ≡ none
fresh-holds-none = ap held_in zeros-bytes ∙ held_in_lem [] (omega arith) ∙ empty-held
