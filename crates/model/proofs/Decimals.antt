-- A decimal of the syntax tree is a decimal token of the text, and where that has few digits its ten-thousandths are few. From where branches and
-- variables are written, and the bounds of digits.
use mathlib.Core.Path.{◌≡◌, refl, sym, ap, ◌∙◌}
use mathlib.Core.List.{List, [], ◌∷◌}
use mathlib.Core.Bool.{Bool, true, false}
use mathlib.Core.Option.{some}
use Prim.Native.Nat.{ℕ, zero, suc, ◌+◌, ◌*◌, ◌-◌, ◌^◌, ◌≤◌}
use native.Mathlib.Nat.{mul-le-mul, pow-le-pow_right}
use native.Mathlib.Omega.{arith}
use lib.IntN.{nat_abs}
use lib.ListN.{length, drop, get_elem?}
use Rattle.value.proofs.Sizes.{abs-minus}
use Rattle.word.specs.Number.{worth, whole_digits, fraction_digits, ten_thousandths}
use Rattle.word.proofs.Digits.{worth-few}
use Rattle.token.specs.Kind as kind
use Rattle.token.specs.Token.{Mark, column, kinds_of}
use Rattle.token.specs.Contents.{before_point, after_point}
use Rattle.grammar.specs.Grammar as derived
use Rattle.grammar.specs.Grammar.{flat_whole, flat_number, flat_action, flat_scale, flat_rate, flat_gate, flat_prefix}
use Rattle.grammar.specs.Syntax
use Rattle.grammar.specs.Syntax.{wide, number_at, scale_at, rate_at, branch_at}
use Rattle.grammar.proofs.Wide.{wide-action, wide-gate}
use Rattle.model.specs.Words.{decimal_of}
use Rattle.model.specs.Good.{scale_limit}
use Rattle.model.proofs.Members.{never}
use Rattle.model.proofs.Origins.{past, next-token, token-is, Written, NumberWritten}
use Rattle.model.specs.Faultless.{scale_of}

-- ---- a decimal's token

impossible : {A : Type 0} {b c : Bool} {j k : ℕ} → Syntax.number b false j ≡ Syntax.number c true k → A
impossible e = absurd (let z : ◌≡◌ {A = ℕ} 0 1 = cc in omega arith)

named-no : {A : Type 0} {j : ℕ} {v : Syntax.Number} → Syntax.named_scale j ≡ Syntax.fixed v → A
named-no e = absurd (let z : ◌≡◌ {A = ℕ} 0 1 = cc in omega arith)

module _ (ts : List ℕ) where
  number-decimal : (v : derived.Number) (k : ℕ) (us : List ℕ) (b : Bool) (j : ℕ) → drop k ts ≡ flat_number v us → number_at v k ≡ Syntax.number b true j → get_elem? ts j ≡ some kind.decimal
  unfolding flat_number flat_whole number_at
  number-decimal (derived.integer derived.whole) k us b j e q = impossible q
  number-decimal (derived.integer derived.negative) k us b j e q = impossible q
  number-decimal derived.decimal k us b j e q = let d : k ≡ j = cc in rw (← d) (token-is ts k e)
  number-decimal derived.negative_decimal k us b j e q = let d : k + 1 ≡ j = cc in rw (← d) (token-is ts (k + 1) (next-token ts k e))

  scale-decimal : (s : derived.Scale) (k : ℕ) (us : List ℕ) (b : Bool) (j : ℕ) → drop k ts ≡ flat_scale s us → scale_at s k ≡ Syntax.fixed (Syntax.number b true j) → get_elem? ts j ≡ some kind.decimal
  unfolding flat_scale scale_at
  scale-decimal (derived.fixed n) k us b j e q = number-decimal n k us b j e cc
  scale-decimal derived.named k us b j e q = named-no q

  rate-decimal : (r : derived.Rate) (k : ℕ) (us : List ℕ) (b : Bool) (j : ℕ) → drop k ts ≡ flat_rate r us → scale_of (rate_at r k) ≡ Syntax.fixed (Syntax.number b true j) → get_elem? ts j ≡ some kind.decimal
  unfolding flat_rate rate_at
  rate-decimal (derived.plain s) k us b j e q = scale-decimal s k us b j e q
  rate-decimal (derived.scaled s a) k us b j e q = scale-decimal s k _ b j e q

  rate_in : Syntax.Branch → Syntax.Rate
  rate_in (Syntax.branch k g a r x) = r

  prefix-decimal : (p : derived.Prefix) (k n : ℕ) (us : List ℕ) (b : Bool) (j : ℕ) → drop k ts ≡ flat_prefix p us → scale_of (rate_in (branch_at p k n)) ≡ Syntax.fixed (Syntax.number b true j) → get_elem? ts j ≡ some kind.decimal
  unfolding flat_prefix branch_at rate_in
  prefix-decimal (derived.prefix g a r x) k n us b j e q =
      let e₁ = next-token ts (k + wide (flat_gate g)) (past ts k _ (wide-gate g) e) in
      let e₂ = next-token ts (k + wide (flat_gate g) + 1 + wide (flat_action a)) (past ts (k + wide (flat_gate g) + 1) _ (wide-action a) e₁) in
      rate-decimal r _ _ b j e₂ q

  -- of a rate
  pub decimal-rate : {k : ℕ} {g : Syntax.Gate} {a : Syntax.Action} {r : Syntax.Rate} {x : Syntax.Next} (b : Bool) (j : ℕ) → Written ts (Syntax.branch k g a r x) → scale_of r ≡ Syntax.fixed (Syntax.number b true j) → get_elem? ts j ≡ some kind.decimal
  unfolding rate_in
  decimal-rate b j h q =
      prefix-decimal h.prefix h.place h.number h.rest b j h.text (ap (λ (y : Syntax.Branch). scale_of (rate_in y)) (sym h.tree) ∙ q)

  -- of a variable
  pub decimal-variable : {v : Syntax.Number} (b : Bool) (j : ℕ) → NumberWritten ts v → v ≡ Syntax.number b true j → get_elem? ts j ≡ some kind.decimal
  decimal-variable b j h q = number-decimal h.number h.place h.rest b j h.text (sym h.tree ∙ q)

pub kind-mark : {k : ℕ} (ms : List Mark) (j : ℕ) → get_elem? (kinds_of ms) j ≡ some k → (t : Mark) × (get_elem? ms j ≡ some t) × (t.kind ≡ k)
unfolding column
kind-mark [] j e = never e
kind-mark (t ∷ ms) zero e = (t, refl, cc)
kind-mark (t ∷ ms) (suc j) e = kind-mark ms j e

-- ---- how large it is

few-large : (s t : List ℕ) → length s ≤ whole_digits → length t ≤ fraction_digits → ten_thousandths s t ≤ scale_limit
unfolding ten_thousandths
few-large s t h g =
    let a = worth-few whole_digits s h in
    let b = worth-few fraction_digits t g in
    let k : fraction_digits - length t ≤ 4 = omega arith in
    let z : 10 ^ (fraction_digits - length t) ≤ 10 ^ 4 = pow-le-pow_right (omega arith) k in
    let x : worth 0 t ≤ 10000 = omega arith in
    let y : 10 ^ (fraction_digits - length t) ≤ 10000 = omega arith in
    let c : worth 0 t * 10 ^ (fraction_digits - length t) ≤ 10000 * 10000 = mul-le-mul x y in
    omega arith

pub decimal-large : (w : ℕ → List ℕ) (b : Bool) (k : ℕ) → length (before_point (w k)) ≤ whole_digits → length (after_point (w k)) ≤ fraction_digits → nat_abs (decimal_of w b k) ≤ scale_limit
unfolding decimal_of
decimal-large w true k h g = rw (abs-minus (ten_thousandths (before_point (w k)) (after_point (w k)))) (few-large _ _ h g)
decimal-large w false k h g = few-large _ _ h g
