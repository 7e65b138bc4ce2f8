-- What a node says of the rate or scale that stands there, by its kind. By cases of the rate.
use mathlib.Core.Path.{◌≡◌, refl, ap, ◌∙◌}
use mathlib.Core.List.{List}
use mathlib.Core.Option.{Option, none, some}
use Prim.Native.Nat.{ℕ, suc, ◌*◌, ◌-◌, ◌≤◌}
use native.Mathlib.Omega.{arith}
use lib.IntN.{ℤ, pos, negsuc, neg_ℤ, ◌*ℤ◌}
use lib.ListN.{get_or}
use Rattle.value.specs.Range.{Value}
use Rattle.word.specs.Number.{unit}
use Rattle.tree.specs.Node.{kind_of, token_of, left_of}
use Rattle.model.specs.Resolved
use Rattle.tables.specs.Settled.{Scale, Rate, number_of}
use Rattle.tables.proofs.Numbers.{node-number, node-number-kind}
use Rattle.tables.proofs.Parts.{pair-above, pair-second}
use Rattle.model.specs.Good.{GoodRate}
use Rattle.machine.specs.Evaluate.{valued, given, in_rate, eval_scale, eval_rate}
use Rattle.std.specs.Prelude.{Some, None}
use Rattle.eval.specs.Held.{Held, Worth}
use Rattle.eval.specs.Rates.{Rate as Answer, rate_of, scale_answer, rate_answer}
use Rattle.eval.proofs.Exprs.{SomeExpr, IsExpr}

-- r is what the scale, or the rate, at k comes to
abbrev pub IsScale : List ℕ → List ℤ → ℕ → Answer → Type 0
IsScale t ls k r = Worth (Scale t) (scale_answer ls) k r

abbrev pub IsRate : List ℕ → List ℤ → ℕ → Answer → Type 0
IsRate t ls k r = Worth (Rate t) (rate_answer ls) k r

-- an answer that is a number comes from that number
pub rate-some : (o : Option ℕ) (n : ℕ) → Some n ≡ rate_of o → o ≡ some n
unfolding rate_of
rate-some (some m) n e = let i : n ≡ m = cc in rw i
rate-some none n e = let z : ◌≡◌ {A = ℕ} 0 1 = cc in absurd (omega arith)

pub rate-none : (o : Option ℕ) → None ≡ rate_of o → o ≡ none
unfolding rate_of
rate-none (some m) e = let z : ◌≡◌ {A = ℕ} 0 1 = cc in absurd (omega arith)
rate-none none e = refl

unit-times : (z : ℤ) → pos unit *ℤ z ≡ z *ℤ pos unit
unit-times (pos a) = ap pos (omega arith)
unit-times (negsuc a) =
    let e : unit * suc a ≡ suc a * unit = omega arith in ap (λ (q : ℕ). neg_ℤ (pos q)) e

module _ (t : List ℕ) (k kind : ℕ) (is : kind ≡ kind_of (get_or t k 0)) where
  pub fixed-is : (ls : List ℤ) → kind ≡ 29 → IsScale t ls k (rate_of (in_rate (number_of (get_or t k 0))))
  unfolding Scale eval_scale scale_answer
  fixed-is ls h (Resolved.fixed z) a = ap (λ (y : ℤ). rate_of (in_rate y)) (node-number a (omega arith))
  fixed-is ls h (Resolved.scale_local i) a = absurd (omega (arith, a.kind-is))

  pub local-is : (ls : List ℤ) → (kind ≡ 29 → ⊥) → IsScale t ls k (rate_of (in_rate (pos unit *ℤ get_or ls (token_of (get_or t k 0)) (pos 0))))
  unfolding Scale eval_scale scale_answer
  local-is ls h (Resolved.fixed z) a = absurd (h (is ∙ node-number-kind a (omega arith)))
  local-is ls h (Resolved.scale_local i) a =
      ap (λ (y : ℤ). rate_of (in_rate y)) (ap (λ (j : ℕ). pos unit *ℤ get_or ls j (pos 0)) a.index_is ∙ unit-times (get_or ls i (pos 0)))

  scale-not-scaled : {A : Type 0} (s : Resolved.Scale) → Scale t s k → kind ≡ 34 → A
  unfolding Scale
  scale-not-scaled (Resolved.fixed z) a h = absurd (omega (arith, node-number-kind a (omega arith)))
  scale-not-scaled (Resolved.scale_local i) a h = absurd (omega (arith, a.kind-is))

  pub plain-rate : (ls : List ℤ) (r : Answer) → (kind ≡ 34 → ⊥) → IsScale t ls k r → IsRate t ls k r
  unfolding Rate eval_rate rate_answer scale_answer
  plain-rate ls r h w (Resolved.plain s) a = w s a
  plain-rate ls r h w (Resolved.scaled s e) a = absurd (h (is ∙ a.kind-is))

  module _ (h : kind ≡ 34) where
    -- the atom of a rate
    pub atom-part : (n : ℕ) → Held (Rate t) (GoodRate n) k → (1 ≤ k) × SomeExpr t n (k - 1)
    unfolding Rate GoodRate
    atom-part n s = go s.part s.at s.fit
      where
        go : (r : Resolved.Rate) → Rate t r k → GoodRate n r → (1 ≤ k) × SomeExpr t n (k - 1)
        go (Resolved.plain s) a g = scale-not-scaled s a h
        go (Resolved.scaled s e) a g = (pair-above a, record { part = e; at = pair-second a; fit = g.1 })

    pub scaled-rate : (ls : List ℤ) (s : Answer) (x : Value) (r : Answer) → IsScale t ls (left_of (get_or t k 0)) s → IsExpr t ls (k - 1) x → ((o : Option ℕ) → s ≡ rate_of o → r ≡ rate_of (given o (λ n. valued x (λ v. in_rate (pos n *ℤ v))))) → IsRate t ls k r
    unfolding Rate eval_rate rate_answer scale_answer
    scaled-rate ls s x r v w u (Resolved.plain y) a = scale-not-scaled y a h
    scaled-rate ls s x r v w u (Resolved.scaled y e) a = rw (← w e (pair-second a)) (u (eval_scale ls y) (v y a.holds-first))

    pub scale-lacks : (ls : List ℤ) → IsScale t ls (left_of (get_or t k 0)) None → IsRate t ls k None
    unfolding Rate eval_rate rate_answer scale_answer given rate_of
    scale-lacks ls v (Resolved.plain y) a = scale-not-scaled y a h
    scale-lacks ls v (Resolved.scaled y e) a = rw (rate-none (eval_scale ls y) (v y a.holds-first))
